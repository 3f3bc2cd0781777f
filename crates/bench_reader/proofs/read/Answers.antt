-- `bench_reader::read` meets its contract: the details, the devices, and what follows.
-- Assumes nothing.
use native.Mathlib.Omega.{arith}
use Rattle.bench_reader.proofs.Standing.{pair_there}
use Rattle.bench_reader.proofs.Ruling.{details_missed, devices_missed, devices_unfit, devices_fit}
use Rattle.bench_reader.proofs.read.Goals as goal

pub returns-in_err-number : goal.returns-in_err-number
returns-in_err-number c = rw c.from_residual.ensures (details_missed _ c.in_err-number.ensures)

pub returns-in_err-source : goal.returns-in_err-source
returns-in_err-source c = rw c.from_residual-in_err-source.ensures (devices_missed _ c.in_ok-number.ensures c.in_err-source.ensures)

pub returns-then-source : goal.returns-then-source
returns-then-source c = devices_unfit _ c.in_ok-number.ensures (pair_there c.in_ok-source.ensures) (λ z. let e = c.then-source.either in omega arith)

pub returns : goal.returns
returns c = devices_fit _ c.in_ok-number.ensures (pair_there c.in_ok-source.ensures) c.if-source.false c.if-destination.false c.read_result.ensures
