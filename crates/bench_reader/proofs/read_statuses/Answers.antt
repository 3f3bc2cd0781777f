-- `bench_reader::read_statuses` meets its contract: none, or statuses that rise.
-- Assumes nothing.
use native.Mathlib.Omega.{arith}
use Rattle.bench_reader.proofs.Standing.{pair_there, follows_as}
use Rattle.bench_reader.proofs.Rising.{statuses_missed, statuses_none, statuses_some}
use Rattle.bench_reader.proofs.read_statuses.Goals as goal

pub returns-in_err-first : goal.returns-in_err-first
returns-in_err-first c = λ d x. rw c.from_residual.ensures (statuses_missed d x c.in_err-first.ensures)

pub returns-then-first-ne0 : goal.returns-then-first-ne0
returns-then-first-ne0 c =
    λ d x. follows_as d x _ _ (statuses_some d x (pair_there c.in_ok-first.ensures) (λ z. let e = c.then-first-ne0.either in omega arith)) (c.read_rising.ensures d x)

pub returns : goal.returns
returns c = λ d x. statuses_none d x (pair_there c.in_ok-first.ensures) c.if-first-ne0.false c.if-second-ne0.false
