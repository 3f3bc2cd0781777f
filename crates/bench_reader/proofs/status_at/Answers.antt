-- `bench_reader::status_at` meets its contract, link by link.
-- Assumes nothing.
use native.Mathlib.Omega.{arith}
use Rattle.bench_reader.proofs.Rising.{as_not_yet, as_established, as_dropped}
use Rattle.bench_reader.proofs.status_at.Goals as goal

pub returns-in-1-to-7-eq0 : goal.returns-in-1-to-7-eq0
returns-in-1-to-7-eq0 c = as_not_yet c.in_ok-first.ensures c.in-1-to-7-eq0.is-1 (omega arith) (omega arith)

pub returns-in-129-to-135-eq0 : goal.returns-in-129-to-135-eq0
returns-in-129-to-135-eq0 c = as_established c.in_ok-first.ensures c.in-129-to-135-eq0.is-1 (omega arith) (omega arith)

pub returns-in-1-to-7-eq5 : goal.returns-in-1-to-7-eq5
returns-in-1-to-7-eq5 c = as_dropped c.in_ok-first.ensures c.in-1-to-7-eq5.is-1 (omega arith) (omega arith)
