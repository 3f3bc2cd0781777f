-- `bench_reader::object_of` meets its contract: no object, one with another tag, or that one.
-- Assumes nothing.
use native.Mathlib.Omega.{arith}
use Rattle.bench_reader.proofs.Standing.{object_missed, object_met, stands_before, other_tag, that_tag}
use Rattle.bench_reader.proofs.object_of.Goals as goal

pub returns-in_err-object : goal.returns-in_err-object
returns-in_err-object c = rw c.from_residual.ensures (object_missed _ _ _ _ c.object.ensures c.in_err-object.ensures.value c.requires)

pub bounds-s-c : goal.bounds-s-c
bounds-s-c c = stands_before (object_met _ _ _ c.object.ensures c.in_ok-object.ensures.value)

pub returns-then-s-c : goal.returns-then-s-c
returns-then-s-c c = other_tag _ _ _ (object_met _ _ _ c.object.ensures c.in_ok-object.ensures.value) (omega arith) c.if-s-c.true

pub returns : goal.returns
returns c = that_tag _ _ _ (object_met _ _ _ c.object.ensures c.in_ok-object.ensures.value) (omega arith) c.requires c.if-s-c.false
