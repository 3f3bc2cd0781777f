-- `timers::waits` meets its contract: no time is left, and one was started.
-- Assumes nothing.
use native.Mathlib.Omega.{arith}
use Rattle.timers.proofs.Seconds.{waits_not, waits_so}
use Rattle.timers.proofs.waits.Goals as goal

pub time_at-requires : goal.time_at-requires
time_at-requires c = omega (arith, c.requires)

pub returns-then-not-is_zero : goal.returns-then-not-is_zero
returns-then-not-is_zero c = waits_not _ _ c.time_at.ensures c.is_zero.ensures (mathlib.Core.Path.ap mathlib.Core.Bool.not c.if-not-is_zero.true)

pub time_at-requires-2 : goal.time_at-requires-2
time_at-requires-2 c = omega (arith, c.requires)

pub returns : goal.returns
returns c = waits_so _ _ c.time_at.ensures c.is_zero.ensures (mathlib.Core.Path.ap mathlib.Core.Bool.not c.if-not-is_zero.false) c.time_at-2.ensures c.is_zero-2.ensures
