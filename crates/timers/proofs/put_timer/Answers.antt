-- `timers::put_timer` meets its contract: one time behind the other.
-- Assumes nothing.
use native.Mathlib.Omega.{arith}
use Rattle.timers.proofs.Writes.{timer_put}
use Rattle.timers.proofs.put_timer.Goals as goal

pub put_time-requires : goal.put_time-requires
put_time-requires c = omega (arith, c.requires)

pub put_time-requires-2 : goal.put_time-requires-2
put_time-requires-2 c = omega (arith, c.requires)

pub returns : goal.returns
returns c = timer_put c.args.ledger.now _ _ _ _ _ (omega (arith, c.requires)) c.put_time.ensures c.put_time-2.ensures
