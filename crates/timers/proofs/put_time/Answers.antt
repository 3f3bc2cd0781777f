-- `timers::put_time` meets its contract: three numbers, one after the other.
-- Assumes nothing.
use native.Mathlib.Omega.{arith}
use Rattle.timers.proofs.Writes.{time_put}
use Rattle.timers.proofs.put_time.Goals as goal

pub returns : goal.returns
returns c = time_put c.args.ledger.now _ c.args.t (omega (arith, c.requires))
