-- `mending::mend_objects` meets its contract: at every turn what comes out from here on is left to be written.
-- Assumes nothing.
use Prim.Native.Nat.{◌-◌}
use lib.ListN.{length, drop}
use Rattle.mending.specs.Mends.{mend_from}
use Rattle.mending.proofs.Left.{Left}
use Rattle.mending.proofs.mend_objects.Given as goal

abbrev pub invariant-loop-sized : goal.invariant-loop-sized
invariant-loop-sized l = Left (mend_from l.from (drop l.from l.s)).bytes (mend_from l.at (drop l.at l.s)).bytes l.initial.out 0 l.out l.count

abbrev pub decreases-loop-sized : goal.decreases-loop-sized
decreases-loop-sized l = length l.s - l.at
