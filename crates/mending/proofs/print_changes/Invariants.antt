-- `mending::print_changes` meets its contract: at every turn the text of the changes from here on is left to be printed.
-- Assumes nothing.
use Prim.Native.Nat.{◌-◌}
use lib.ListN.{length, drop}
use Rattle.mending.specs.Mends.{mend_from}
use Rattle.mending.specs.Printed.{changes_text}
use Rattle.mending.proofs.Left.{Left}
use Rattle.mending.proofs.print_changes.Given as goal

abbrev pub invariant-loop-object : goal.invariant-loop-object
invariant-loop-object l = Left (changes_text (mend_from l.from (drop l.from l.s)).changes) (changes_text (mend_from l.at (drop l.at l.s)).changes) l.initial.out l.start l.out l.to

abbrev pub decreases-loop-object : goal.decreases-loop-object
decreases-loop-object l = length l.s - l.at
