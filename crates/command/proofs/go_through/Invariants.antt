-- `command::go_through` meets its contract: at every turn the objects before here are sorted.
-- Assumes nothing.
use Prim.Native.Nat.{◌-◌}
use lib.ListN.{length}
use Rattle.command.proofs.Sorting.{Sorting}
use Rattle.command.proofs.go_through.Given as goal

abbrev pub invariant-loop-c : goal.invariant-loop-c
invariant-loop-c l = Sorting l.s l.met l.v.survey l.c.at

abbrev pub decreases-loop-c : goal.decreases-loop-c
decreases-loop-c l = length l.s - l.c.at
