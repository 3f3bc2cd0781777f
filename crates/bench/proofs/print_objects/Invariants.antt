-- `bench::print_objects` meets its contract: what is printed from here completes the line.
-- Assumes nothing.
use Prim.Native.Nat.{◌-◌}
use lib.ListN.{length}
use Rattle.bench.proofs.Objects.{Going}
use Rattle.bench.proofs.print_objects.Given as goal

abbrev pub invariant-loop-object : goal.invariant-loop-object
invariant-loop-object l = Going l.s l.initial.out l.at l.initial.c.at l.out l.end l.c.at

abbrev pub decreases-loop-object : goal.decreases-loop-object
decreases-loop-object l = length l.s - l.c.at
