-- `tools::Machine::fill` meets its contract: what holds between two lines of the chunk.
-- Assumes nothing.
use Prim.Native.Nat.{◌-◌}
use lib.ListN.{length}
use Rattle.flow.proofs.Filling.{Filling}
use Rattle.tools.specs.Tools.{kept_in, ends}
use Rattle.tools.specs.Machines.{held_by, reader_of}
use Rattle.tools.proofs.Machine.fill.Given as goal

abbrev pub invariant-loop-progress : goal.invariant-loop-progress
invariant-loop-progress l =
    Filling kept_in (ends l.tool) (reader_of l.initial.self) l.chunk l.initial.out (held_by l.self) l.progress l.out

abbrev pub decreases-loop-progress : goal.decreases-loop-progress
decreases-loop-progress l = length l.chunk - l.progress.next
