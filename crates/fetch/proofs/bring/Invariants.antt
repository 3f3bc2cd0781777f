-- `fetch::bring` meets its contract: at each turn as many bytes are brought as are surely lacking.
-- Assumes nothing.
use Prim.Native.Nat.{◌-◌}
use lib.ListN.{length}
use Rattle.fetch.proofs.Bringing.{Bringing}
use Rattle.fetch.proofs.bring.Given as goal

abbrev pub invariant-loop-taken : goal.invariant-loop-taken
invariant-loop-taken l = Bringing l.initial.gathered l.held l.bytes l.gathered l.taken

abbrev pub decreases-loop-taken : goal.decreases-loop-taken
decreases-loop-taken l = length l.bytes - l.taken
