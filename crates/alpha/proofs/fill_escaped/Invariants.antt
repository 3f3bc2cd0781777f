-- `alpha::fill_escaped` meets its contract: the first n units stand in the buffer.
-- Assumes nothing.
use lib.ListN.{length}
use Rattle.alpha.proofs.Defaults.{Filling}
use Rattle.alpha.proofs.fill_escaped.Given as goal

abbrev pub invariant-loop-unit : goal.invariant-loop-unit
invariant-loop-unit l = Filling l.s l.initial.out l.n l.rest l.out

abbrev pub decreases-loop-unit : goal.decreases-loop-unit
decreases-loop-unit l = length l.rest
