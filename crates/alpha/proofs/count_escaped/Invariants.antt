-- `alpha::count_escaped` meets its contract: n units stood before the rest.
-- Assumes nothing.
use lib.ListN.{length}
use Rattle.alpha.proofs.Defaults.{Counting}
use Rattle.alpha.proofs.count_escaped.Given as goal

abbrev pub invariant-loop-behind : goal.invariant-loop-behind
invariant-loop-behind l = Counting l.s l.n l.rest

abbrev pub decreases-loop-behind : goal.decreases-loop-behind
decreases-loop-behind l = length l.rest
