-- `alpha::write_pairs` meets its contract: the first pairs stand behind the mark.
-- Assumes nothing.
use Rattle.alpha.proofs.Layings.{Pairing}
use Rattle.alpha.proofs.write_pairs.Given as goal

abbrev pub invariant-loop-i : goal.invariant-loop-i
invariant-loop-i l = Pairing l.units l.initial.out l.i l.out
