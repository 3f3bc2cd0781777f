-- `alpha::write_based` meets its contract: the first bytes stand from `at` on.
-- Assumes nothing.
use Rattle.alpha.proofs.Layings.{Basing}
use Rattle.alpha.proofs.write_based.Given as goal

abbrev pub invariant-loop-i : goal.invariant-loop-i
invariant-loop-i l = Basing l.pointer l.units l.initial.out l.at l.i l.out
