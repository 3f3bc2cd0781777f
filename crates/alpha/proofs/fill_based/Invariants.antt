-- `alpha::fill_based` meets its contract: the first i units stand in the buffer.
-- Assumes nothing.
use Rattle.alpha.proofs.Bases.{Placed}
use Rattle.alpha.proofs.fill_based.Given as goal

abbrev pub invariant-loop-i : goal.invariant-loop-i
invariant-loop-i l = Placed l.pointer l.s l.initial.out l.i l.out
