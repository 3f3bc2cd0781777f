-- `alpha::print_further` meets its contract: the units before here are printed.
-- Assumes nothing.
use Rattle.alpha.proofs.Lines.{Further}
use Rattle.alpha.proofs.print_further.Given as goal

abbrev pub invariant-loop-unit : goal.invariant-loop-unit
invariant-loop-unit l = Further l.units l.initial.out l.at l.end l.unit-index l.out
