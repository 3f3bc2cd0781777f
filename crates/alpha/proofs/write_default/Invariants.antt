-- `alpha::write_default` meets its contract: the rest of the units gives the rest of the bytes.
-- Assumes nothing.
use Rattle.alpha.proofs.Layings.{Laying}
use Rattle.alpha.proofs.write_default.Given as goal

abbrev pub invariant-loop-unit : goal.invariant-loop-unit
invariant-loop-unit l = Laying l.units l.initial.out l.n l.unit-index l.out
