-- `alpha::Survey::of` meets its contract: the survey of the units before here.
-- Assumes nothing.
use Rattle.alpha.proofs.Surveys.{Surveys}
use Rattle.alpha.proofs.Survey.of.Given as goal

abbrev pub invariant-loop-unit : goal.invariant-loop-unit
invariant-loop-unit l = Surveys l.units l.unit-index l.s
