-- `alpha::Survey::of` meets its contract: the survey of the units before here.
-- Assumes nothing.
use Rattle.alpha.proofs.Surveys.{surveys_more, surveys_end}
use Rattle.alpha.proofs.Survey.of.Goals as goal

pub loop-unit-preserved : goal.loop-unit-preserved
loop-unit-preserved c = surveys_more _ _ _ c.loop-unit.invariant _ c.loop-unit-test.true c.behind-s.ensures

pub returns : goal.returns
returns c = surveys_end _ _ _ c.loop-unit.invariant c.loop-unit-test.false
