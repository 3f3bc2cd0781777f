-- `alpha::count_escaped` meets its contract: n units stood before the rest, which has ended or is malformed.
-- Assumes nothing.
use mathlib.Core.Path.{◌∙◌}
use Rattle.alpha.proofs.Defaults.{counting_none, counting_more, counting_told}
use Rattle.alpha.proofs.count_escaped.Goals as goal

pub loop-behind-init : goal.loop-behind-init
loop-behind-init c = counting_none _

pub loop-behind-preserved : goal.loop-behind-preserved
loop-behind-preserved c = counting_more _ _ _ c.loop-behind.invariant _ _ c.in-Some.ensures

pub returns : goal.returns
returns c = c.then_some.ensures ∙ counting_told _ _ _ c.loop-behind.invariant _ c.in_default.ensures c.has_ended.ensures
