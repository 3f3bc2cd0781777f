-- `alpha::write_based` meets its contract: the first bytes stand from `at` on.
-- Assumes nothing.
use Rattle.alpha.proofs.Layings.{basing_none, basing_serves, basing_more, basing_all}
use Rattle.alpha.proofs.write_based.Goals as goal

pub loop-i-init : goal.loop-i-init
loop-i-init c = basing_none _ _ _ _ c.requires.0 c.requires.1

pub based_byte-requires : goal.based_byte-requires
based_byte-requires c = basing_serves _ _ _ _ _ _ c.loop-i.invariant c.loop-i-test.true

pub loop-i-preserved : goal.loop-i-preserved
loop-i-preserved c = basing_more _ _ _ _ _ _ c.loop-i.invariant _ c.loop-i-test.true c.based_byte.ensures

pub returns : goal.returns
returns c = basing_all _ _ _ _ _ _ c.loop-i.invariant c.loop-i-test.false
