-- `octets::put` meets its contract: the loop copies `s` from its front.
-- Assumes nothing.
use mathlib.Core.Path.{refl}
use Rattle.octets.proofs.Copies.{copied_none, copied_more, copied_all}
use Rattle.octets.proofs.put.Goals as goal

pub loop-i-init : goal.loop-i-init
loop-i-init c = copied_none _ _ _ c.requires

pub loop-i-preserved : goal.loop-i-preserved
loop-i-preserved c = copied_more _ _ _ _ _ _ c.loop-i.invariant c.loop-i-test.true refl

pub returns : goal.returns
returns c = copied_all _ _ _ _ _ c.loop-i.invariant c.loop-i-test.false
