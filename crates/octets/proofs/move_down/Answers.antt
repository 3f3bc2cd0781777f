-- `octets::move_down` meets its contract: the loop copies the part from its front, and reads each byte before it is written over.
-- Assumes nothing.
use Rattle.octets.proofs.Copies.{down_more, down_all}
use Rattle.octets.proofs.move_down.Goals as goal

pub loop-i-preserved : goal.loop-i-preserved
loop-i-preserved c = down_more _ _ _ _ c.requires _ _ c.loop-i.invariant c.loop-i-test.true

pub returns : goal.returns
returns c = down_all _ _ _ _ c.requires _ _ c.loop-i.invariant c.loop-i-test.false
