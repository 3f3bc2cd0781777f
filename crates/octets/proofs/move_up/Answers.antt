-- `octets::move_up` meets its contract: the loop copies the part from its end, and reads each byte before it is written over.
-- Assumes nothing.
use Rattle.octets.proofs.Copies.{up_none, up_more, up_all}
use Rattle.octets.proofs.move_up.Goals as goal

pub loop-n-init : goal.loop-n-init
loop-n-init c = up_none _ _ _ _ c.requires

pub loop-n-preserved : goal.loop-n-preserved
loop-n-preserved c = up_more _ _ _ _ c.requires _ _ c.loop-n.invariant c.loop-n-test.true

pub returns : goal.returns
returns c = up_all _ _ _ _ c.requires _ _ c.loop-n.invariant c.loop-n-test.false
