-- `responses::tell_head` meets its contract: the result stands behind the details and the devices.
-- Assumes nothing.
use native.Mathlib.Omega.{arith}
use Rattle.responses.proofs.Writes.{begun, more}
use Rattle.responses.proofs.tell_head.Goals as goal

pub returns : goal.returns
returns c =
    more _ _ _ _ _ _ _ (begun _ _ _ _ c.append-at.ensures.value c.append-at.ensures.out_after) c.append.ensures.value (omega arith) c.append.ensures.out_after
