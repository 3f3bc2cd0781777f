-- `responses::tell_byte` meets its contract: the object stands behind the head.
-- Assumes nothing.
use Rattle.responses.proofs.Writes.{after_head, behind_stands}
use Rattle.responses.proofs.tell_byte.Goals as goal

pub append-requires : goal.append-requires
append-requires c = after_head _ _ _ _ _ 3 c.tell_result-at.ensures c.requires

pub returns : goal.returns
returns c = behind_stands _ _ _ _ _ _ _ _ c.tell_result-at.ensures c.append.ensures.value c.requires c.append.ensures.out_after
