-- `responses::tell_left` meets its contract: the timer and its time stand behind the head.
-- Assumes nothing.
use Rattle.responses.proofs.Writes.{after_head, behind_stands, left_is}
use Rattle.responses.proofs.tell_left.Goals as goal

pub append-requires : goal.append-requires
append-requires c = after_head _ _ _ _ _ 8 c.tell_result-at.ensures c.requires.0

pub returns : goal.returns
returns c =
    rw (← left_is c.args.d c.args.res c.args.n c.args.left _ c.time_bytes.ensures)
    (behind_stands _ _ _ _ _ _ _ _ c.tell_result-at.ensures c.append.ensures.value c.requires.0 c.append.ensures.out_after)
