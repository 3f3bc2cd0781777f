-- `objects::tag_at` meets its contract: each answer is that of the law for its case.
-- Assumes nothing.
use Rattle.objects.proofs.Reading.{byte_there, tag_none, tag_zero, tag_long, tag_last, tag_read}
use Rattle.objects.proofs.tag_at.Goals as goal

pub returns-in_err-byte : goal.returns-in_err-byte
returns-in_err-byte c = rw c.from_residual.ensures (tag_none _ _ c.in_err-byte.ensures.lookup.3)

pub returns-in-0 : goal.returns-in-0
returns-in-0 c = tag_zero (byte_there c.in_ok-byte.ensures.lookup.3) c.in-0.is

pub returns-in-127 : goal.returns-in-127
returns-in-127 c = tag_long (byte_there c.in_ok-byte.ensures.lookup.3) _ c.if-byte-eq-LONG_TAG.true c.long_tag_at.ensures

pub returns-in-127-2 : goal.returns-in-127-2
returns-in-127-2 c = tag_last (byte_there c.in_ok-byte.ensures.lookup.3) c.if-byte-eq-LONG_TAG.false c.in-127.is

pub returns-in_default : goal.returns-in_default
returns-in_default c =
    let b = byte_there c.in_ok-byte.ensures.lookup.3 in
    search tag_read
