-- `objects::long_tag_at` meets its contract: each answer is that of the law for its case.
-- Assumes nothing.
use Rattle.objects.proofs.Reading.{byte_there, second_none, third_none, long_zero, long_read}
use Rattle.objects.proofs.long_tag_at.Goals as goal

pub returns-in_err-high : goal.returns-in_err-high
returns-in_err-high c = rw c.from_residual.ensures (second_none _ _ c.in_err-high.ensures.lookup.3)

pub returns-in_err-low : goal.returns-in_err-low
returns-in_err-low c = rw c.from_residual-in_err-low.ensures (third_none (byte_there c.in_ok-high.ensures.lookup.3) c.in_err-low.ensures.lookup.3)

pub returns-then-number-eq0 : goal.returns-then-number-eq0
returns-then-number-eq0 c =
    long_zero (byte_there c.in_ok-high.ensures.lookup.3) (byte_there c.in_ok-low.ensures.lookup.3) c.from_be_bytes-number.ensures c.if-number-eq0.true

pub returns : goal.returns
returns c =
    long_read (byte_there c.in_ok-high.ensures.lookup.3) (byte_there c.in_ok-low.ensures.lookup.3) c.from_be_bytes-number.ensures c.if-number-eq0.false
