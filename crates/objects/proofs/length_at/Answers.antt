-- `objects::length_at` meets its contract: each answer is that of the law for its case.
-- Assumes nothing.
use Rattle.objects.proofs.Reading.{byte_there, length_none, length_short, length_other, long_none, long_low, long_length_lem}
use Rattle.objects.proofs.length_at.Goals as goal

pub returns-in_err-byte : goal.returns-in_err-byte
returns-in_err-byte c = rw c.from_residual.ensures (length_none _ _ c.in_err-byte.ensures.lookup.3)

pub returns-then-byte-lt128 : goal.returns-then-byte-lt128
returns-then-byte-lt128 c = rw c.from.ensures (length_short (byte_there c.in_ok-byte.ensures.lookup.3) c.if-byte-lt128.true)

pub returns-then-byte : goal.returns-then-byte
returns-then-byte c = length_other (byte_there c.in_ok-byte.ensures.lookup.3) c.if-byte-lt128.false c.if-byte.true

pub returns-in_err-count : goal.returns-in_err-count
returns-in_err-count c =
    rw c.from_residual-in_err-count.ensures
    (long_none (byte_there c.in_ok-byte.ensures.lookup.3) c.if-byte-lt128.false c.if-byte.false c.in_err-count.ensures.lookup.3)

pub returns-then-count-lt128 : goal.returns-then-count-lt128
returns-then-count-lt128 c =
    long_low (byte_there c.in_ok-byte.ensures.lookup.3) c.if-byte-lt128.false c.if-byte.false (byte_there c.in_ok-count.ensures.lookup.3)
    c.if-count-lt128.true

pub returns : goal.returns
returns c =
    rw c.from-2.ensures
    (long_length_lem (byte_there c.in_ok-byte.ensures.lookup.3) c.if-byte-lt128.false c.if-byte.false (byte_there c.in_ok-count.ensures.lookup.3)
    c.if-count-lt128.false)
