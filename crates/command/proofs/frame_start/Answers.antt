-- `command::frame_start` meets its contract: each answer is that of the law for its case.
-- Assumes nothing.
use Rattle.objects.proofs.Reading.{byte_there}
use Rattle.command.proofs.Framing.{frame_empty, frame_other, frame_unsized, frame_count, frame_right}
use Rattle.command.proofs.frame_start.Goals as goal

pub returns-in_err-first : goal.returns-in_err-first
returns-in_err-first c = rw c.from_residual.ensures (frame_empty _ c.in_err-first.ensures.item.3)

pub returns-then-branch : goal.returns-then-branch
returns-then-branch c = frame_other (byte_there c.in_ok-first.ensures.item.3) c.if-branch.true

pub returns-in_err-length : goal.returns-in_err-length
returns-in_err-length c = rw c.from_residual-in_err-length.ensures (frame_unsized _ c.in_err-length.ensures)

pub returns-then-s-length : goal.returns-then-s-length
returns-then-s-length c = frame_count c.in_ok-length.ensures c.if-s-length.true

pub returns : goal.returns
returns c = frame_right (byte_there c.in_ok-first.ensures.item.3) c.if-branch.false c.in_ok-length.ensures c.if-s-length.false
