-- `lines::call_or_timer` meets its contract: by the first byte.
-- Assumes nothing.
use Rattle.lines.proofs.Timing.{replies_as, frame_second, frame_envelope, frame_other, frame_blank}
use Rattle.lines.proofs.call_or_timer.Goals as goal

pub returns-then-frame-eq0 : goal.returns-then-frame-eq0
returns-then-frame-eq0 c = replies_as (frame_blank _ _ c.if-frame-eq0.true) c.call.ensures

pub returns-then-first : goal.returns-then-first
returns-then-first c = replies_as (frame_second _ _ c.if-first.true) c.seconds.ensures

pub returns-then-first-2 : goal.returns-then-first-2
returns-then-first-2 c = replies_as (frame_envelope _ _ c.if-first-2.true) c.envelope.ensures

pub returns : goal.returns
returns c = replies_as (frame_other _ _ c.if-first.false c.if-first-2.false) c.call-2.ensures
