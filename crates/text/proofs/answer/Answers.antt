-- `text::answer` meets its contract: what is told of the frame, or R9.
-- Assumes nothing.
use mathlib.Core.Path.{sym, ap, ◌∙◌}
use native.Mathlib.Omega.{arith}
use lib.Seq.{length-take-le}
use Rattle.text.proofs.Bounds.{frame_read, frame_unread}
use Rattle.text.proofs.Printing.{prints_as}
use Rattle.text.proofs.answer.Goals as goal

pub returns-in_default : goal.returns-in_default
returns-in_default g c = λ told unread h. prints_as (sym (ap told (frame_unread _ _ c.read_frame.ensures.value c.in_default.is) ∙ unread)) c.print_refusal.ensures

pub slice_bounds-frame-end : goal.slice_bounds-frame-end
slice_bounds-frame-end g c = omega (arith, (frame_read _ _ _ _ _ (c.read_frame.ensures.value, c.read_frame.ensures.out_after) c.in-Some.is).fits)

pub slice_bounds-tell-end : goal.slice_bounds-tell-end
slice_bounds-tell-end g c = sym (length-take-le _ _ (omega (arith, (frame_read _ _ _ _ _ (c.read_frame.ensures.value, c.read_frame.ensures.out_after) c.in-Some.is).fits)))

pub returns : goal.returns
returns g c = λ told unread h. prints_as (sym (ap told (frame_read _ _ _ _ _ (c.read_frame.ensures.value, c.read_frame.ensures.out_after) c.in-Some.is).bytes)) (h _ _ _ _ c.tell.ensures)
