-- `lines::perform` meets its contract: the answer of a frame is printed, or R9.
-- Assumes nothing.
use native.Mathlib.Omega.{arith}
use Rattle.text.proofs.Bounds.{frame_read, frame_unread}
use Rattle.lines.proofs.Acting.{read_says, unread_says}
use Rattle.lines.proofs.perform.Goals as goal

pub returns-in_default : goal.returns-in_default
returns-in_default g c = λ f h. unread_says f _ _ _ _ _ _ _ c.requires.fits.0 (frame_unread _ _ c.read_frame.ensures.value c.in_default.is) c.print_refusal.ensures

pub slice_bounds-frame-end : goal.slice_bounds-frame-end
slice_bounds-frame-end g c = (frame_read _ _ _ _ _ (c.read_frame.ensures.value, c.read_frame.ensures.out_after) c.in-Some.is).fits

pub slice_bounds-act-end : goal.slice_bounds-act-end
slice_bounds-act-end g c = (frame_read _ _ _ _ _ (c.read_frame.ensures.value, c.read_frame.ensures.out_after) c.in-Some.is).size

pub print-requires : goal.print-requires
print-requires g c = ((c.requires.answering.1 _ _ _ _ _ _ c.act-ended.ensures).fits, omega (arith, c.requires.fits.1))

pub returns : goal.returns
returns g c = λ f h. read_says f _ _ _ _ _ _ _ _ _ _ _ (frame_read _ _ _ _ _ (c.read_frame.ensures.value, c.read_frame.ensures.out_after) c.in-Some.is).bytes (h _ _ _ _ _ _ c.act-ended.ensures) c.print.ensures
