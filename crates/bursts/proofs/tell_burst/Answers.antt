-- `bursts::tell_burst` meets its contract: the first line, a burst, or R9.
-- Assumes nothing.
use mathlib.Core.Path.{sym}
use lib.Seq.{length-take-le}
use Rattle.text.proofs.Bounds.{frame_read, frame_unread}
use Rattle.bursts.proofs.Telling.{line_burst, line_unread, line_first}
use Rattle.bursts.proofs.tell_burst.Goals as goal

pub returns-then-not-begun : goal.returns-then-not-begun
returns-then-not-begun c = line_first _ _ _ _ _ c.requires.0 c.requires.1 _ _ _ _ (mathlib.Core.Path.ap mathlib.Core.Bool.not c.if-not-begun.true) c.begin.ensures

pub slice_bounds-frame-end : goal.slice_bounds-frame-end
slice_bounds-frame-end c = (frame_read _ _ _ _ _ (c.read_frame.ensures.value, c.read_frame.ensures.out_after) c.in-Some.is).fits

pub slice_bounds-perform_burst-end : goal.slice_bounds-perform_burst-end
slice_bounds-perform_burst-end c = sym (length-take-le _ _ (frame_read _ _ _ _ _ (c.read_frame.ensures.value, c.read_frame.ensures.out_after) c.in-Some.is).fits)

pub returns : goal.returns
returns c = line_burst _ _ _ _ _ c.requires.0 c.requires.1 _ _ _ _ (mathlib.Core.Path.ap mathlib.Core.Bool.not c.if-not-begun.false) (frame_read _ _ _ _ _ (c.read_frame.ensures.value, c.read_frame.ensures.out_after) c.in-Some.is).bytes c.perform_burst.ensures

pub returns-in_default : goal.returns-in_default
returns-in_default c = line_unread _ _ _ _ _ c.requires.0 c.requires.1 _ _ _ _ (mathlib.Core.Path.ap mathlib.Core.Bool.not c.if-not-begun.false) (frame_unread _ _ c.read_frame.ensures.value c.in_default.is) c.print_refusal.ensures
