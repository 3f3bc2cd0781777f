-- `lines::begin` meets its contract: a session from the frame of the line, or from nothing with R9.
-- Assumes nothing.
use native.Mathlib.Omega.{arith}
use Rattle.text.specs.Prints.{count_of, outcome_of}
use Rattle.text.proofs.Bounds.{frame_read, frame_unread}
use Rattle.lines.proofs.Telling.{first_read, first_unread}
use Rattle.lines.proofs.begin.Goals as goal

pub slice_bounds-frame-end : goal.slice_bounds-frame-end
slice_bounds-frame-end c = (frame_read _ _ _ _ _ (c.read_frame.ensures.value, c.read_frame.ensures.out_after) c.in-Some.is).fits

pub slice_bounds-restart-end-2 : goal.slice_bounds-restart-end-2
slice_bounds-restart-end-2 c = (frame_read _ _ _ _ _ (c.read_frame.ensures.value, c.read_frame.ensures.out_after) c.in-Some.is).size

pub print-requires : goal.print-requires
unfolding count_of
print-requires c = (omega arith, omega (arith, c.requires.1))

pub returns : goal.returns
returns c = first_read _ _ _ c.restart-2.ensures.shows _ c.args.out.now c.args.at (frame_read _ _ _ _ _ (c.read_frame.ensures.value, c.read_frame.ensures.out_after) c.in-Some.is).bytes

pub returns-in_default : goal.returns-in_default
unfolding outcome_of
returns-in_default c = first_unread _ _ c.restart.ensures.shows _ _ _ _ _ (frame_unread _ _ c.read_frame.ensures.value c.in_default.is) c.print.ensures
