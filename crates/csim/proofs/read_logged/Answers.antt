-- `csim::read_logged` meets its contract: the frame between the quotes, and what it gives behind its count.
-- Assumes nothing.
use Rattle.std.proofs.Common.{ap, sym, ◌∙◌, arith, rules}
use Rattle.csim.specs.Records.{framed}
use Rattle.text.proofs.Bounds.{frame_read, frame_unread}
use Rattle.csim.proofs.Telling.{short_frame, bytes_double, counted_framed}
use Rattle.csim.proofs.read_logged.Goals as goal

pub returns-in_err-n : goal.returns-in_err-n
unfolding framed
returns-in_err-n c =
    let e = counted_framed _ _ c.args.text.proper.bare c.args.text.few ∙ ap (framed c.args.text.count.now) (frame_unread _ _ c.read_frame.ensures.value (grind arith)) in
    search rules

pub slice_bounds-read_counted-end : goal.slice_bounds-read_counted-end
slice_bounds-read_counted-end c = (frame_read _ _ c.in_ok-n.n _ _ (c.read_frame.ensures.value, c.read_frame.ensures.out_after) (grind arith)).size

pub read_counted-requires : goal.read_counted-requires
read_counted-requires c =
    let read = frame_read _ _ c.in_ok-n.n _ _ (c.read_frame.ensures.value, c.read_frame.ensures.out_after) (grind arith) in
    let few = c.args.text.few in
    let double = bytes_double c.args.text.quoted.now _ (sym (short_frame _ few) ∙ read.bytes) in
    (c.args.text.proper, omega (arith, double, few))

pub returns : goal.returns
returns c =
    let read = frame_read _ _ c.in_ok-n.n _ _ (c.read_frame.ensures.value, c.read_frame.ensures.out_after) (grind arith) in
    rw (counted_framed _ _ c.args.text.proper.bare c.args.text.few ∙ ap (framed _) read.bytes) c.read_counted.ensures
