-- `csim::read_asked` meets its contract: the frame of its digits, and how many bytes it has.
-- Assumes nothing.
use Rattle.std.proofs.Common.{arith, rules}
use Rattle.text.proofs.Bounds.{frame_read, frame_unread}
use Rattle.csim.proofs.Telling.{digits_unread, digits_none, digits_fit}
use Rattle.csim.proofs.read_asked.Goals as goal

pub returns-in_err-n : goal.returns-in_err-n
returns-in_err-n c = let e = digits_unread c.args.kind _ (frame_unread _ _ c.read_frame.ensures.value (grind arith)) in search rules

pub returns-then-n-eq0 : goal.returns-then-n-eq0
returns-then-n-eq0 c =
    let read = frame_read _ _ c.in_ok-n.n _ _ (c.read_frame.ensures.value, c.read_frame.ensures.out_after) (grind arith) in
    digits_none c.args.kind c.args.digits.now _ _ read c.then-n-eq0.either

pub returns : goal.returns
returns c =
    let read = frame_read _ _ c.in_ok-n.n _ _ (c.read_frame.ensures.value, c.read_frame.ensures.out_after) (grind arith) in
    digits_fit c.args.kind c.args.digits.now _ _ read c.if-n-eq0.false c.if-n-gt-DATA.false
