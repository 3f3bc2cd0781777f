-- `radio::hand_over` meets its contract: R12, and the law of the take, at what it calls.
-- Assumes nothing.
use native.Mathlib.Omega.{arith}
use Rattle.session.proofs.Facts.{bounds}
use Rattle.radio.proofs.Ends.{send_lies, hand_short, handed}
use Rattle.radio.proofs.hand_over.Goals as goal

pub returns-then-is_short : goal.returns-then-is_short
returns-then-is_short c = search hand_short

pub overflow_add-at : goal.overflow_add-at
overflow_add-at c = let f = send_lies c.requires _ _ c.start_of-at.ensures c.at_once-most.ensures in
    omega (arith, c.min-count.ensures, (bounds _ _ _ c.requires.numbered).size)

pub put_part-requires : goal.put_part-requires
put_part-requires c = let f = send_lies c.requires _ _ c.start_of-at.ensures c.at_once-most.ensures in
    (omega arith, omega (arith, c.min-count.ensures), omega (arith, c.min-count.ensures))

pub returns : goal.returns
returns c = handed c.requires c.args.out.now _ c.at_once-most.ensures _ c.is_short.ensures c.if-is_short.false _ _ c.start_of-at.ensures c.min-count.ensures
    _ _ _ c.remove.ensures c.put_part.ensures
