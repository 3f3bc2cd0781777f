-- `text::read_frame` meets its contract: the loop copies the bytes of a line that is readable.
-- Assumes nothing.
use native.Mathlib.Omega.{arith}
use mathlib.Core.Path.{ap}
use mathlib.Core.Bool.{not}
use Rattle.text.proofs.Fills.{told_long, told_unread, fills_none, fills_digit, fills_small, fills_more, fills_all}
use Rattle.text.proofs.read_frame.Goals as goal

pub returns-then-line-gt-DIGITS : goal.returns-then-line-gt-DIGITS
returns-then-line-gt-DIGITS c =
    let both = told_long c.args.line.now c.args.out.now (omega arith) in
    record { value = both.0; out_after = both.1 }

pub returns-then-not-readable : goal.returns-then-not-readable
returns-then-not-readable c =
    let not_so = ap not c.if-not-readable.true in
    let both = told_unread c.args.line.now c.args.out.now c.readable.result (omega arith) c.readable.ensures not_so in
    record { value = both.0; out_after = both.1 }

pub loop-i-init : goal.loop-i-init
loop-i-init c = search fills_none

pub digit_value-requires : goal.digit_value-requires
digit_value-requires c = fills_digit _ _ _ _ c.loop-i.invariant _ (omega arith)

pub overflow_mul-out : goal.overflow_mul-out
overflow_mul-out c = omega (arith, fills_small _ _ _ _ c.loop-i.invariant _ _ (omega arith) c.digit_value.ensures)

pub digit_value-requires-in-loop-i : goal.digit_value-requires-in-loop-i
digit_value-requires-in-loop-i c = fills_digit _ _ _ _ c.loop-i.invariant _ (omega arith)

pub overflow_add-out : goal.overflow_add-out
overflow_add-out c = let w = c.loop-i.invariant in
    omega (arith, fills_small _ _ _ _ w _ _ (omega arith) c.digit_value.ensures, fills_small _ _ _ _ w _ _ (omega arith) c.digit_value-in-loop-i.ensures)

pub loop-i-preserved : goal.loop-i-preserved
loop-i-preserved c = search fills_more

pub returns : goal.returns
returns c = let both = fills_all _ _ _ _ c.loop-i.invariant (omega arith) in record { value = both.0; out_after = both.1 }
