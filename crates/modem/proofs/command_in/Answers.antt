-- `modem::command_in` meets its contract: R1, R2, and then the frame.
-- Assumes nothing.
use mathlib.Core.Path.{refl}
use native.Mathlib.Omega.{arith}
use Rattle.rules.specs.Reading.{zeros}
use Rattle.session.proofs.Answers.{refuse_answers}
use Rattle.own.proofs.Replies.{left_answers}
use Rattle.modem.proofs.Obeying.{as_obeyed}
use Rattle.modem.proofs.Commanding.{short_refused, empty_refused, long_refused, unframed, framed_obeyed}
use Rattle.modem.proofs.command_in.Goals as goal

pub returns-then-out-lt-RESPONSE : goal.returns-then-out-lt-RESPONSE
returns-then-out-lt-RESPONSE c = refuse_answers _ _ _ _ _ c.requires (short_refused _ _ _ c.if-out-lt-RESPONSE.true)

pub returns-then-s-lt1 : goal.returns-then-s-lt1
returns-then-s-lt1 c = refuse_answers _ _ _ _ _ c.requires (empty_refused _ _ _ c.if-out-lt-RESPONSE.false c.if-s-lt1.true)

pub returns-then-s-gt-COMMAND : goal.returns-then-s-gt-COMMAND
returns-then-s-gt-COMMAND c = refuse_answers _ _ _ _ _ c.requires (long_refused _ _ _ c.if-out-lt-RESPONSE.false c.if-s-gt-COMMAND.true)

pub slice_bounds-obey-count : goal.slice_bounds-obey-count
slice_bounds-obey-count c = c.in-Some.ensures.within

pub slice_bounds-obey-start : goal.slice_bounds-obey-start
slice_bounds-obey-start c = omega (arith, c.in-Some.ensures.within)

pub returns : goal.returns
returns c = as_obeyed _ _ _ _ _ _ _ (framed_obeyed _ _ _ c.if-out-lt-RESPONSE.false c.if-s-lt1.false c.if-s-gt-COMMAND.false _ c.in-Some.ensures) c.obey.ensures

pub returns-in_default : goal.returns-in_default
unfolding zeros
returns-in_default c = as_obeyed _ _ _ _ _ _ _ (unframed _ _ _ c.if-out-lt-RESPONSE.false c.if-s-lt1.false c.if-s-gt-COMMAND.false c.in_default.ensures)
    (left_answers _ _ _ _ _ _ _ _ refl c.requires c.tell_result.ensures)
