-- `command::at_hand` meets its contract: R2, or the details in one number.
-- Assumes nothing.
use mathlib.Core.Path.{sym, ◌∙◌}
use Rattle.rules.proofs.Laws.{empty_length}
use Rattle.command.proofs.Opening.{hand_refused, hand_packed}
use Rattle.command.proofs.at_hand.Goals as goal

pub returns-then-is_empty : goal.returns-then-is_empty
returns-then-is_empty c = hand_refused _ (c.is_empty.ensures ∙ empty_length _) c.then-is_empty.either

pub returns : goal.returns
returns c =
    hand_packed _ (sym (c.if-is_empty.ensures ∙ empty_length _)) c.if-s-gt-COMMAND.false c.details_told-d.ensures c.from_be_bytes.ensures
