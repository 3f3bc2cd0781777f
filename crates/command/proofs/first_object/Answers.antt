-- `command::first_object` meets its contract: each answer is that of the law for its case.
-- Assumes nothing.
use mathlib.Core.Path.{sym, ◌∙◌}
use Rattle.rules.proofs.Laws.{empty_length}
use Rattle.command.proofs.Opening.{none_read, faulty_read, stranger_number, stranger_length, first_within, leads}
use Rattle.command.proofs.first_object.Goals as goal

pub returns-then-is_empty : goal.returns-then-is_empty
returns-then-is_empty c p = none_read p _ (sym (c.if-is_empty.ensures ∙ empty_length _))

pub returns-in_default : goal.returns-in_default
returns-in_default c p = faulty_read p _ (sym (c.if-is_empty.ensures ∙ empty_length _)) _ c.in_default.ensures

pub returns-then-object-ne-DETAILS : goal.returns-then-object-ne-DETAILS
returns-then-object-ne-DETAILS c = stranger_number (sym (c.if-is_empty.ensures ∙ empty_length _)) c.in-Ok.ensures c.if-object-ne-DETAILS.true

pub returns-then-object-ne3 : goal.returns-then-object-ne3
returns-then-object-ne3 c =
    stranger_length (sym (c.if-is_empty.ensures ∙ empty_length _)) c.in-Ok.ensures c.if-object-ne-DETAILS.false c.if-object-ne3.true

pub details_at-requires : goal.details_at-requires
details_at-requires c = first_within (sym (c.if-is_empty.ensures ∙ empty_length _)) c.in-Ok.ensures c.if-object-ne-DETAILS.false c.if-object-ne3.false

pub returns : goal.returns
returns c =
    leads (sym (c.if-is_empty.ensures ∙ empty_length _)) c.in-Ok.ensures c.if-object-ne-DETAILS.false c.if-object-ne3.false c.details_at.ensures
