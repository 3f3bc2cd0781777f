-- `mending::print_mended` meets its contract: R9 for no bytes, R16 for another head, else what is behind it.
-- Assumes nothing.
use Rattle.std.proofs.Common.{sym, ◌∙◌}
use Rattle.mending.proofs.Lines.{blank_told, other_told, unsized_told, sized_told}
use Rattle.mending.proofs.print_mended.Goals as goal

pub returns-then-is_empty : goal.returns-then-is_empty
returns-then-is_empty c = blank_told _ (sym c.is_empty.ensures ∙ c.if-is_empty.true) c.print_refusal.ensures

pub returns-then-s : goal.returns-then-s
returns-then-s c = other_told _ (sym c.is_empty.ensures ∙ c.if-is_empty.false) c.if-s.true c.print_refusal-then-s.ensures

pub returns-in_default : goal.returns-in_default
returns-in_default c = unsized_told _ (sym c.is_empty.ensures ∙ c.if-is_empty.false) c.if-s.false c.in_default.ensures c.print_refusal-in_default.ensures

pub returns : goal.returns
returns c = sized_told _ (sym c.is_empty.ensures ∙ c.if-is_empty.false) c.if-s.false c.in-Some.ensures c.print_behind.ensures
