-- `alpha::Identifier::in_default` meets its contract: plain codes alone, or unit by unit.
-- Assumes nothing.
use mathlib.Core.Path.{sym, ◌∙◌}
use Rattle.alpha.specs.Bodies.{units_behind, IsBody}
use Rattle.alpha.proofs.Texts.{text_none, text_some, size_none, size_some}
use Rattle.alpha.proofs.Defaults.{plain_units}
use Rattle.alpha.proofs.Identifier.in_default.Goals as goal

pub invariant_of-result : goal.invariant_of-result
unfolding IsBody
invariant_of-result c = sym c.if-is_plain.ensures

pub returns-then-is_plain : goal.returns-then-is_plain
unfolding units_behind
returns-then-is_plain c = text_some _ _ (plain_units _ (sym c.if-is_plain.ensures))

pub returns-in_err-count : goal.returns-in_err-count
returns-in_err-count c = c.from_residual.ensures ∙ text_none _ (size_none _ c.in_err-count.ensures)

pub invariant_of-result-2 : goal.invariant_of-result-2
unfolding IsBody
invariant_of-result-2 c = sym c.in_ok-count.ensures

pub returns : goal.returns
unfolding units_behind
returns c = text_some _ _ (size_some _ _ c.in_ok-count.ensures)
