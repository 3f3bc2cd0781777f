-- `alpha::Identifier::based` meets its contract: as many bytes as the count says, each with a unit, and padding over.
-- Assumes nothing.
use mathlib.Core.Path.{sym, ◌∙◌}
use Rattle.alpha.specs.Bodies.{units_behind, IsBody}
use Rattle.alpha.proofs.Texts.{text_none, text_some}
use Rattle.alpha.proofs.Bases.{counted_short, counted_over, counted_ill, counted_units}
use Rattle.alpha.proofs.Identifier.based.Goals as goal
use Rattle.alpha.proofs.Identifier.based.Goals.{then-not-is_padding-via-then-not-is_padding, then-not-is_padding-via-else-not-is_padding+then-not-are_based}

pub returns-in_err-coded : goal.returns-in_err-coded
returns-in_err-coded c = c.from_residual.ensures ∙ text_none _ (counted_short _ _ _ _ c.from.ensures c.in_err-coded.ensures.cases)

pub returns-then-not-is_padding : goal.returns-then-not-is_padding
returns-then-not-is_padding c =
    text_none _
    (elim c.then-not-is_padding.branch [
      | then-not-is_padding-via-then-not-is_padding w ↦ counted_over _ _ _ _ c.from.ensures _ _ c.in_ok-coded.ensures.cases w.if-not-is_padding.ensures
      | then-not-is_padding-via-else-not-is_padding+then-not-are_based w ↦
          counted_ill _ _ _ _ c.from.ensures _ _ c.in_ok-coded.ensures.cases w.if-not-is_padding.ensures w.if-not-are_based.ensures
    ])

pub invariant_of-result : goal.invariant_of-result
unfolding IsBody
invariant_of-result c = sym c.if-not-are_based.ensures

pub returns : goal.returns
unfolding units_behind
returns c = text_some _ _ (counted_units _ _ _ _ c.from.ensures _ _ c.in_ok-coded.ensures.cases c.if-not-is_padding.ensures c.if-not-are_based.ensures)
