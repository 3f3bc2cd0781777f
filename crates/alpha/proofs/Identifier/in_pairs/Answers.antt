-- `alpha::Identifier::in_pairs` meets its contract: pairs, and padding over.
-- Assumes nothing.
use mathlib.Core.Path.{sym, ap, ◌∙◌}
use mathlib.Core.List.{map}
use lib.Dec.{eqb}
use Rattle.rules.specs.Checks.{every}
use Rattle.alpha.specs.Reads.{padding, units}
use Rattle.alpha.specs.Bodies.{pair_unit, units_behind, IsBody}
use Rattle.alpha.proofs.Texts.{text_none, text_some}
use Rattle.alpha.proofs.Pairings.{pairs_padded, pairs_ill}
use Rattle.alpha.proofs.Identifier.in_pairs.Goals as goal

pub returns-then-not-is_padding : goal.returns-then-not-is_padding
returns-then-not-is_padding c = text_none _ (pairs_ill _ (ap (every (eqb padding)) (sym c.as_chunks.ensures.back) ∙ sym c.if-not-is_padding.ensures))

pub invariant_of-result : goal.invariant_of-result
unfolding IsBody
invariant_of-result c = tt

pub returns : goal.returns
unfolding units_behind
returns c =
    text_some _ _
    (pairs_padded _ (ap (every (eqb padding)) (sym c.as_chunks.ensures.back) ∙ sym c.if-not-is_padding.ensures)
    ∙ ap (λ l. units (map pair_unit l)) (sym c.as_chunks.ensures.front))
