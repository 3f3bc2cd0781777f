-- `alpha::Identifier::read` meets its contract: by the first byte.
-- Assumes nothing.
use native.Mathlib.Omega.{arith}
use mathlib.Core.Path.{ap, ◌∙◌}
use Rattle.alpha.specs.Bodies.{text_told}
use Rattle.alpha.proofs.Marks.{reads_empty, reads_default, reads_pairs}
use Rattle.alpha.proofs.Identifier.read.Goals as goal

pub returns-in_default : goal.returns-in_default
returns-in_default c = c.in_default-2.ensures ∙ ap text_told (reads_empty _ c.in_default.ensures.cases)

pub returns-in-128 : goal.returns-in-128
returns-in-128 c = c.in_pairs.ensures ∙ ap text_told (reads_pairs _ _ _ c.in-Some.ensures.cases.0 c.in-128.is)

pub returns-in_default-mark : goal.returns-in_default-mark
returns-in_default-mark c =
    c.in_default-in_default-mark.ensures
    ∙ ap text_told (reads_default _ _ _ c.in-Some.ensures.cases.0 (λ e. omega (arith, e)) (λ e. omega (arith, e)) (λ e. omega (arith, e)))
