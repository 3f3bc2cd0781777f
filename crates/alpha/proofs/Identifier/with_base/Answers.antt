-- `alpha::Identifier::with_base` meets its contract: a head that is whole.
-- Assumes nothing.
use native.Mathlib.Omega.{arith}
use mathlib.Core.Path.{ap, ◌∙◌}
use Rattle.alpha.specs.Bodies.{text_told}
use Rattle.alpha.proofs.Texts.{text_none}
use Rattle.alpha.proofs.Marks.{base_short, base_reads}
use Rattle.alpha.proofs.Identifier.with_base.Goals as goal

pub returns-in_default : goal.returns-in_default
returns-in_default c = text_none _ (base_short _ (omega arith))

pub returns : goal.returns
returns c = c.based.ensures ∙ ap text_told (base_reads _ _ (omega arith) (omega (arith, c.from_be_bytes.ensures)))
