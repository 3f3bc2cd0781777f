-- `alpha::Identifier::in_block` meets its contract: a head that is whole.
-- Assumes nothing.
use native.Mathlib.Omega.{arith}
use mathlib.Core.Path.{ap, ◌∙◌}
use Rattle.alpha.specs.Bodies.{text_told}
use Rattle.alpha.proofs.Texts.{text_none}
use Rattle.alpha.proofs.Marks.{block_short, block_reads}
use Rattle.alpha.proofs.Identifier.in_block.Goals as goal

pub returns-in_default : goal.returns-in_default
returns-in_default c = text_none _ (block_short _ (omega arith))

pub returns : goal.returns
returns c = c.based.ensures ∙ ap text_told (block_reads _ _ (omega arith) c.block_pointer.ensures)
