-- `alpha::Survey::block` meets its contract: both in one block, which fits a byte.
-- Assumes nothing.
use Rattle.std.proofs.Common.{rules}
use Rattle.alpha.proofs.Surveys.{other_block, same_block}
use Rattle.alpha.proofs.Survey.block.Goals as goal

pub returns-then-self-block : goal.returns-then-self-block
returns-then-self-block c = other_block _ c.if-self-block.true

pub returns : goal.returns
returns c = same_block _ _ c.if-self-block.false (search rules)
