-- `rules::lists`: what the library says that a list contains.
-- Assumes nothing.
use Rattle.std.proofs.Common.{◌∙◌}
use Rattle.rules.proofs.Words.{contains_member}
use Rattle.rules.proofs.lists.Goals as goal

pub returns : goal.returns
returns c = c.contains.ensures.value ∙ contains_member _ _
