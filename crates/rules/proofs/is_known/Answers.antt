-- `rules::is_known`: the bytes that are read as a type.
-- Assumes nothing.
use Rattle.std.proofs.Common.{◌∙◌}
use Rattle.rules.proofs.Words.{typed_known}
use Rattle.rules.proofs.is_known.Goals as goal

pub returns : goal.returns
returns c = c.is_ok.ensures.value ∙ typed_known _ _ c.try_from.ensures
