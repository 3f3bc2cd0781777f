-- `alpha::is_plain_code` meets its contract: below 80, and not the escape.
-- Assumes nothing.
use mathlib.Core.Path.{refl}
use Rattle.alpha.specs.Passes.{is_plain}
use Rattle.alpha.proofs.is_plain_code.Goals as goal

pub returns : goal.returns
unfolding is_plain
returns c = refl
