-- `session::capped` meets its contract: the lesser of the count and FF.
-- Assumes nothing.
use native.Mathlib.Omega.{arith}
use Rattle.rules.specs.Own.{capped}
use Rattle.session.proofs.capped.Goals as goal

pub returns : goal.returns
unfolding capped
returns c = omega arith
