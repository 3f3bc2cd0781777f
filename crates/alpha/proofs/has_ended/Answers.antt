-- `alpha::has_ended` meets its contract: no byte, or FF first.
-- Assumes nothing.
use native.Mathlib.Omega.{arith}
use Rattle.alpha.proofs.Defaults.{ended_none, ended_some}
use Rattle.alpha.proofs.has_ended.Goals as goal

pub returns-in-empty : goal.returns-in-empty
returns-in-empty c = ended_none _ (omega arith)

pub returns-in-len1-up : goal.returns-in-len1-up
returns-in-len1-up c = ended_some _ (omega arith)
