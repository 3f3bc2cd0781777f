-- `alpha::put_based` meets its contract: a head, and the bytes behind it.
-- Assumes nothing.
use native.Mathlib.Omega.{arith}
use Rattle.alpha.proofs.Layings.{headed_based, headed_short}
use Rattle.alpha.proofs.put_based.Goals as goal

pub returns-then-out-size : goal.returns-then-out-size
returns-then-out-size c = search headed_short

pub returns : goal.returns
returns c = headed_based _ _ _ _ _ _ (omega arith) c.put.ensures c.write_based.ensures
