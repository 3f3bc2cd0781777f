-- `alpha::put_base` meets its contract: its head, and the bytes from the base on.
-- Assumes nothing.
use native.Mathlib.Omega.{arith}
use Rattle.alpha.proofs.Layings.{base_few, base_ended}
use Rattle.alpha.proofs.put_base.Goals as goal

pub overflow_cast-head : goal.overflow_cast-head
overflow_cast-head c = omega (arith, (base_few _ _ c.requires).0)

pub put_based-requires : goal.put_based-requires
put_based-requires c = ((base_few _ _ c.requires).1, omega arith, (base_few _ _ c.requires).0)

pub returns : goal.returns
returns c = base_ended _ _ _ _ _ _ (omega arith) c.to_be_bytes.ensures c.put_based.ensures
