-- `alpha::based_byte` meets its contract: a code, or how far the unit lies behind the pointer.
-- Assumes nothing.
use native.Mathlib.Omega.{arith}
use Rattle.alpha.proofs.Layings.{byte_code, byte_based, byte_reach}
use Rattle.alpha.proofs.based_byte.Goals as goal

pub overflow_sub-result : goal.overflow_sub-result
overflow_sub-result c = (byte_reach _ _ c.in-None.ensures c.requires).0

pub overflow_cast-result : goal.overflow_cast-result
overflow_cast-result c = omega (arith, byte_reach _ _ c.in-None.ensures c.requires)

pub overflow_add-result : goal.overflow_add-result
overflow_add-result c = omega (arith, byte_reach _ _ c.in-None.ensures c.requires)

pub returns-in-Some : goal.returns-in-Some
returns-in-Some c = byte_code _ _ _ c.in-Some.ensures

pub returns-in-None : goal.returns-in-None
returns-in-None c = byte_based _ _ c.in-None.ensures
