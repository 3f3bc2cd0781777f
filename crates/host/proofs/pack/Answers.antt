-- `host::pack` meets its contract: a case for each way to end.
-- Assumes nothing.
use mathlib.Core.Path.{subst}
use native.Mathlib.Omega.{arith}
use Rattle.host.specs.Packed.{packed, Fits}
use Rattle.host.proofs.pack.Goals as goal

pub overflow_cast-result : goal.overflow_cast-result
unfolding Fits
overflow_cast-result c = let h = subst Fits c.in-Ok.is c.requires in record { fits = omega (arith, h) }

pub returns-in-Ok : goal.returns-in-Ok
unfolding packed
returns-in-Ok c = rw c.in-Ok.is

pub returns-in-Err : goal.returns-in-Err
unfolding packed
returns-in-Err c = rw (c.in-Err.is, c.number.ensures)
