-- `modem::size_at` meets its contract: two bytes make sixteen bits.
-- Assumes nothing.
use Prim.Native.Nat.{◌+◌}
use mathlib.Core.Path.{refl}
use native.Mathlib.Omega.{arith}
use Rattle.command.specs.Requests.{size_at}
use Rattle.modem.proofs.size_at.Goals as goal

pub bounds-s-at : goal.bounds-s-at
unfolding size_at
bounds-s-at c = omega (arith, c.requires)

pub overflow_cast-high : goal.overflow_cast-high
unfolding size_at
overflow_cast-high c = omega (arith, c.shared_slice_known-1.given c.args.at)

pub overflow_add-low : goal.overflow_add-low
unfolding size_at
overflow_add-low c = omega (arith, c.requires)

pub bounds-s-at-2 : goal.bounds-s-at-2
unfolding size_at
bounds-s-at-2 c = omega (arith, c.requires)

pub overflow_cast-low : goal.overflow_cast-low
unfolding size_at
overflow_cast-low c = omega (arith, c.shared_slice_known-2-1.given (c.args.at + 1))

pub overflow_mul-result : goal.overflow_mul-result
unfolding size_at
overflow_mul-result c = omega (arith, c.shared_slice_known-2-1.given c.args.at, c.shared_slice_known-2-1.given (c.args.at + 1))

pub overflow_add-result : goal.overflow_add-result
unfolding size_at
overflow_add-result c = omega (arith, c.shared_slice_known-2-1.given c.args.at, c.shared_slice_known-2-1.given (c.args.at + 1))

pub returns : goal.returns
unfolding size_at
returns c = refl
