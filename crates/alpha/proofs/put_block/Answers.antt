-- `alpha::put_block` meets its contract: its head, and the bytes from the block on.
-- Assumes nothing.
use native.Mathlib.Omega.{arith}
use mathlib.Core.Path.{ap, ◌∙◌}
use Prim.Native.Nat.{ℕ}
use Rattle.alpha.specs.Writes.{serves}
use Rattle.alpha.proofs.Layings.{block_few, block_ended}
use Rattle.alpha.proofs.put_block.Goals as goal

pub overflow_cast-head : goal.overflow_cast-head
overflow_cast-head c = omega (arith, (block_few _ _ c.requires).0)

pub put_based-requires : goal.put_based-requires
put_based-requires c = (ap (λ (q : ℕ). serves q c.args.units.now) c.block_pointer.ensures ∙ (block_few _ _ c.requires).1, omega arith, (block_few _ _ c.requires).0)

pub returns : goal.returns
returns c = block_ended _ _ _ _ _ _ c.block_pointer.ensures c.put_based.ensures
