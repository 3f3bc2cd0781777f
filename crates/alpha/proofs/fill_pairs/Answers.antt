-- `alpha::fill_pairs` meets its contract: the first i units stand in the buffer.
-- Assumes nothing.
use native.Mathlib.Omega.{arith}
use mathlib.Core.List.{[]}
use Rattle.alpha.specs.Bodies.{pair_unit}
use Rattle.alpha.proofs.Fronts.{mapped_more, mapped_all}
use Rattle.alpha.proofs.fill_pairs.Goals as goal

pub loop-i-preserved : goal.loop-i-preserved
unfolding pair_unit
loop-i-preserved c = mapped_more _ _ _ _ _ c.loop-i.invariant _ [] c.loop-i-test.true (omega (arith, c.from_be_bytes.ensures))

pub returns : goal.returns
returns c = mapped_all _ _ _ _ _ c.loop-i.invariant c.loop-i-test.false
