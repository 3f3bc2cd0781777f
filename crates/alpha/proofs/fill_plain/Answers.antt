-- `alpha::fill_plain` meets its contract: the first i units stand in the buffer.
-- Assumes nothing.
use native.Mathlib.Omega.{arith}
use mathlib.Core.Path.{ap}
use lib.ListN.{get_or}
use Rattle.alpha.specs.Alphabet.{table, unit_of}
use Rattle.alpha.proofs.Defaults.{plain_below, every_at}
use Rattle.alpha.proofs.Fronts.{mapped_more, mapped_all}
use Rattle.alpha.proofs.fill_plain.Goals as goal

pub bounds-from : goal.bounds-from
bounds-from c = omega (arith, plain_below _ (every_at _ _ c.requires.0 c.loop-i-test.true), c.from.ensures)

pub loop-i-preserved : goal.loop-i-preserved
unfolding table unit_of
loop-i-preserved c = mapped_more _ _ _ _ _ c.loop-i.invariant _ 0 c.loop-i-test.true (ap (λ i. get_or table i 0) c.from.ensures)

pub returns : goal.returns
returns c = mapped_all _ _ _ _ _ c.loop-i.invariant c.loop-i-test.false
