-- `alpha::fill_based` meets its contract: the first i units stand in the buffer.
-- Assumes nothing.
use mathlib.Core.Path.{ap}
use Rattle.alpha.specs.Passes.{told}
use Rattle.alpha.proofs.Bases.{placed_none, placed_there, placed_room, placed_more, placed_all}
use Rattle.alpha.proofs.fill_based.Goals as goal

pub loop-i-init : goal.loop-i-init
loop-i-init c = placed_none _ _ _ c.requires

pub checked_unit-requires : goal.checked_unit-requires
checked_unit-requires c = placed_there _ _ _ _ _ c.loop-i.invariant c.loop-i-test.true

pub bounds-out-i : goal.bounds-out-i
bounds-out-i c = placed_room _ _ _ _ _ c.loop-i.invariant c.loop-i-test.true

pub loop-i-preserved : goal.loop-i-preserved
unfolding told
loop-i-preserved c = placed_more _ _ _ _ _ c.loop-i.invariant _ c.loop-i-test.true (ap told c.checked_unit.ensures)

pub returns : goal.returns
returns c = placed_all _ _ _ _ _ c.loop-i.invariant c.loop-i-test.false
