-- `alpha::fill_escaped` meets its contract: the first n units stand in the buffer.
-- Assumes nothing.
use Rattle.alpha.proofs.Defaults.{filling_none, filling_room, filling_more, filling_end}
use Rattle.alpha.proofs.fill_escaped.Goals as goal

pub loop-unit-init : goal.loop-unit-init
loop-unit-init c = filling_none _ _ c.requires

pub bounds-out-n : goal.bounds-out-n
bounds-out-n c = filling_room _ _ _ _ _ c.loop-unit.invariant _ _ c.in-Some.ensures

pub loop-unit-preserved : goal.loop-unit-preserved
loop-unit-preserved c = filling_more _ _ _ _ _ c.loop-unit.invariant _ _ c.in-Some.ensures

pub returns : goal.returns
returns c = filling_end _ _ _ _ _ c.loop-unit.invariant c.in_default.ensures
