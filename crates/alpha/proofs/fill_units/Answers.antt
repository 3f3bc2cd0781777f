-- `alpha::fill_units` meets its contract: the first i units stand in the buffer.
-- Assumes nothing.
use Rattle.alpha.proofs.Lines.{united_place, united_digits, united_room, united_more, united_all}
use Rattle.alpha.proofs.fill_units.Goals as goal

pub unit_at-requires : goal.unit_at-requires
unit_at-requires c = (
  united_place _ _ c.requires.1 _ _ c.loop-i.invariant c.loop-i-test.true,
  united_digits _ _ c.requires.1 _ _ c.loop-i.invariant c.loop-i-test.true,
)

pub bounds-out-i : goal.bounds-out-i
bounds-out-i c = united_room _ _ c.requires.1 _ _ c.loop-i.invariant c.loop-i-test.true

pub loop-i-preserved : goal.loop-i-preserved
loop-i-preserved c = united_more _ _ c.requires.1 _ _ c.loop-i.invariant c.loop-i-test.true _ c.unit_at.ensures

pub returns : goal.returns
returns c = united_all _ _ c.requires.1 _ _ c.loop-i.invariant c.loop-i-test.false
