-- `alpha::print_further` meets its contract: the units before here are printed.
-- Assumes nothing.
use native.Mathlib.Omega.{arith}
use Rattle.alpha.proofs.Lines.{further_none, further_place, further_unit, further_more}
use Rattle.alpha.proofs.print_further.Goals as goal

pub loop-unit-init : goal.loop-unit-init
loop-unit-init c = further_none _ _ _ c.requires

pub print_char-start-requires : goal.print_char-start-requires
print_char-start-requires c = omega (arith, further_place _ _ _ _ _ _ c.loop-unit.invariant)

pub print_unit-end-requires : goal.print_unit-end-requires
print_unit-end-requires c = further_unit _ _ _ _ _ _ c.loop-unit.invariant _ _ c.loop-unit-test.true c.print_char-start.ensures

pub loop-unit-preserved : goal.loop-unit-preserved
loop-unit-preserved c = further_more _ _ _ _ _ _ c.loop-unit.invariant _ _ _ _ c.loop-unit-test.true c.print_char-start.ensures c.print_unit-end.ensures
