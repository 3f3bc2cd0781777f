-- `alpha::tell_alpha_write` meets its contract: the line of its units.
-- Assumes nothing.
use native.Mathlib.Omega.{arith}
use Rattle.alpha.specs.Printed.{coded_line}
use Rattle.alpha.proofs.Lines.{units_read, units_unread}
use Rattle.alpha.proofs.Telling.{coded_told}
use Rattle.alpha.proofs.tell_alpha_write.Goals as goal

pub returns-in_default : goal.returns-in_default
unfolding coded_line
returns-in_default c = coded_told _ _ (units_unread _ _ c.read_units.ensures.value c.in_default.is) c.print_refusal.ensures

pub slice_bounds-units-end : goal.slice_bounds-units-end
slice_bounds-units-end c = (units_read _ _ _ _ _ (c.read_units.ensures.value, c.read_units.ensures.out_after) c.in-Some.is).fits

pub slice_bounds-print_coded-end : goal.slice_bounds-print_coded-end
slice_bounds-print_coded-end c = (units_read _ _ _ _ _ (c.read_units.ensures.value, c.read_units.ensures.out_after) c.in-Some.is).size

pub print_coded-requires : goal.print_coded-requires
print_coded-requires c = let t = units_read _ _ _ _ _ (c.read_units.ensures.value, c.read_units.ensures.out_after) c.in-Some.is in (omega (arith, t.size, t.fits), omega arith)

pub returns : goal.returns
unfolding coded_line
returns c = coded_told _ _ (units_read _ _ _ _ _ (c.read_units.ensures.value, c.read_units.ensures.out_after) c.in-Some.is).units c.print_coded.ensures
