-- `alpha::print_text` meets its contract: the units of the text, or R13.
-- Assumes nothing.
use native.Mathlib.Omega.{arith}
use mathlib.Core.Path.{sym, ap}
use Rattle.text.proofs.Printing.{prints_as}
use Rattle.alpha.specs.Printed.{text_line}
use Rattle.alpha.proofs.Telling.{text_read, text_refused}
use Rattle.alpha.proofs.print_text.Goals as goal

pub slice_bounds-units-end : goal.slice_bounds-units-end
slice_bounds-units-end c = (text_read _ _ _ (omega arith) _ (c.read.ensures.value, c.read.ensures.out_after) _ c.in-Ok.is).fits

pub slice_bounds-print_units-end : goal.slice_bounds-print_units-end
slice_bounds-print_units-end c = (text_read _ _ _ (omega arith) _ (c.read.ensures.value, c.read.ensures.out_after) _ c.in-Ok.is).size

pub print_units-requires : goal.print_units-requires
print_units-requires c = let t = text_read _ _ _ (omega arith) _ (c.read.ensures.value, c.read.ensures.out_after) _ c.in-Ok.is in (omega (arith, t.size, t.fits), omega arith)

pub returns-in-Ok : goal.returns-in-Ok
returns-in-Ok c = prints_as (ap text_line (sym (text_read _ _ _ (omega arith) _ (c.read.ensures.value, c.read.ensures.out_after) _ c.in-Ok.is).text)) c.print_units.ensures

pub returns-in-Err : goal.returns-in-Err
returns-in-Err c = prints_as (text_refused _ _ _ (omega arith) _ (c.read.ensures.value, c.read.ensures.out_after) _ c.in-Err.is) c.print_refusal.ensures
