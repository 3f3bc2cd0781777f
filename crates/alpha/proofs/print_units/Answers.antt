-- `alpha::print_units` meets its contract: none of them, or the first and those behind it.
-- Assumes nothing.
use native.Mathlib.Omega.{arith}
use Rattle.text.specs.Prints.{count_of, outcome_of}
use Rattle.text.proofs.Printing.{prints_as}
use Rattle.alpha.proofs.Telling.{none_line, units_line, further_room, feed_room}
use Rattle.alpha.proofs.print_units.Goals as goal

pub print-requires : goal.print-requires
unfolding count_of
print-requires c = (omega arith, omega arith)

pub returns-in_default : goal.returns-in_default
unfolding outcome_of
returns-in_default c = prints_as (none_line _ c.in_default.ensures.cases) c.print.ensures

pub print_further-end-requires : goal.print_further-end-requires
print_further-end-requires c = further_room _ _ _ c.in-Some.ensures.cases.0 c.args.out.now _ (omega arith) _ _ c.print_unit-start.ensures

pub print_char-requires : goal.print_char-requires
print_char-requires c = feed_room _ _ _ c.in-Some.ensures.cases.0 c.args.out.now _ (omega arith) _ _ c.print_unit-start.ensures _ _ c.print_further-end.ensures

pub returns : goal.returns
returns c = units_line _ _ _ c.in-Some.ensures.cases.0 _ _ (omega arith) _ _ c.print_unit-start.ensures _ _ c.print_further-end.ensures _ _ c.print_char.ensures
