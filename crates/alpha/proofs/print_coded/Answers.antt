-- `alpha::print_coded` meets its contract: no units have no bytes, and those of others fit their buffer.
-- Assumes nothing.
use native.Mathlib.Omega.{arith}
use Rattle.std.proofs.Common.{rules, tests}
use Rattle.text.specs.Prints.{count_of, outcome_of}
use Rattle.text.proofs.Printing.{prints_as}
use Rattle.alpha.proofs.Telling.{coded_count, coded_line_lem, none_coded}
use Rattle.alpha.proofs.print_coded.Goals as goal

pub print-requires : goal.print-requires
unfolding count_of
print-requires c = (omega arith, omega arith)

pub returns-then-is_empty : goal.returns-then-is_empty
unfolding outcome_of
returns-then-is_empty c = prints_as (none_coded _ (search (rules, tests))) c.print.ensures

pub print-requires-2 : goal.print-requires-2
print-requires-2 c = (omega (arith, coded_count _ _ (omega arith) _ _ (c.write-ended.ensures.value, c.write-ended.ensures.out_after)), omega arith)

pub returns : goal.returns
returns c = prints_as (coded_line_lem _ _ (omega arith) _ _ (c.write-ended.ensures.value, c.write-ended.ensures.out_after)) c.print-2.ensures
