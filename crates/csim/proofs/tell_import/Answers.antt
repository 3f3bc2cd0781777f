-- `csim::tell_import` meets its contract: too long, or what its text without blanks gives.
-- Assumes nothing.
use Rattle.std.proofs.Common.{ap, sym, ◌∙◌}
use Rattle.text.proofs.Printing.{prints_as}
use Rattle.csim.specs.Printed.{record_line}
use Rattle.csim.proofs.Telling.{front, import_long, import_within}
use Rattle.csim.proofs.tell_import.Goals as goal

pub returns-then-line-gt-DIGITS : goal.returns-then-line-gt-DIGITS
unfolding record_line
returns-then-line-gt-DIGITS c = prints_as (sym (import_long c.args.line.now c.if-line-gt-DIGITS.true)) c.print_refusal.ensures

pub slice_bounds-text-end : goal.slice_bounds-text-end
slice_bounds-text-end c = (front c.clean-n.ensures).fits

pub slice_bounds-read_text-end : goal.slice_bounds-read_text-end
slice_bounds-read_text-end c = (front c.clean-n.ensures).size

pub returns-in-Some : goal.returns-in-Some
returns-in-Some c =
    prints_as (sym (import_within c.args.line.now _ c.if-line-gt-DIGITS.false (front c.clean-n.ensures).is ∙ ap record_line c.in-Some.ensures)) c.import_counted.ensures

pub returns-in-None : goal.returns-in-None
unfolding record_line
returns-in-None c =
    prints_as (sym (import_within c.args.line.now _ c.if-line-gt-DIGITS.false (front c.clean-n.ensures).is ∙ ap record_line c.in-None.ensures)) c.print_refusal-in-None.ensures
