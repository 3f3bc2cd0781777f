-- `csim::tell_export` meets its contract: too long, by its word, and what the digits behind it give.
-- Assumes nothing.
use Rattle.std.proofs.Common.{ap, sym, arith, length}
use Rattle.text.proofs.Printing.{prints_as}
use Rattle.csim.specs.Printed.{csim_line}
use Rattle.csim.proofs.Telling.{export_long, unnamed, lead_within, named}
use Rattle.csim.proofs.tell_export.Goals as goal

pub returns-then-line-gt-DIGITS : goal.returns-then-line-gt-DIGITS
unfolding csim_line
returns-then-line-gt-DIGITS c = prints_as (sym (export_long c.args.line.now c.if-line-gt-DIGITS.true)) c.print_refusal.ensures

pub slice_bounds-export_digits-count : goal.slice_bounds-export_digits-count
slice_bounds-export_digits-count c = omega (arith, ap length c.lead.ensures.word, lead_within _ c.if-line-gt-DIGITS.false _ c.kind_of_line.ensures c.in-Some.kind c.in-Some.is)

pub slice_bounds-export_digits-start : goal.slice_bounds-export_digits-start
slice_bounds-export_digits-start c = omega (arith, ap length c.lead.ensures.word, lead_within _ c.if-line-gt-DIGITS.false _ c.kind_of_line.ensures c.in-Some.kind c.in-Some.is)

pub returns-in-Some : goal.returns-in-Some
returns-in-Some c =
    prints_as (sym (named _ c.if-line-gt-DIGITS.false _ c.kind_of_line.ensures c.in-Some.kind c.in-Some.is _ c.lead.ensures.word)) c.export_digits.ensures

pub returns-in-None : goal.returns-in-None
unfolding csim_line
returns-in-None c = prints_as (sym (unnamed _ c.if-line-gt-DIGITS.false _ c.kind_of_line.ensures c.in-None.is)) c.print_refusal-in-None.ensures
