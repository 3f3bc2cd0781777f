-- `bench::print_record` meets its contract: the command of the values, or R9.
-- Assumes nothing.
use mathlib.Core.Path.{refl}
use native.Mathlib.Omega.{arith}
use lib.ListN.{replicate}
use Rattle.text.proofs.Bounds.{count_within}
use Rattle.bench.specs.Printed.{command_for, record_line}
use Rattle.bench.proofs.Records.{command_line, short_record, record_line_lem}
use Rattle.bench.proofs.print_record.Goals as goal

pub returns-in_default : goal.returns-in_default
returns-in_default c = short_record _ _ _ _ _ (omega arith) c.print_refusal.ensures

pub print-requires : goal.print-requires
print-requires c = (count_within _ _ _ _ (c.write-ended.ensures.value, c.write-ended.ensures.out_after), omega arith)

pub returns-in-Some : goal.returns-in-Some
returns-in-Some c =
    let v = c.in-Some.values in
    record_line_lem _ _ _ _ _ _ c.in-len6-up.len_at_least c.in-Some.ensures
    (command_line c.args.frame.now v.asking v.bytes.now _ (replicate 256 0) _ (c.write-ended.ensures.value, c.write-ended.ensures.out_after) refl c.print.ensures)

pub returns-in-None : goal.returns-in-None
unfolding record_line command_for
returns-in-None c = record_line_lem _ _ _ _ _ _ c.in-len6-up.len_at_least c.in-None.ensures c.print_refusal-in-None.ensures
