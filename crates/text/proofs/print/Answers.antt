-- `text::print` meets its contract: the line of bytes, or that of a refusal.
-- Assumes nothing.
use Rattle.text.proofs.Printing.{front_size, written_printed, refusal_printed}
use Rattle.text.proofs.print.Goals as goal

pub slice_bounds-print_written-end : goal.slice_bounds-print_written-end
slice_bounds-print_written-end c = search front_size

pub returns-in-Ok : goal.returns-in-Ok
returns-in-Ok c = written_printed c.args.bytes.now _ c.in-Ok.is c.print_written.ensures

pub returns-in-Err : goal.returns-in-Err
returns-in-Err c = refusal_printed c.args.bytes.now _ c.in-Err.is c.print_refusal.ensures
