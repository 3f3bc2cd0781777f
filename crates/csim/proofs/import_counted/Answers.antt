-- `csim::import_counted` meets its contract: the line of what it reads, or of the refusal.
-- Assumes nothing.
use mathlib.Core.Path.{sym, ap}
use Rattle.text.proofs.Printing.{prints_as}
use Rattle.csim.specs.Printed.{record_line}
use Rattle.csim.proofs.import_counted.Goals as goal

pub returns-in-Err : goal.returns-in-Err
unfolding record_line
returns-in-Err c = prints_as (sym (ap record_line c.in-Err.ensures)) c.print_refusal.ensures
