-- `csim::export_digits` meets its contract: the line of what it reads, or R17.
-- Assumes nothing.
use mathlib.Core.Path.{sym, ap}
use Rattle.text.proofs.Printing.{prints_as}
use Rattle.csim.specs.Printed.{csim_line}
use Rattle.csim.proofs.export_digits.Goals as goal

pub returns-in-None : goal.returns-in-None
unfolding csim_line
returns-in-None c = prints_as (sym (ap csim_line c.in-None.ensures)) c.print_refusal.ensures
