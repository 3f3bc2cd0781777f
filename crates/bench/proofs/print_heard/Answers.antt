-- `bench::print_heard` meets its contract: the details and the objects from the result on, or R8.
-- Assumes nothing.
use native.Mathlib.Omega.{arith}
use Rattle.bench.proofs.Objects.{silence_line, response_line}
use Rattle.bench.proofs.print_heard.Goals as goal

pub returns-in_default : goal.returns-in_default
returns-in_default c = silence_line c.in_default.ensures c.print_refusal.ensures

pub returns : goal.returns
returns c = response_line c.in-Some.ensures (omega arith) c.print_value-end.ensures c.print_objects.ensures
