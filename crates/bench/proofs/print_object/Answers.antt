-- `bench::print_object` meets its contract: a blank, and the digits of a time or the value.
-- Assumes nothing.
use native.Mathlib.Omega.{arith}
use Rattle.bench.proofs.Objects.{time_text, value_text}
use Rattle.bench.proofs.print_object.Goals as goal

pub returns-then-number-eq-TIME : goal.returns-then-number-eq-TIME
returns-then-number-eq-TIME c = time_text _ _ c.print_char-from.ensures (omega arith) c.if-number-eq-TIME.true c.print_digits.ensures

pub returns : goal.returns
returns c = value_text _ _ c.print_char-from.ensures (omega arith) c.if-number-eq-TIME.false c.print_value.ensures
