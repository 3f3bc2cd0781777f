-- `bench::print_digits` meets its contract: the loop copies two digits for each byte.
-- Assumes nothing.
use Rattle.bench.proofs.Objects.{Timed}
use Rattle.bench.proofs.print_digits.Given as goal

abbrev pub invariant-loop-i : goal.invariant-loop-i
invariant-loop-i l = Timed l.initial.out l.at l.bytes l.i l.out
