-- `bench::print_digits` meets its contract: the loop copies two digits for each byte.
-- Assumes nothing.
use Rattle.bench.proofs.Objects.{timed_none, timed_more, timed_all}
use Rattle.bench.proofs.print_digits.Goals as goal

pub loop-i-init : goal.loop-i-init
loop-i-init c = search timed_none

pub loop-i-preserved : goal.loop-i-preserved
loop-i-preserved c = search timed_more

pub returns : goal.returns
returns c = search timed_all
