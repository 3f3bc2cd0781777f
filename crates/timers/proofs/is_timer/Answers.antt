-- `timers::is_timer` meets its contract: 1 and on, and up to 8.
-- Assumes nothing.
use Rattle.timers.proofs.Records.{timer_below, timer_upto}
use Rattle.timers.proofs.is_timer.Goals as goal

pub returns-then-n-lt1 : goal.returns-then-n-lt1
returns-then-n-lt1 c = search timer_below

pub returns : goal.returns
returns c = search timer_upto
