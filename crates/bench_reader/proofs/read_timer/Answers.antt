-- `bench_reader::read_timer` meets its contract: the timer, by what was done with it.
-- Assumes nothing.
use native.Mathlib.Omega.{arith}
use Rattle.bench_reader.proofs.Standing.{byte_there, follows_as}
use Rattle.bench_reader.proofs.Timing.{timer_missed, timer_unfit, timer_started, timer_unasked, timer_left}
use Rattle.bench_reader.proofs.read_timer.Goals as goal

pub returns-in_err-timer : goal.returns-in_err-timer
returns-in_err-timer c = λ x. rw c.from_residual.ensures (timer_missed _ x _ _ c.in_err-timer.ensures)

pub returns-then-timer-lt1 : goal.returns-then-timer-lt1
returns-then-timer-lt1 c = λ x. timer_unfit _ x _ _ (byte_there c.in_ok-timer.ensures) (λ o. let e = c.then-timer-lt1.either in omega arith)

pub returns-in-Start : goal.returns-in-Start
returns-in-Start c = λ x. timer_started _ x _ _ (byte_there c.in_ok-timer.ensures) (omega arith, omega arith) c.in-Start.ensures

pub returns-in-Stop : goal.returns-in-Stop
returns-in-Stop c = λ x. follows_as _ x _ _ (timer_left _ x _ _ (byte_there c.in_ok-timer.ensures) (omega arith, omega arith) _ c.in-Stop.is c.from.ensures) (c.read_left.ensures _ x)

pub returns-in-Nothing : goal.returns-in-Nothing
returns-in-Nothing c = λ x. timer_unasked _ x _ _ (byte_there c.in_ok-timer.ensures) (omega arith, omega arith) c.in-Nothing.ensures
