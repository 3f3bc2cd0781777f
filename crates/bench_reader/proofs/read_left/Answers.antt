-- `bench_reader::read_left` meets its contract: three bytes of sound digits, and a time that they say.
-- Assumes nothing.
use mathlib.Core.Path.{sym, ◌∙◌}
use native.Mathlib.Omega.{arith}
use Rattle.rules.specs.Timers.{is_time}
use Rattle.bench_reader.proofs.Timing.{time_missed, digits_unfit, time_unfit, time_fits}
use Rattle.bench_reader.proofs.read_left.Goals as goal

pub returns-in_err-digits : goal.returns-in_err-digits
returns-in_err-digits c = λ d x. rw c.from_residual.ensures (time_missed d x _ c.in_err-digits.ensures)

pub returns-then-not-all_digits : goal.returns-then-not-all_digits
returns-then-not-all_digits c = λ d x. digits_unfit d x _ c.in_ok-digits.ensures (sym c.all_digits.ensures ∙ c.if-not-all_digits.true)

pub returns-then-not-of_day : goal.returns-then-not-of_day
unfolding is_time
returns-then-not-of_day c = λ d x. time_unfit d x _ c.in_ok-digits.ensures c.time_in-left.ensures (grind arith)

pub returns : goal.returns
unfolding is_time
returns c = λ d x. time_fits d x _ c.in_ok-digits.ensures c.time_in-left.ensures (sym c.all_digits.ensures ∙ c.if-not-all_digits.false) (grind arith)
