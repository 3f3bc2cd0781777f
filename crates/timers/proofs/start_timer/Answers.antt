-- `timers::start_timer` meets its contract: the law of each way out, at what it calls.
-- Assumes nothing.
use Prim.Native.Nat.{◌-◌}
use mathlib.Core.Path.{sym, ap, ◌∙◌}
use native.Mathlib.Omega.{arith}
use Rattle.rules.specs.Timers.{of_day, is_zero}
use Rattle.session.proofs.Facts.{good_table}
use Rattle.timers.proofs.Records.{timer_low, timer_high, place_within, start_number, start_digits, start_day, start_zero, start_done, start_put}
use Rattle.timers.proofs.start_timer.Goals as goal

pub returns-then-not-is_timer : goal.returns-then-not-is_timer
returns-then-not-is_timer c = start_number _ _ c.requires.0 c.args.d c.args.n c.args.ignored _ _ _ c.args.time.now (sym c.is_timer.ensures ∙ c.if-not-is_timer.true) c.tell_result.ensures

pub returns-then-not-all_digits : goal.returns-then-not-all_digits
returns-then-not-all_digits c = start_digits _ _ c.requires.0 c.args.d c.args.n c.args.ignored _ _ _ c.args.time.now (sym c.is_timer.ensures ∙ c.if-not-is_timer.false)
    (sym c.all_digits.ensures ∙ c.if-not-all_digits.true) c.tell_result-then-not-all_digits.ensures

pub time_in-t-requires : goal.time_in-t-requires
time_in-t-requires c = omega (arith, c.requires.1)

pub returns-then-not-of_day : goal.returns-then-not-of_day
returns-then-not-of_day c = start_day _ _ c.requires.0 c.args.d c.args.n c.args.ignored _ _ _ c.args.time.now (sym c.is_timer.ensures ∙ c.if-not-is_timer.false)
    (sym c.all_digits.ensures ∙ c.if-not-all_digits.false) (ap of_day (sym c.time_in-t.ensures) ∙ sym c.of_day.ensures ∙ c.if-not-of_day.true) c.tell_result-then-not-of_day.ensures

pub returns-then-is_zero : goal.returns-then-is_zero
returns-then-is_zero c = start_zero _ _ c.requires.0 c.args.d c.args.n c.args.ignored _ _ _ c.args.time.now (sym c.is_timer.ensures ∙ c.if-not-is_timer.false)
    (sym c.all_digits.ensures ∙ c.if-not-all_digits.false) (ap of_day (sym c.time_in-t.ensures) ∙ sym c.of_day.ensures ∙ c.if-not-of_day.false)
    (ap is_zero (sym c.time_in-t.ensures) ∙ sym c.is_zero.ensures ∙ c.if-is_zero.true) c.tell_result-then-is_zero.ensures

pub overflow_sub-n : goal.overflow_sub-n
overflow_sub-n c = timer_low _ (sym c.is_timer.ensures ∙ c.if-not-is_timer.false)

pub place_of-requires : goal.place_of-requires
place_of-requires c = let n = sym c.is_timer.ensures ∙ c.if-not-is_timer.false in
    omega (arith, timer_low _ n, timer_high _ n)

pub put_timer-requires : goal.put_timer-requires
put_timer-requires c = let n = sym c.is_timer.ensures ∙ c.if-not-is_timer.false in
    let w = place_within (c.args.n - 1) (omega (arith, timer_low _ n, timer_high _ n)) in
    omega (arith, w, c.place_of.ensures)

pub returns : goal.returns
returns c = start_done _ _ c.requires.0 c.args.d c.args.n c.args.ignored _ _ _ c.args.time.now _ _ (sym c.is_timer.ensures ∙ c.if-not-is_timer.false)
    (sym c.all_digits.ensures ∙ c.if-not-all_digits.false) (ap of_day (sym c.time_in-t.ensures) ∙ sym c.of_day.ensures ∙ c.if-not-of_day.false)
    (ap is_zero (sym c.time_in-t.ensures) ∙ sym c.is_zero.ensures ∙ c.if-is_zero.false) (start_put _ _ _ c.place_of.ensures c.time_in-t.ensures c.put_timer.ensures) c.plain.ensures c.tell_started.ensures
