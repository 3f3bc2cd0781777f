-- `timers::manage_timer` meets its contract: the law of each way out, at what it calls.
-- Assumes nothing.
use Prim.Native.Nat.{◌-◌}
use mathlib.Core.Path.{◌≡◌, refl, sym, ap, ◌∙◌}
use mathlib.Core.Bool.{true}
use mathlib.Core.List.{[]}
use native.Mathlib.Omega.{arith}
use borrow.Author.Rules.{rules}
use Rattle.rules.specs.Timers.{action_of, is_timer, of_day}
use Rattle.session.specs.Picture.{time_at}
use Rattle.session.proofs.Facts.{good_table}
use Rattle.timers.proofs.Records.{timer_low, timer_high, place_within, start_put, manage_none, manage_number, manage_idle, left_fits, manage_stop, manage_ask}
use Rattle.timers.proofs.manage_timer.Goals as goal

pub tell_result-requires : goal.tell_result-requires
unfolding action_of
tell_result-requires c = search rules

pub shape_of-out-then-action-eq-NONE : goal.shape_of-out-then-action-eq-NONE
unfolding action_of
shape_of-out-then-action-eq-NONE c = search rules

pub returns-then-action-eq-NONE : goal.returns-then-action-eq-NONE
unfolding action_of
returns-then-action-eq-NONE c = manage_none _ _ c.requires.0 c.args.d c.args.n c.args.ignored _ _ _ c.if-action-eq-NONE.true c.tell_result.ensures

pub is_timer-requires : goal.is_timer-requires
unfolding action_of
is_timer-requires c = search rules

pub tell_result-requires-then-not-is_timer : goal.tell_result-requires-then-not-is_timer
unfolding action_of
tell_result-requires-then-not-is_timer c = search rules

pub shape_of-out-then-not-is_timer : goal.shape_of-out-then-not-is_timer
unfolding action_of
shape_of-out-then-not-is_timer c = search rules

pub returns-then-not-is_timer : goal.returns-then-not-is_timer
unfolding action_of
returns-then-not-is_timer c = manage_number _ _ c.requires.0 c.args.d c.args.n c.args.ignored _ _ _ c.if-action-eq-NONE.false (sym c.is_timer.ensures ∙ c.if-not-is_timer.true) c.tell_result-then-not-is_timer.ensures

-- the number of a timer, behind the second test

pub overflow_sub-n : goal.overflow_sub-n
unfolding action_of
overflow_sub-n c = timer_low _ ((let here : is_timer c.args.n ≡ true =
    sym c.is_timer.ensures ∙ c.if-not-is_timer.false in here))

pub place_of-at-requires : goal.place_of-at-requires
unfolding action_of
place_of-at-requires c = omega (
  arith,
  timer_low _ ((let here : is_timer c.args.n ≡ true =
      sym c.is_timer.ensures ∙ c.if-not-is_timer.false in here)),
  timer_high _ ((let here : is_timer c.args.n ≡ true =
      sym c.is_timer.ensures ∙ c.if-not-is_timer.false in here)),
)

pub time_at-left-requires : goal.time_at-left-requires
unfolding action_of
time_at-left-requires c = let w = place_within (c.args.n - 1) (omega (
  arith,
  timer_low _ ((let here : is_timer c.args.n ≡ true =
      sym c.is_timer.ensures ∙ c.if-not-is_timer.false in here)),
  timer_high _ ((let here : is_timer c.args.n ≡ true =
      sym c.is_timer.ensures ∙ c.if-not-is_timer.false in here)),
)) in
    omega (arith, w, c.place_of-at.ensures)

pub is_zero-requires : goal.is_zero-requires
unfolding action_of
is_zero-requires c = search rules

pub tell_result-requires-then-is_zero : goal.tell_result-requires-then-is_zero
unfolding action_of
tell_result-requires-then-is_zero c = search rules

pub shape_of-out-then-is_zero : goal.shape_of-out-then-is_zero
unfolding action_of
shape_of-out-then-is_zero c = search rules

pub returns-then-is_zero : goal.returns-then-is_zero
unfolding action_of
returns-then-is_zero c = manage_idle _ _ c.requires.0 c.args.d c.args.n c.args.ignored _ _ _ c.if-action-eq-NONE.false ((let here : is_timer c.args.n ≡ true =
    sym c.is_timer.ensures ∙ c.if-not-is_timer.false in here)) c.time_at-left.result (c.time_at-left.ensures ∙ ap (time_at c.args.session.now.ledger) c.place_of-at.ensures)
    (sym c.is_zero.ensures ∙ c.if-is_zero.true) c.tell_result-then-is_zero.ensures

pub put_timer-requires : goal.put_timer-requires
unfolding action_of
put_timer-requires c = let w = place_within (c.args.n - 1) (omega (
  arith,
  timer_low _ ((let here : is_timer c.args.n ≡ true =
      sym c.is_timer.ensures ∙ c.if-not-is_timer.false in here)),
  timer_high _ ((let here : is_timer c.args.n ≡ true =
      sym c.is_timer.ensures ∙ c.if-not-is_timer.false in here)),
)) in
    omega (arith, w, c.place_of-at.ensures)

pub plain-requires : goal.plain-requires
unfolding action_of
plain-requires c = search rules

pub tell_left-requires : goal.tell_left-requires
unfolding action_of
tell_left-requires c = (
  omega (arith, c.requires.1),
  (let here : of_day c.time_at-left.result ≡ true =
      left_fits _ _ c.requires.0 c.args.d c.args.n c.args.ignored 0 [] [] c.if-action-eq-NONE.false ((let here : is_timer c.args.n ≡ true =
      sym c.is_timer.ensures ∙ c.if-not-is_timer.false in here)) _ (c.time_at-left.ensures ∙ ap (time_at c.args.session.now.ledger) c.place_of-at.ensures)
      (sym c.is_zero.ensures ∙ c.if-is_zero.false) in here),
)

pub shape_of-out-then-action-eq-STOP : goal.shape_of-out-then-action-eq-STOP
unfolding action_of
shape_of-out-then-action-eq-STOP c = search rules

pub returns-then-action-eq-STOP : goal.returns-then-action-eq-STOP
unfolding action_of
returns-then-action-eq-STOP c = manage_stop _ _ c.requires.0 c.args.d c.args.n c.args.ignored _ _ _ c.if-action-eq-NONE.false ((let here : is_timer c.args.n ≡ true =
    sym c.is_timer.ensures ∙ c.if-not-is_timer.false in here)) _ (c.time_at-left.ensures ∙ ap (time_at c.args.session.now.ledger) c.place_of-at.ensures)
    (sym c.is_zero.ensures ∙ c.if-is_zero.false) _ c.plain.ensures c.tell_left.ensures c.if-action-eq-STOP.true _ (start_put _ _ _ c.place_of-at.ensures refl c.put_timer.ensures)

pub plain-requires-2 : goal.plain-requires-2
unfolding action_of
plain-requires-2 c = search rules

pub tell_left-requires-2 : goal.tell_left-requires-2
unfolding action_of
tell_left-requires-2 c = (
  omega (arith, c.requires.1),
  (let here : of_day c.time_at-left.result ≡ true =
      left_fits _ _ c.requires.0 c.args.d c.args.n c.args.ignored 0 [] [] c.if-action-eq-NONE.false ((let here : is_timer c.args.n ≡ true =
      sym c.is_timer.ensures ∙ c.if-not-is_timer.false in here)) _ (c.time_at-left.ensures ∙ ap (time_at c.args.session.now.ledger) c.place_of-at.ensures)
      (sym c.is_zero.ensures ∙ c.if-is_zero.false) in here),
)

pub shape_of-out : goal.shape_of-out
unfolding action_of
shape_of-out c = search rules

pub returns : goal.returns
unfolding action_of
returns c = manage_ask _ _ c.requires.0 c.args.d c.args.n c.args.ignored _ _ _ c.if-action-eq-NONE.false ((let here : is_timer c.args.n ≡ true =
    sym c.is_timer.ensures ∙ c.if-not-is_timer.false in here)) _ (c.time_at-left.ensures ∙ ap (time_at c.args.session.now.ledger) c.place_of-at.ensures)
    (sym c.is_zero.ensures ∙ c.if-is_zero.false) _ c.plain-2.ensures c.tell_left-2.ensures c.if-action-eq-STOP.false

-- the time left is one of a day
