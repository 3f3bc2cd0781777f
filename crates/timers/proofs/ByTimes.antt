-- What a timer is, by its two times: whether it runs and whether it waits, and what a second leaves of them.
-- Assumes nothing.
use Prim.Native.Nat.{ℕ}
use mathlib.Core.Path.{◌≡◌, refl, sym, ap, ◌∙◌}
use mathlib.Core.Bool.{Bool, true, false, not, ◌&&◌, true≢false}
use lib.Dec.{eqb}
use borrow.Author.Tests.{eqb-true, not-true}
use Rattle.rules.specs.declared.Time.{Time}
use Rattle.rules.specs.Checks.{◌⇒◌else◌}
use Rattle.rules.specs.Timers.{Timer, idle, running, waiting, action_of, of_day, is_zero, is_time, no_time, less_second, runs_on, ticked, is_waiting, left_of, started_of}
use Rattle.rules.specs.State.{State, with_timer}
use Rattle.rules.specs.Own.{reply, error, done, leaves, plain, tells_left}
use Rattle.rules.specs.Sound.{SoundTimer}
use Rattle.rules.proofs.Laws.{branch, both_left, both_right}

-- a time from one second on is not zero
time_some : (t : Time) → is_time t ≡ true → is_zero t ≡ false
unfolding is_time
time_some t e = not-true (is_zero t) (both_right (of_day t) _ e)

-- a time of which nothing is left
zero_is : (t : Time) → is_zero t ≡ true → no_time ≡ t
unfolding is_zero
zero_is t e =
    let h = eqb t.hours 0 in
    let m = eqb t.minutes 0 in
    let s = eqb t.seconds 0 in
    λ i.
    record {
      hours = sym (eqb-true t.hours 0 (both_left h m (both_left (h && m) s e))) i;
      minutes = sym (eqb-true t.minutes 0 (both_right h m (both_left (h && m) s e))) i;
      seconds = sym (eqb-true t.seconds 0 (both_right (h && m) s e)) i;
    }

-- a timer with no time left does not run: it is told 24, and a second leaves it
module _ (a : State) (q n : ℕ) (i : Bool) where
  pub told_none : (x : Timer) → SoundTimer x → is_zero (left_of x) ≡ true → tells_left a q n i x ≡ reply a (error 0x24)
  unfolding tells_left left_of
  told_none idle h z = refl
  told_none (running left from) h z = absurd (true≢false (sym z ∙ time_some left h.0))
  told_none (waiting from) h z = refl

  pub told_left :
      (x : Timer) → is_zero (left_of x) ≡ false →
      tells_left a q n i x ≡ reply (eqb (action_of q) 1 ⇒ with_timer a n idle else a) (done (plain i) (leaves n (left_of x)))
  unfolding tells_left left_of is_zero
  told_left idle z = absurd (true≢false z)
  told_left (running left from) z = refl
  told_left (waiting from) z = absurd (true≢false z)

pub ticked_none : (x : Timer) → SoundTimer x → is_zero (left_of x) ≡ true → ticked x ≡ x
unfolding ticked left_of
ticked_none idle h z = refl
ticked_none (running left from) h z = absurd (true≢false (sym z ∙ time_some left h.0))
ticked_none (waiting from) h z = refl

-- one that runs has a second less, and the time that it was started with stays
runs_on_lem : (l s : Time) → (left_of (runs_on l s) ≡ l) × (started_of (runs_on l s) ≡ s)
unfolding runs_on left_of started_of
runs_on_lem l s = branch (λ (x : Timer). (left_of x ≡ l) × (started_of x ≡ s)) (is_zero l) _ _ (λ z. (zero_is l z, refl)) (λ _. (refl, refl))

pub ticked_left : (x : Timer) → is_zero (left_of x) ≡ false → (left_of (ticked x) ≡ less_second (left_of x)) × (started_of (ticked x) ≡ started_of x)
unfolding ticked left_of started_of is_zero
ticked_left idle z = absurd (true≢false z)
ticked_left (running left from) z = runs_on_lem (less_second left) from
ticked_left (waiting from) z = absurd (true≢false z)

-- one that waits has no time left and was started
pub waits_by : (x : Timer) → SoundTimer x → is_zero (left_of x) && not (is_zero (started_of x)) ≡ is_waiting x
unfolding left_of started_of is_waiting is_zero
waits_by idle h = refl
waits_by (running left from) h = ap (λ (b : Bool). b && not (is_zero from)) (time_some left h.0)
waits_by (waiting from) h = ap not (time_some from h)

-- the times of a sound timer are of a day
pub left_day : (x : Timer) → SoundTimer x → is_zero (left_of x) ≡ false → of_day (left_of x) ≡ true
unfolding left_of is_zero is_time
left_day idle h z = absurd (true≢false z)
left_day (running left from) h z = both_left (of_day left) _ h.0
left_day (waiting from) h z = absurd (true≢false z)

pub started_day : (x : Timer) → SoundTimer x → of_day (started_of x) ≡ true
unfolding started_of is_time of_day
started_day idle h = refl
started_day (running left from) h = both_left (of_day from) _ h.1
started_day (waiting from) h = both_left (of_day from) _ h
