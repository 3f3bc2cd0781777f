-- Times and timers: digits there and back, a second less, and what a second leaves sound.
-- Assumes nothing.
use Prim.Native.Nat.{ℕ, ◌≤◌, ◌<◌}
use mathlib.Core.Path.{◌≡◌, ap}
use mathlib.Core.Bool.{true, not, ◌&&◌}
use native.Mathlib.Omega.{arith}
use lib.Dec.{leb}
use borrow.Author.Tests.{leb-true, le-leb}
use Rattle.rules.specs.declared.Time.{Time}
use Rattle.rules.specs.Timers.{Timer, idle, running, waiting, swapped, unswapped, time_in, time_bytes, of_day, is_zero, is_time, less_second, runs_on, ticked}
use Rattle.rules.specs.Sound.{SoundTimer}
use Rattle.rules.proofs.Laws.{branch, both, both_left, both_right}

-- hours up to 23, minutes and seconds up to 59
pub record OfDay (t : Time) : Type 0 where
  pub hours : t.hours ≤ 23
  pub minutes : t.minutes ≤ 59
  pub seconds : t.seconds ≤ 59

pub of_day_lem : (t : Time) → of_day t ≡ true → OfDay t
unfolding of_day
of_day_lem t e =
    let h = leb t.hours 23 in
    let m = leb t.minutes 59 in
    let s = leb t.seconds 59 in
    record {
      hours = leb-true t.hours 23 (both_left h m (both_left (h && m) s e));
      minutes = leb-true t.minutes 59 (both_right h m (both_left (h && m) s e));
      seconds = leb-true t.seconds 59 (both_right (h && m) s e);
    }

pub day_of : (t : Time) → OfDay t → of_day t ≡ true
unfolding of_day
day_of t d = both _ _ (both _ _ (le-leb t.hours 23 d.hours) (le-leb t.minutes 59 d.minutes)) (le-leb t.seconds 59 d.seconds)

pub time_day : (t : Time) → is_time t ≡ true → OfDay t
unfolding is_time
time_day t e = of_day_lem t (both_left (of_day t) _ e)

-- a number below 100 and its digits, there and back
pub unswapped_back : (n : ℕ) → n < 100 → unswapped (swapped n) ≡ n
unfolding swapped unswapped
unswapped_back n h = omega arith

-- a time is read back from its bytes
pub time_back : (t : Time) → is_time t ≡ true → time_in (time_bytes t) ≡ t
unfolding time_in time_bytes
time_back t e =
    let d = time_day t e in
    λ i.
    record {
      hours = unswapped_back t.hours (omega (arith, d.hours)) i;
      minutes = unswapped_back t.minutes (omega (arith, d.minutes)) i;
      seconds = unswapped_back t.seconds (omega (arith, d.seconds)) i;
    }

-- a second less is of the day too
less_day : (t : Time) → OfDay t → OfDay (less_second t)
unfolding less_second
less_day t d =
    branch OfDay _ _ _ (λ _. record { hours = d.hours; minutes = d.minutes; seconds = omega (arith, d.seconds) }) (λ _.
    branch OfDay _ _ _ (λ _. record { hours = d.hours; minutes = omega (arith, d.minutes); seconds = omega arith })
    (λ _. record { hours = omega (arith, d.hours); minutes = omega arith; seconds = omega arith }))

runs_on_sound : (left from : Time) → OfDay left → is_time from ≡ true → SoundTimer (runs_on left from)
unfolding runs_on is_time
runs_on_sound left from d e =
    branch SoundTimer (is_zero left) _ _ (λ _. e) (λ z. (both (of_day left) _ (day_of left d) (ap not z), e))

-- a second leaves a timer sound
pub ticked_sound : (t : Timer) → SoundTimer t → SoundTimer (ticked t)
unfolding ticked
ticked_sound idle h = tt
ticked_sound (running left from) h = runs_on_sound (less_second left) from (less_day left (time_day left h.0)) h.1
ticked_sound (waiting from) h = h
