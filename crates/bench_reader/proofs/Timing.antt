-- What follows the result of a timer's command: the timer, and the time left of it.
-- Assumes nothing.
use Prim.Native.Nat.{ℕ, ◌+◌, ◌*◌, ◌/◌, ◌%◌, ◌≤◌, ◌<◌}
use mathlib.Core.Path.{◌≡◌, refl, sym, ap, subst, ◌∙◌}
use mathlib.Core.Logic.{◌⊎◌, ⊎_elim}
use mathlib.Core.Bool.{true, false, ◌&&◌, ◌||◌, true≢false}
use mathlib.Core.List.{List, [], ◌∷◌}
use native.Mathlib.Omega.{arith}
use lib.ListN.{length, get_or, drop}
use lib.Dec.{ltb, leb, eqb}
use borrow.Author.Tests.{lt-ltb, ltb-true, le-leb, leb-true}
use Rattle.rules.specs.declared.Action.{Action}
use Rattle.rules.specs.declared.Action.TheVariants.{Start, Stop, Ask, Nothing}
use Rattle.rules.specs.Words.{Acts}
use Rattle.rules.specs.declared.Details.{Details}
use Rattle.rules.specs.declared.Time.{Time}
use Rattle.rules.specs.declared.Refusal.TheVariants.{NoResponse}
use Rattle.rules.specs.Checks.{◌⇒◌else◌, every}
use Rattle.rules.specs.Frames.{Object, walk}
use Rattle.rules.specs.Timers.{action_of, is_start, is_timer, swapped, unswapped, is_digits, time_in, time_bytes, is_time}
use Rattle.rules.specs.Own.{Further, started, leaves, done}
use Rattle.rules.specs.Written.{timer_object, time_object, further_objects}
use Rattle.rules.specs.Bench.{asks_left, further_proper, value_at, further_in, Told, untold}
use Rattle.rules.proofs.Laws.{branch, both, both_left, both_right}
use Rattle.rules.proofs.Timers.{time_day}
use Rattle.bench_reader.specs.declared.Further.TheVariants.{Started, Leaves}
use Rattle.bench_reader.specs.Heard.{further_of}
use Rattle.bench_reader.specs.Tails.{Holds, object_with, Misfit, Bytes, of_type, checked, followed, timed, Leads}
use Rattle.bench_reader.proofs.Standing.{named, same_object, silent, step_on}

-- a timer from 1 to 8
timer_fair : (n : ℕ) → 1 ≤ n → n ≤ 8 → is_timer n ≡ true
unfolding is_timer
timer_fair n l h = both _ _ (le-leb 1 n l) (le-leb n 8 h)

timer_low : (n : ℕ) → is_timer n ≡ true → 1 ≤ n
unfolding is_timer
timer_low n e = leb-true 1 n (both_left (leb 1 n) (leb n 8) e)

timer_high : (n : ℕ) → is_timer n ≡ true → n ≤ 8
unfolding is_timer
timer_high n e = leb-true n 8 (both_right (leb 1 n) (leb n 8) e)

-- the timer, by the action
module _ (d : Details) (x : ℕ) (s : List ℕ) (at : ℕ) where
  abbrev q : ℕ
  q = action_of d.qualifier

  by_action :
      (P : Told → Type 0) → let t = drop at s in
      let os = (walk t).objects in
      let n = get_or (value_at os 0) 0 0 in
      let v = time_in (value_at os 1) in
      (eqb q 0 ≡ true → P (checked (eqb q 0 && is_timer n) (timer_object n ∷ []) t (record { details = d; result = done x (started n) }))) →
      (eqb q 0 ≡ false → P (checked ((eqb q 1 || eqb q 2) && is_timer n && is_time v) (timer_object n ∷ time_object v ∷ []) t (record { details = d; result = done x (leaves n v) }))) →
      P (followed d 0x27 x t)
  unfolding followed further_in further_proper further_objects is_start asks_left ◌⇒◌else◌
  by_action P a b =
      branch (λ (f : Further). P (checked (further_proper (of_type d 0x27) f) (further_objects f) (drop at s) (record { details = d; result = done x f }))) (eqb q 0) _ _ a b

  pub timer_missed : Misfit s at 0x24 false 1 → followed d 0x27 x (drop at s) ≡ untold NoResponse
  unfolding timer_object
  timer_missed m =
      by_action (λ t. t ≡ untold NoResponse) (λ _. silent _ _ _ _ (λ _ o. m.never _ _ refl o)) (λ _. silent _ _ _ _ (λ _ o. m.never _ _ refl o))

  module _ {n next : ℕ} (h : Holds s at (object_with 0x24 false (n ∷ [])) next) where
    on_timer :
        (P : Told → Type 0) → let t = drop next s in
        let v = time_in (value_at (walk t).objects 0) in
        (eqb q 0 ≡ true → P (checked (is_timer n) [] t (record { details = d; result = done x (started n) }))) →
        (eqb q 0 ≡ false → P (checked ((eqb q 1 || eqb q 2) && is_timer n && is_time v) (time_object v ∷ []) t (record { details = d; result = done x (leaves n v) }))) →
        P (followed d 0x27 x (drop at s))
    unfolding value_at timer_object
    on_timer P a b =
        by_action P (λ z. subst P (sym (rw h.walked (rw z (step_on h (named (omega arith)) _ _ _ refl)))) (a z))
        (λ z. subst P (sym (rw h.walked (step_on h (named (omega arith)) _ _ _ refl))) (b z))

    pub timer_unfit : ((1 ≤ n) × (n ≤ 8) → ⊥) → followed d 0x27 x (drop at s) ≡ untold NoResponse
    unfolding is_timer
    timer_unfit f =
        let no : is_timer n ≡ true → ⊥ = λ t. f (leb-true 1 n (both_left (leb 1 n) (leb n 8) t), leb-true n 8 (both_right (leb 1 n) (leb n 8) t)) in
        on_timer (λ t. t ≡ untold NoResponse) (λ _. silent _ _ _ _ (λ t _. no t)) (λ _. silent _ _ _ _ (λ t _. no (both_right (eqb q 1 || eqb q 2) _ (both_left _ _ t))))

    module _ (fair : (1 ≤ n) × (n ≤ 8)) where
      pub timer_started : Acts d.qualifier Start → Leads (followed d 0x27 x (drop at s)) d x s (Started n) next
      unfolding further_of
      timer_started e =
          let P : Told → Type 0 = λ t. t ≡ checked true [] (drop next s) (record { details = d; result = done x (started n) }) in
          record { is = on_timer P (λ _. rw (timer_fair n fair.0 fair.1)) (λ f. absurd (true≢false (ap (λ (k : ℕ). eqb k 0) e ∙ f))); at = λ o. tt }

      pub timer_unasked : Acts d.qualifier Nothing → followed d 0x27 x (drop at s) ≡ untold NoResponse
      timer_unasked e =
          on_timer (λ t. t ≡ untold NoResponse) (λ f. absurd (true≢false (sym f ∙ ap (λ (k : ℕ). eqb k 0) (sym e)))) (λ _. silent _ _ _ _ (λ t _.
          true≢false (sym (both_left _ _ (both_left _ _ t)) ∙ ap (λ (k : ℕ). eqb k 1 || eqb k 2) (sym e))))

      pub timer_left : (a : Action) → (a ≡ Stop) ⊎ (a ≡ Ask) → Acts d.qualifier a → followed d 0x27 x (drop at s) ≡ timed d x n (drop next s)
      unfolding timed
      timer_left a z e =
          on_timer (λ t. t ≡ timed d x n (drop next s)) (λ f. absurd (true≢false (sym f ∙ (asked a z e).0))) (λ _. rw ((asked a z e).1, timer_fair n fair.0 fair.1))
        where
          asked : (a : Action) → (a ≡ Stop) ⊎ (a ≡ Ask) → Acts d.qualifier a → (eqb q 0 ≡ false) × ((eqb q 1 || eqb q 2) ≡ true)
          asked Start z e = ⊎_elim (λ p. cc) (λ p. cc) z
          asked Stop z e = (ap (λ (k : ℕ). eqb k 0) (sym e), ap (λ (k : ℕ). eqb k 1 || eqb k 2) (sym e))
          asked Ask z e = (ap (λ (k : ℕ). eqb k 0) (sym e), ap (λ (k : ℕ). eqb k 1 || eqb k 2) (sym e))
          asked Nothing z e = ⊎_elim (λ p. cc) (λ p. cc) z

-- digits, there and back
swapped_back : (b : ℕ) → is_digits b ≡ true → swapped (unswapped b) ≡ b
unfolding is_digits swapped unswapped
swapped_back b e =
    let l = ltb-true (b % 16) 10 (both_left _ _ e) in
    let h = ltb-true (b / 16) 10 (both_right (ltb (b % 16) 10) _ e) in
    omega arith

halves : (a b : ℕ) → a < 10 → b < 10 → is_digits (16 * b + a) ≡ true
unfolding is_digits
halves a b h k =
    let e : (16 * b + a) % 16 ≡ a = omega arith in
    let f : (16 * b + a) / 16 ≡ b = omega arith in
    both _ _ (ap (λ (n : ℕ). ltb n 10) e ∙ lt-ltb a 10 h) (ap (λ (n : ℕ). ltb n 10) f ∙ lt-ltb b 10 k)

digits_of : (n : ℕ) → n < 100 → is_digits (swapped n) ≡ true
unfolding swapped
digits_of n h = halves (n / 10) (n % 10) (omega arith) (omega arith)

-- the bytes of a time have sound digits, and sound digits are the bytes of the time that they say
time_digits : (t : Time) → is_time t ≡ true → every is_digits (time_bytes t) ≡ true
unfolding every time_bytes
time_digits t e =
    let d = time_day t e in
    both _ _ (digits_of t.hours (omega (arith, d.hours)))
    (both _ _ (digits_of t.minutes (omega (arith, d.minutes))) (both _ _ (digits_of t.seconds (omega (arith, d.seconds))) refl))

digits_back : (v : List ℕ) → length v ≡ 3 → every is_digits v ≡ true → time_bytes (time_in v) ≡ v
unfolding every time_in time_bytes
digits_back [] l e = absurd (omega arith)
digits_back (a ∷ []) l e = absurd (omega arith)
digits_back (a ∷ b ∷ []) l e = absurd (omega arith)
digits_back (a ∷ b ∷ c ∷ []) l e =
    let f = both_right (is_digits a) _ e in
    λ i. swapped_back a (both_left _ _ e) i ∷ swapped_back b (both_left _ _ f) i ∷ swapped_back c (both_left _ _ (both_right (is_digits b) _ f)) i ∷ []
digits_back (a ∷ b ∷ c ∷ x ∷ v) l e = absurd (let z : length (a ∷ b ∷ c ∷ x ∷ v) ≡ 3 = l in omega arith)

-- the time left
module _ (d : Details) (x n : ℕ) {s : List ℕ} {at : ℕ} where
  pub time_missed : Misfit s at 0x25 false 3 → timed d x n (drop at s) ≡ untold NoResponse
  unfolding timed time_object time_bytes
  time_missed m = silent _ _ _ _ (λ _ o. m.never _ _ refl o)

  module _ {v : List ℕ} {next : ℕ} (u : Bytes s at 0x25 false 3 v next) where
    time_on : timed d x n (drop at s) ≡ checked (is_time (time_in v)) (time_object (time_in v) ∷ []) (drop at s) (record { details = d; result = done x (leaves n (time_in v)) })
    unfolding timed value_at
    time_on = rw u.holds.walked

    pub digits_unfit : every is_digits v ≡ false → timed d x n (drop at s) ≡ untold NoResponse
    unfolding time_object
    digits_unfit f =
        time_on ∙ silent _ _ _ _ (λ t o.
        let is = ap (λ (p : Object). p.value) (same_object (drop at s) _ _ (named (omega arith)) o u.holds.is) in
        true≢false (sym (time_digits (time_in v) t) ∙ ap (every is_digits) is ∙ f))

    module _ {t : Time} (g : t ≡ time_in v) where
      pub time_unfit : is_time t ≡ false → timed d x n (drop at s) ≡ untold NoResponse
      time_unfit f = time_on ∙ silent _ _ _ _ (λ q _. true≢false (sym q ∙ sym (ap is_time g) ∙ f))

      pub time_fits : every is_digits v ≡ true → is_time t ≡ true → Leads (timed d x n (drop at s)) d x s (Leaves n t) next
      unfolding time_object further_of
      time_fits f e =
          record {
            is = time_on ∙ step_on u.holds (named (omega arith)) _ _ _ (digits_back v u.long f) ∙ rw (← g) (rw e);
            at = λ o. tt;
          }
