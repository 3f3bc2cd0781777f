-- A second for the first timers, one after the other; and the first that waits.
-- Assumes nothing.
use Prim.Native.Nat.{ℕ, zero, suc, ◌+◌, ◌-◌, ◌≤◌, ◌<◌}
use mathlib.Core.Path.{◌≡◌, refl, sym, ap, subst, ◌∙◌}
use mathlib.Core.Bool.{Bool, true, false, not, ◌&&◌}
use mathlib.Core.List.{List, [], ◌∷◌, map}
use native.Mathlib.Omega.{arith}
use native.Mathlib.Numerals.{add-one}
use lib.ListN.{length, get_or, set, drop}
use lib.Seq.{drop-cons, drop-length}
use borrow.Author.Tests.{not-true, not-false}
use Rattle.std.specs.Prelude.{Ok}
use Rattle.rules.specs.Timers.{timer_count, Timer, idle, is_zero, ticked, is_waiting, before_waiting, less_second}
use Rattle.rules.specs.State.{State, timer, with_timers, with_timer}
use Rattle.rules.specs.TimerCalls.{passing}
use Rattle.rules.specs.Sound.{Each, SoundTimer, Sound}
use Rattle.rules.proofs.Laws.{branch, stop, skip}
use Rattle.rules.proofs.Soundness.{timers_sound}
use Rattle.rules.proofs.Timers.{ticked_sound}
use Rattle.session.specs.Book.{timer_at, ledger_size}
use Rattle.session.proofs.Ledgers.{ledger_size_lem}
use Rattle.session.specs.Picture.{time_at, ledger_of, pool_of, shown, GoodIn, time_numbers}
use Rattle.session.specs.Calls.{Answers}
use Rattle.session.proofs.Timers.{left_read, left_written}
use Rattle.session.proofs.Answers.{quiet_answers}
use Rattle.timers.specs.Ticks.{ticked_at, waits_at}
use Rattle.timers.proofs.ByTimes.{ticked_none, ticked_left, waits_by}
use Rattle.timers.proofs.Records.{timer_sound, left_is, started_is}
use Rattle.rules.specs.declared.Time.{Time}
use Rattle.octets.specs.Parts.{pasted}

-- the same timer in its place
same_set : (ts : List Timer) (k : ℕ) → set ts k (get_or ts k idle) ≡ ts
same_set [] k = refl
same_set (t ∷ ts) zero = refl
same_set (t ∷ ts) (suc k) = ap (λ (us : List Timer). t ∷ us) (same_set ts k)

same_timer : (a : State) (n : ℕ) → with_timer a n (timer a n) ≡ a
unfolding with_timer timer
same_timer a n = λ i. record { profile = a.profile; events = a.events; chans = a.chans; timers = same_set a.timers (n - 1) i }

-- a second for one timer
pub tick_is : (a : State) → Sound a → (n : ℕ) → 1 ≤ n → n ≤ timer_count → ticked_at (ledger_of a) (timer_at (n - 1)) ≡ ledger_of (with_timer a n (ticked (timer a n)))
unfolding ticked_at
tick_is a h n low high =
    let x = timer a n in
    let read = left_read a h n low high in
    branch (λ (t : List ℕ). t ≡ ledger_of (with_timer a n (ticked x))) (is_zero (time_at (ledger_of a) (timer_at (n - 1)))) _ _
    (λ z. sym (ap ledger_of (ap (with_timer a n) (ticked_none x (timer_sound a n h) (sym (ap is_zero read) ∙ z)) ∙ same_timer a n)))
    (λ z.
    let w = ticked_left x (sym (ap is_zero read) ∙ z) in
    left_written a h n low high _ (ticked x) (w.0 ∙ ap less_second (sym read)) w.1)

-- what the code leaves of the numbers at a place
module _ (t : List ℕ) (at : ℕ) {l : Time} {z : Bool} (eˡ : l ≡ time_at t at) (eᶻ : z ≡ is_zero l) where
  pub tick_zero : z ≡ true → t ≡ ticked_at t at
  unfolding ticked_at
  tick_zero e = sym (stop _ _ _ (ap is_zero (sym eˡ) ∙ sym eᶻ ∙ e))

  pub tick_less : z ≡ false → {m : Time} {u : List ℕ} → m ≡ less_second l → u ≡ pasted t at (time_numbers m) → u ≡ ticked_at t at
  unfolding ticked_at
  tick_less e f s =
      s ∙ ap (λ (x : Time). pasted t at (time_numbers x)) (f ∙ ap less_second eˡ) ∙ sym (skip _ _ _ (ap is_zero (sym eˡ) ∙ sym eᶻ ∙ e))

-- a second for the first k timers
unfoldable pub ticked_to : ℕ → List Timer → List Timer
ticked_to zero ts = ts
ticked_to (suc k) [] = []
ticked_to (suc k) (t ∷ ts) = ticked t ∷ ticked_to k ts

ticked_size : (k : ℕ) (ts : List Timer) → length (ticked_to k ts) ≡ length ts
unfolding ticked_to
ticked_size zero ts = refl
ticked_size (suc k) [] = refl
ticked_size (suc k) (t ∷ ts) = ap suc (ticked_size k ts)

ticked_each : (k : ℕ) (ts : List Timer) → Each SoundTimer ts → Each SoundTimer (ticked_to k ts)
unfolding ticked_to
ticked_each zero ts h = h
ticked_each (suc k) [] h = tt
ticked_each (suc k) (t ∷ ts) h = (ticked_sound t h.0, ticked_each k ts h.1)

ticked_next : (k : ℕ) (ts : List Timer) → k < length ts → set (ticked_to k ts) k (ticked (get_or (ticked_to k ts) k idle)) ≡ ticked_to (k + 1) ts
unfolding ticked_to
ticked_next k [] h = absurd (omega arith)
ticked_next zero (t ∷ ts) h = refl
ticked_next (suc k) (t ∷ ts) h = ap (λ (us : List Timer). ticked t ∷ us) (ticked_next k ts (omega arith)) ∙ ap (λ (j : ℕ). ticked_to j (t ∷ ts)) (let e : suc (k + 1) ≡ suc k + 1 = omega arith in e)

ticked_all : (ts : List Timer) → ticked_to (length ts) ts ≡ map ticked ts
unfolding ticked_to
ticked_all [] = refl
ticked_all (t ∷ ts) = ap (λ (us : List Timer). ticked t ∷ us) (ticked_all ts)

-- the state in which a second has passed for the first k timers
abbrev pub partly : State → ℕ → State
partly a k = with_timers a (ticked_to k a.timers)

pub partly_sound : (a : State) → Sound a → (k : ℕ) → Sound (partly a k)
partly_sound a h k = timers_sound a (ticked_to k a.timers) h (ticked_size k a.timers ∙ h.eight) (ticked_each k a.timers h.timed)

pub partly_size : (a : State) → Sound a → (k : ℕ) (t : List ℕ) → t ≡ ledger_of (partly a k) → length t ≡ ledger_size
partly_size a h k t e = ap length e ∙ ledger_size_lem (partly a k) h.thirteen (partly_sound a h k).eight h.seven

pub partly_none : (a : State) → ledger_of a ≡ ledger_of (partly a 0)
unfolding ticked_to
partly_none a = refl

pub partly_next : (a : State) → Sound a → (k : ℕ) → k < timer_count → (t u : List ℕ) → t ≡ ledger_of (partly a k) → u ≡ ticked_at t (timer_at k) → u ≡ ledger_of (partly a (k + 1))
unfolding with_timer timer
partly_next a h k l t u e f =
    let at : k + 1 - 1 ≡ k = omega arith in
    f ∙ (λ i. ticked_at (e i) (timer_at (sym at i))) ∙ tick_is (partly a k) (partly_sound a h k) (k + 1) (omega arith) (omega arith)
    ∙ ap (λ (j : ℕ). ledger_of (with_timers a (set (ticked_to k a.timers) j (ticked (get_or (ticked_to k a.timers) j idle))))) at
    ∙ ap (λ (ts : List Timer). ledger_of (with_timers a ts)) (ticked_next k a.timers (omega (arith, h.eight)))

-- all of them: a second has passed
pub second_passed :
    (t p u q : List ℕ) (k : ℕ) → GoodIn t p → k ≤ timer_count → timer_count ≤ k → u ≡ ledger_of (partly (shown t p) k) → q ≡ p → Answers (passing (shown t p)) u q (Ok 0) [] []
unfolding passing pool_of
second_passed t p u q k g l m e f =
    let a = shown t p in
    let all : ticked_to k a.timers ≡ map ticked a.timers = ap (λ (j : ℕ). ticked_to j a.timers) (let q : k ≡ length a.timers = omega (arith, g.sound.eight) in q) ∙ ticked_all a.timers in
    quiet_answers (passing a) (with_timers a (map ticked a.timers)) [] u q []
    (subst (λ (ts : List Timer). Sound (with_timers a ts)) all (partly_sound a g.sound k)) refl refl
    (record { ledger = e ∙ ap (λ (ts : List Timer). ledger_of (with_timers a ts)) all; pool = f ∙ g.shows.pool })

-- the first that waits, looked for one after the other
module _ (ts : List Timer) (k : ℕ) where
  step : k < length ts → drop k ts ≡ get_or ts k idle ∷ drop (k + 1) ts
  step h = drop-cons ts k idle h ∙ ap (λ (j : ℕ). get_or ts k idle ∷ drop j ts) (sym (add-one k))

  abbrev Before : Type 0
  Before = before_waiting ts ≡ k + before_waiting (drop k ts)

  pub waiting_here : k < length ts → is_waiting (get_or ts k idle) ≡ true → Before → k ≡ before_waiting ts
  unfolding before_waiting
  waiting_here h w e = let z : before_waiting (drop k ts) ≡ 0 = ap before_waiting (step h) ∙ stop _ _ _ w in omega (arith, e, z)

  pub waiting_on : k < length ts → is_waiting (get_or ts k idle) ≡ false → Before → before_waiting ts ≡ k + 1 + before_waiting (drop (k + 1) ts)
  unfolding before_waiting
  waiting_on h w e = let z : before_waiting (drop k ts) ≡ before_waiting (drop (k + 1) ts) + 1 = ap before_waiting (step h) ∙ skip _ _ _ w in omega (arith, e, z)

  pub waiting_none : k ≡ length ts → Before → k ≡ before_waiting ts
  unfolding before_waiting
  waiting_none h e =
      let z : before_waiting (drop k ts) ≡ 0 = ap (λ (j : ℕ). before_waiting (drop j ts)) h ∙ ap before_waiting (drop-length ts) in
      omega (arith, e, z)

-- whether the numbers at a place are those of a timer that waits, time by time
module _ (t : List ℕ) (at : ℕ) {l : Time} {z : Bool} (eˡ : l ≡ time_at t at) (eᶻ : z ≡ is_zero l) where
  pub waits_not : not z ≡ true → false ≡ waits_at t at
  unfolding waits_at
  waits_not e = sym (ap (λ (b : Bool). b && not (is_zero (time_at t (at + 3)))) (ap is_zero (sym eˡ) ∙ sym eᶻ ∙ not-true z e))

  pub waits_so : not z ≡ false → {m : Time} {y : Bool} → m ≡ time_at t (at + 3) → y ≡ is_zero m → not y ≡ waits_at t at
  unfolding waits_at
  waits_so e f g =
      ap not (g ∙ ap is_zero f) ∙ sym (ap (λ (b : Bool). b && not (is_zero (time_at t (at + 3)))) (ap is_zero (sym eˡ) ∙ sym eᶻ ∙ not-false z e))

-- whether the timer behind k others waits, by its numbers
pub waits_read : (t p : List ℕ) → GoodIn t p → (k : ℕ) → k < timer_count → waits_at t (timer_at k) ≡ is_waiting (get_or (shown t p).timers k idle)
unfolding waits_at timer
waits_read t p g k h =
    let a = shown t p in
    let at : k + 1 - 1 ≡ k = omega arith in
    (λ i. is_zero (time_at t (timer_at (sym at i))) && not (is_zero (time_at t (timer_at (sym at i) + 3))))
    ∙ (λ i. is_zero (left_is t p g (k + 1) (omega arith) (omega arith) i) && not (is_zero (started_is t p g (k + 1) (omega arith) (omega arith) i)))
    ∙ waits_by (timer a (k + 1)) (timer_sound a (k + 1) g.sound) ∙ ap (λ (j : ℕ). is_waiting (get_or a.timers j idle)) at
