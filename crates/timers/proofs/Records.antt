-- The timers of a good session: read from the ledger, changed there, and what the calls hand back.
-- Assumes nothing.
use Prim.Native.Nat.{ℕ, ◌+◌, ◌-◌, ◌≤◌, ◌<◌}
use mathlib.Core.Path.{◌≡◌, sym, ap, subst, ◌∙◌}
use mathlib.Core.Bool.{Bool, true, false, not, ◌&&◌}
use mathlib.Core.List.{List, ◌++◌}
use native.Mathlib.Omega.{arith}
use lib.ListN.{length}
use lib.Dec.{leb, eqb}
use borrow.Author.Tests.{leb-true, le-leb, eq-eqb, ne_eqb, le-ltb, lt-ltb, lt-leb}
use Rattle.rules.specs.declared.Details.{Details}
use Rattle.rules.specs.declared.Time.{Time}
use Rattle.rules.specs.Words.{Ended}
use Rattle.std.specs.Prelude.{Ok, Err}
use Rattle.rules.specs.declared.Refusal.TheVariants.{ShortBuffer, NoneWaits}
use Rattle.rules.specs.Checks.{◌⇒◌else◌, every}
use Rattle.rules.specs.Timers.{timer_count, Timer, idle, running, action_of, is_timer, is_digits, time_in, of_day, is_zero, is_time, no_time, left_of, started_of, before_waiting}
use Rattle.rules.specs.State.{State, timer, with_timer}
use Rattle.rules.specs.Own.{reply, error, done, started, leaves, plain, starting_timer, tells_left, managing_timer}
use Rattle.rules.specs.Written.{envelope_bytes}
use Rattle.rules.specs.Command.{answered}
use Rattle.rules.specs.TimerCalls.{envelope, enveloping}
use Rattle.rules.specs.Run.{timing, step}
use Rattle.rules.proofs.Sizes.{envelope_told}
use Rattle.rules.proofs.TimerHistories.{before_waiting_lem}
use Rattle.rules.specs.Sound.{SoundTimer, Sound}
use Rattle.rules.proofs.Laws.{stop, skip, both, both_left, both_right, each_get}
use Rattle.rules.proofs.Soundness.{with_timer_sound, step_sound}
use Rattle.octets.specs.Parts.{pasted, overlaid}
use Rattle.session.specs.Book.{timer_at, ledger_size}
use Rattle.session.specs.Picture.{time_at, time_numbers, timer_numbers, pool_of, shown, Shows, GoodIn}
use Rattle.session.specs.Calls.{Answers}
use Rattle.session.proofs.Timers.{left_read, started_read, timer_written}
use Rattle.session.proofs.Answers.{refuse_answers, wrote_answers}
use Rattle.responses.specs.Filled.{response, Filled}
use Rattle.own.specs.Replies.{told}
use Rattle.own.proofs.Replies.{told_answers, left_answers}
use Rattle.timers.proofs.ByTimes.{told_none, told_left, left_day, started_day}

-- the number of a timer
pub timer_low : (n : ℕ) → is_timer n ≡ true → 1 ≤ n
unfolding is_timer
timer_low n e = leb-true 1 n (both_left (leb 1 n) (leb n timer_count) e)

pub timer_high : (n : ℕ) → is_timer n ≡ true → n ≤ timer_count
unfolding is_timer
timer_high n e = leb-true n timer_count (both_right (leb 1 n) (leb n timer_count) e)

pub timer_below : (n : ℕ) → n < 1 → false ≡ is_timer n
unfolding is_timer
timer_below n h = sym (ap (λ (b : Bool). b && leb n timer_count) (lt-leb 1 n h))

pub timer_upto : (n : ℕ) → 1 ≤ n → leb n timer_count ≡ is_timer n
unfolding is_timer
timer_upto n h = sym (ap (λ (b : Bool). b && leb n timer_count) (le-leb 1 n h))

-- the places of a timer lie within the ledger
pub place_within : (k : ℕ) → k < timer_count → timer_at k + 6 ≤ ledger_size
place_within k h = omega arith

-- a timer of a sound state is sound
pub timer_sound : (a : State) (n : ℕ) → Sound a → SoundTimer (timer a n)
unfolding timer
timer_sound a n h = each_get SoundTimer a.timers (n - 1) idle tt h.timed

-- a timer of a good session, by its number
module _ (t p : List ℕ) (g : GoodIn t p) (n : ℕ) (low : 1 ≤ n) (high : n ≤ timer_count) where
  abbrev a : State
  a = shown t p

  pub left_is : time_at t (timer_at (n - 1)) ≡ left_of (timer a n)
  left_is = ap (λ (u : List ℕ). time_at u (timer_at (n - 1))) g.shows.ledger ∙ left_read a g.sound n low high

  pub started_is : time_at t (timer_at (n - 1) + 3) ≡ started_of (timer a n)
  started_is = ap (λ (u : List ℕ). time_at u (timer_at (n - 1) + 3)) g.shows.ledger ∙ started_read a g.sound n low high

  -- another timer there
  pub shows_with : (x : Timer) (u : List ℕ) → u ≡ pasted t (timer_at (n - 1)) (timer_numbers x) → Shows (with_timer a n x) u p
  unfolding pool_of with_timer
  shows_with x u e =
      record { ledger = e ∙ ap (λ (v : List ℕ). pasted v (timer_at (n - 1)) (timer_numbers x)) g.shows.ledger ∙ timer_written a g.sound n low high x; pool = g.shows.pool }

-- the numbers that were put, at the place and with the times that the code has found
pub start_put :
    (t u : List ℕ) (k : ℕ) {at : ℕ} {l x : Time} → at ≡ timer_at k → l ≡ x → u ≡ pasted t at (time_numbers l ++ time_numbers l) →
    u ≡ pasted t (timer_at k) (time_numbers x ++ time_numbers x)
start_put t u k e f g = g ∙ (λ i. pasted t (e i) (time_numbers (f i) ++ time_numbers (f i)))

-- TIMER MANAGEMENT, over what the code has found
module _ (t p : List ℕ) (g : GoodIn t p) (d : Details) (n : ℕ) (i : Bool) (k : ℕ) (before after : List ℕ) where
  abbrev b : State
  b = shown t p

  abbrev unread : Type 0
  unread = Filled (response d (error 0x32)) k before after

  -- a start
  module _ (v : List ℕ) where
    abbrev starts : List ℕ → Type 0
    starts u = Answers (told d (starting_timer b n v i)) u p (Ok k) before after

    pub start_number : is_timer n ≡ false → unread → starts t
    unfolding starting_timer
    start_number e w = left_answers d (starting_timer b n v i) (error 0x32) t p k before after (stop _ _ _ (ap not e)) g w

    pub start_digits : is_timer n ≡ true → every is_digits v ≡ false → unread → starts t
    unfolding starting_timer
    start_digits e f w = left_answers d (starting_timer b n v i) (error 0x32) t p k before after (skip _ _ _ (ap not e) ∙ stop _ _ _ (ap not f)) g w

    pub start_day : is_timer n ≡ true → every is_digits v ≡ true → of_day (time_in v) ≡ false → unread → starts t
    unfolding starting_timer
    start_day e f h w =
        left_answers d (starting_timer b n v i) (error 0x32) t p k before after (skip _ _ _ (ap not e) ∙ skip _ _ _ (ap not f) ∙ stop _ _ _ (ap not h)) g w

    pub start_zero : is_timer n ≡ true → every is_digits v ≡ true → of_day (time_in v) ≡ true → is_zero (time_in v) ≡ true → unread → starts t
    unfolding starting_timer
    start_zero e f h z w =
        left_answers d (starting_timer b n v i) (error 0x32) t p k before after
        (skip _ _ _ (ap not e) ∙ skip _ _ _ (ap not f) ∙ skip _ _ _ (ap not h) ∙ stop _ _ _ z) g w

    pub start_done :
        (x : ℕ) (u : List ℕ) → is_timer n ≡ true → every is_digits v ≡ true → of_day (time_in v) ≡ true → is_zero (time_in v) ≡ false →
        u ≡ pasted t (timer_at (n - 1)) (time_numbers (time_in v) ++ time_numbers (time_in v)) → x ≡ plain i → Filled (response d (done x (started n))) k before after →
        starts u
    unfolding starting_timer is_time timer_numbers left_of started_of
    start_done x u e f h z s m w =
        let r = running (time_in v) (time_in v) in
        let fine = both (of_day (time_in v)) _ h (ap not z) in
        told_answers d (starting_timer b n v i) (with_timer b n r) (done (plain i) (started n)) u p k before after
        (skip _ _ _ (ap not e) ∙ skip _ _ _ (ap not f) ∙ skip _ _ _ (ap not h) ∙ skip _ _ _ z)
        (with_timer_sound b n r g.sound (fine, fine)) (shows_with t p g n (timer_low n e) (timer_high n e) r u s)
        (subst (λ (y : ℕ). Filled (response d (done y (started n))) k before after) m w)

  -- a stop or an ask
  module _ where
    abbrev q : ℕ
    q = d.qualifier

    abbrev manages : List ℕ → Type 0
    manages u = Answers (told d (managing_timer b q n i)) u p (Ok k) before after

    pub manage_none : action_of q ≡ 3 → unread → manages t
    unfolding managing_timer
    manage_none e w = left_answers d (managing_timer b q n i) (error 0x32) t p k before after (stop _ _ _ (eq-eqb (action_of q) 3 e)) g w

    module _ (acts : action_of q ≡ 3 → ⊥) where
      pub manage_number : is_timer n ≡ false → unread → manages t
      unfolding managing_timer
      manage_number e w =
          left_answers d (managing_timer b q n i) (error 0x32) t p k before after (skip _ _ _ (ne_eqb (action_of q) 3 acts) ∙ stop _ _ _ (ap not e)) g w

      module _ (e : is_timer n ≡ true) (l : Time) (eˡ : l ≡ time_at t (timer_at (n - 1))) where
        found : l ≡ left_of (timer b n)
        found = eˡ ∙ left_is t p g n (timer_low n e) (timer_high n e)

        checked : managing_timer b q n i ≡ tells_left b q n i (timer b n)
        unfolding managing_timer
        checked = skip _ _ _ (ne_eqb (action_of q) 3 acts) ∙ skip _ _ _ (ap not e)

        pub manage_idle : is_zero l ≡ true → Filled (response d (error 0x24)) k before after → manages t
        manage_idle z w =
            left_answers d (managing_timer b q n i) (error 0x24) t p k before after
            (checked ∙ told_none b q n i (timer b n) (timer_sound b n g.sound) (sym (ap is_zero found) ∙ z)) g w

        pub left_fits : is_zero l ≡ false → of_day l ≡ true
        left_fits z = ap of_day found ∙ left_day (timer b n) (timer_sound b n g.sound) (sym (ap is_zero found) ∙ z)

        module _ (z : is_zero l ≡ false) (x : ℕ) (m : x ≡ plain i) (w : Filled (response d (done x (leaves n l))) k before after) where
          tells : tells_left b q n i (timer b n) ≡ reply (eqb (action_of q) 1 ⇒ with_timer b n idle else b) (done (plain i) (leaves n (left_of (timer b n))))
          tells = told_left b q n i (timer b n) (sym (ap is_zero found) ∙ z)

          filled : Filled (response d (done (plain i) (leaves n (left_of (timer b n))))) k before after
          filled = subst (λ (y : List ℕ). Filled y k before after) (λ j. response d (done (m j) (leaves n (found j)))) w

          pub manage_stop : action_of q ≡ 1 → (u : List ℕ) → u ≡ pasted t (timer_at (n - 1)) (time_numbers no_time ++ time_numbers no_time) → manages u
          unfolding timer_numbers left_of started_of
          manage_stop s u f =
              told_answers d (managing_timer b q n i) (with_timer b n idle) (done (plain i) (leaves n (left_of (timer b n)))) u p k before after
              (checked ∙ tells ∙ ap (λ (y : State). reply y (done (plain i) (leaves n (left_of (timer b n))))) (stop _ _ _ (eq-eqb (action_of q) 1 s)))
              (with_timer_sound b n idle g.sound tt) (shows_with t p g n (timer_low n e) (timer_high n e) idle u f) filled

          pub manage_ask : (action_of q ≡ 1 → ⊥) → manages t
          manage_ask s =
              left_answers d (managing_timer b q n i) (done (plain i) (leaves n (left_of (timer b n)))) t p k before after
              (checked ∙ tells ∙ ap (λ (y : State). reply y (done (plain i) (leaves n (left_of (timer b n))))) (skip _ _ _ (ne_eqb (action_of q) 1 s))) g filled

-- the envelope, over what the code has found
module _ (t p : List ℕ) (g : GoodIn t p) (out : List ℕ) where
  abbrev e : State
  e = shown t p

  abbrev told_by : Ended → List ℕ → List ℕ → Type 0
  told_by r u after = Answers (enveloping e (length out)) u p r out after

  pub envelope_short : length out < 14 → told_by (Err ShortBuffer) t out
  unfolding enveloping
  envelope_short l = refuse_answers (enveloping e (length out)) t p out ShortBuffer g (stop _ _ _ (lt-ltb (length out) 14 l))

  module _ (l : 14 ≤ length out) (k : ℕ) (w : k ≡ before_waiting e.timers) where
    pub envelope_none : k ≡ timer_count → told_by (Err NoneWaits) t out
    unfolding enveloping
    envelope_none z = refuse_answers (enveloping e (length out)) t p out NoneWaits g (skip _ _ _ (le-ltb (length out) 14 l) ∙ stop _ _ _ (eq-eqb _ timer_count (sym w ∙ z)))

    module _ (some : k ≡ timer_count → ⊥) where
      pub waiting_below : k < timer_count
      waiting_below = let x = before_waiting_lem e.timers in omega (arith, w, x, some, g.sound.eight)

      at_place : k + 1 - 1 ≡ k
      at_place = omega arith

      pub from_is : time_at t (timer_at k + 3) ≡ started_of (timer e (k + 1))
      from_is = ap (λ (j : ℕ). time_at t (timer_at j + 3)) (sym at_place) ∙ started_is t p g (k + 1) (omega arith) (omega (arith, waiting_below))

      pub from_day : of_day (time_at t (timer_at k + 3)) ≡ true
      from_day = ap of_day from_is ∙ started_day (timer e (k + 1)) (timer_sound e (k + 1) g.sound)

      pub envelope_done :
          (u after : List ℕ) → u ≡ pasted t (timer_at k) (time_numbers no_time ++ time_numbers no_time) → after ≡ overlaid (envelope_bytes (k + 1) (time_at t (timer_at k + 3))) out →
          told_by (Ok 14) u after
      unfolding enveloping timer_numbers left_of started_of step
      envelope_done u after s b =
          let n = k + 1 in
          let bytes = envelope_bytes n (started_of (timer e n)) in
          subst (λ (m : ℕ). told_by (Ok m) u after) (envelope_told n (started_of (timer e n)))
          (wrote_answers (enveloping e (length out)) (with_timer e n idle) bytes u p out after (step_sound e (timing (envelope (length out))) g.sound)
          (skip _ _ _ (le-ltb (length out) 14 l) ∙ skip _ _ _ (ne_eqb _ timer_count (λ z. some (w ∙ z)))
          ∙ ap (λ (j : ℕ). answered (with_timer e (j + 1) idle) (envelope_bytes (j + 1) (started_of (timer e (j + 1))))) (sym w))
          (shows_with t p g n (omega arith) (omega (arith, waiting_below)) idle u (s ∙ ap (λ (j : ℕ). pasted t (timer_at j) (time_numbers no_time ++ time_numbers no_time)) (sym at_place)))
          (b ∙ ap (λ (x : Time). overlaid (envelope_bytes n x) out) from_is))
