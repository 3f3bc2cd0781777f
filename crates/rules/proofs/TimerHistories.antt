-- What was seen of a timer tells the timer: it runs, waits or does neither as its latest start and the seconds since say.
-- Assumes nothing.
use Prim.Native.Nat.{ℕ, zero, suc, ◌+◌, ◌-◌, ◌*◌, ◌/◌, ◌%◌, ◌≤◌, ◌<◌}
use mathlib.Core.Path.{◌≡◌, refl, sym, ap, subst, ◌∙◌}
use mathlib.Core.Bool.{Bool, true, false, not, ◌&&◌, false≢true, true≢false, ◌||◌}
use mathlib.Core.List.{List, [], ◌∷◌, map}
use native.Mathlib.Omega.{arith}
use lib.ListN.{length, get_or, set, replicate}
use lib.Dec.{ltb, leb, eqb}
use borrow.Author.Tests.{ltb-true, ltb-false, lt-ltb, le-ltb, leb-true, le-leb, lt-leb, eqb-true, eqb-false, eq-eqb, ne_eqb, leb-false}
use Rattle.rules.specs.declared.Time.{Time}
use Rattle.rules.specs.Checks.{◌⇒◌else◌, every}
use Rattle.rules.specs.Timers.{Timer, idle, running, waiting, timer_count, is_timer, action_of, time_in, is_zero, is_time, less_second, runs_on, ticked, before_waiting, is_waiting, time_bytes, of_day, started_of, is_digits}
use Rattle.rules.specs.State.{State, start, timer, with_timers, with_timer, with_chan, Chan, fresh, closed}
use Rattle.rules.specs.Sound.{Sound}
use Rattle.rules.specs.TimerHistory.{seconds_of, clock_time, Since, unset, since, one_second, timer_by, sets_after, envelope_timer, answer_sets, heard_sets, time_set, since_of, waits, set_with, sets_from, runs, NoneWaiting, LowestWaiting, left_by, tells_timer, touches_timer}
use Rattle.rules.proofs.Laws.{branch, stop, skip, both, both_left, both_right, each_get, and-false, each_replicate}
use Rattle.rules.proofs.Timers.{OfDay, time_day}
use Rattle.rules.specs.Reading.{close_channel, Command, reading, Body, bare, Reading, command_in, event_list, open_channel, receive_data, send_data, start_timer, manage_timer}
use Rattle.rules.specs.Own.{nothing, listed, own, Reply, Result, protocol_of, carried_by, tells_left, managing_timer, starting_timer, done, plain, leaves, error, started, reply, problem, opened, received, sent, reports}
use Rattle.rules.specs.Command.{Meant, meant_by, Answer, Terms, command, wrote, refused, Outcome}
use Rattle.rules.specs.History.{command_seen, seen_from}
use Rattle.rules.specs.Run.{Call, step, starting, commanding, radio, timing, after}
use Rattle.rules.specs.declared.ChannelNumber.{ChannelNumber}
use Rattle.rules.specs.Written.{envelope_bytes, timer_object, time_object}
use Rattle.rules.specs.TimerCalls.{envelope, passing, second, enveloping}
use Rattle.rules.specs.Frames.{written, object_bytes, length_bytes, contents}
use Rattle.rules.proofs.Readings.{reading_cases, details_read, counted}
use Rattle.rules.proofs.Cases.{command_cases, telling_cases, arrival_cases, listing_cases, taking_cases, dropping_cases, opening_cases, enveloping_cases, closing_cases, receiving_cases, sending_cases, starting_timer_cases, managing_timer_cases}
use Rattle.rules.proofs.Heard.{modem_heard}
use Rattle.rules.specs.Radio.{arrives, takes, drops}
use Rattle.rules.specs.Words.{channel_of}
use Rattle.rules.specs.Demands.{reached, next, Passed, latest, answer_to, result_told, heard}
use Rattle.rules.proofs.Soundness.{start_sound, reached_sound, step_sound}
use Rattle.rules.specs.declared.Refusal.TheVariants.{ShortBuffer, NoneWaits}
use mathlib.Core.Option.{some}
use Rattle.rules.proofs.Outside.{own_heard}
use Rattle.rules.specs.Bench.{Told, told, untold, bench_read}

-- the seconds of a time, there and back
pub clock_back : (t : Time) → OfDay t → clock_time (seconds_of t) ≡ t
unfolding clock_time seconds_of
clock_back t d =
    let k = 3600 * t.hours + 60 * t.minutes + t.seconds in
    let h : k / 60 / 60 ≡ t.hours = omega (arith, d.minutes, d.seconds) in
    let m : k / 60 % 60 ≡ t.minutes = omega (arith, d.minutes, d.seconds) in
    let s : k % 60 ≡ t.seconds = omega (arith, d.seconds) in
    λ i. record { hours = h i; minutes = m i; seconds = s i }

-- a time from one second on has a second
pub some_seconds : (t : Time) → is_time t ≡ true → 1 ≤ seconds_of t
unfolding is_time is_zero seconds_of
some_seconds t e = by t.hours t.minutes t.seconds (both_right (of_day t) (not (eqb t.hours 0 && eqb t.minutes 0 && eqb t.seconds 0)) e)
  where
    by : (h m s : ℕ) → not (eqb h 0 && eqb m 0 && eqb s 0) ≡ true → 1 ≤ 3600 * h + 60 * m + s
    by zero zero zero e = absurd (false≢true e)
    by (suc h) m s e = omega arith
    by zero (suc m) s e = omega arith
    by zero zero (suc s) e = omega arith

-- a number less one, by the number of sixties and what is over
record LessOne (k : ℕ) : Type 0 where
  over : 1 ≤ k % 60 → ((k - 1) / 60 ≡ k / 60) × ((k - 1) % 60 ≡ k % 60 - 1)
  none_over : k % 60 < 1 → ((k - 1) / 60 ≡ k / 60 - 1) × ((k - 1) % 60 ≡ 59) × (1 ≤ k / 60)

less_one : (k : ℕ) → 1 ≤ k → LessOne k
less_one k h = record { over = λ o. (omega arith, omega arith); none_over = λ o. (omega arith, omega arith, omega arith) }

-- a second less, by the seconds
clock_less : (k : ℕ) → 1 ≤ k → less_second (clock_time k) ≡ clock_time (k - 1)
unfolding less_second clock_time
clock_less k h =
    let x = less_one k h in
    branch (λ (t : Time). t ≡ clock_time (k - 1)) (leb 1 (k % 60)) _ _
    (λ e.
    let w = x.over (leb-true 1 (k % 60) e) in
    λ i. record { hours = sym w.0 i / 60; minutes = sym w.0 i % 60; seconds = sym w.1 i })
    (λ e.
    let w = x.none_over (leb-false 1 (k % 60) e) in
    let y = less_one (k / 60) w.2 in
    branch (λ (t : Time). t ≡ clock_time (k - 1)) (leb 1 (k / 60 % 60)) _ _
    (λ f.
    let v = y.over (leb-true 1 (k / 60 % 60) f) in
    λ i.
    record {
      hours = (sym v.0 ∙ ap (λ (j : ℕ). j / 60) (sym w.0)) i;
      minutes = (sym v.1 ∙ ap (λ (j : ℕ). j % 60) (sym w.0)) i;
      seconds = sym w.1 i;
    })
    (λ f.
    let v = y.none_over (leb-false 1 (k / 60 % 60) f) in
    λ i.
    record {
      hours = (sym v.0 ∙ ap (λ (j : ℕ). j / 60) (sym w.0)) i;
      minutes = (sym v.1 ∙ ap (λ (j : ℕ). j % 60) (sym w.0)) i;
      seconds = sym w.1 i;
    }))

-- nothing is left exactly where no second is
clock_zero : (k : ℕ) → is_zero (clock_time k) ≡ eqb k 0
unfolding is_zero clock_time
clock_zero zero = refl
clock_zero (suc k) = by (eqb (suc k / 60 / 60) 0) (eqb (suc k / 60 % 60) 0) (eqb (suc k % 60) 0) refl refl refl
  where
    by : (a b c : Bool) → eqb (suc k / 60 / 60) 0 ≡ a → eqb (suc k / 60 % 60) 0 ≡ b → eqb (suc k % 60) 0 ≡ c → a && b && c ≡ eqb (suc k) 0
    by true true true e f g =
        absurd (let x = eqb-true (suc k / 60 / 60) 0 e in let y = eqb-true (suc k / 60 % 60) 0 f in let z = eqb-true (suc k % 60) 0 g in omega arith)
    by true true false e f g = sym (ne_eqb (suc k) 0 (omega arith))
    by true false c e f g = sym (ne_eqb (suc k) 0 (omega arith))
    by false b c e f g = sym (ne_eqb (suc k) 0 (omega arith))

-- the time of a start that holds is one that a timer can be started with
abbrev pub Fine : Since → Type 0
Fine unset = Unit {0}
Fine (since t k) = is_time t ≡ true

-- a second passes, for the timer and for what was seen of it
ticked_told : (x : Since) → Fine x → ticked (timer_by x) ≡ timer_by (one_second x)
unfolding ticked timer_by one_second runs_on
ticked_told unset h = refl
ticked_told (since t k) h =
    let n = seconds_of t in
    branch (λ (r : Timer). ticked r ≡ timer_by (since t (k + 1))) (ltb k n) _ _
    (λ e.
    let l = ltb-true k n e in
    let one : n - k - 1 ≡ n - (k + 1) = omega arith in
    let left = clock_less (n - k) (omega arith) ∙ ap clock_time one in
    ap (λ (u : Time). is_zero u ⇒ waiting t else running u t) left
    ∙ branch (λ (r : Timer). (is_zero (clock_time (n - (k + 1))) ⇒ waiting t else running (clock_time (n - (k + 1))) t) ≡ r) (ltb (k + 1) n) _ _
    (λ f. let g = ltb-true (k + 1) n f in skip _ _ _ (clock_zero (n - (k + 1)) ∙ ne_eqb (n - (k + 1)) 0 (omega arith)))
    (λ f. let g = ltb-false (k + 1) n f in stop _ _ _ (clock_zero (n - (k + 1)) ∙ eq-eqb (n - (k + 1)) 0 (omega arith))))
    (λ e. let l = ltb-false k n e in sym (skip _ _ _ (le-ltb (k + 1) n (omega arith))))

-- a timer that was just started
started_told : (t : Time) → is_time t ≡ true → running t t ≡ timer_by (since t 0)
unfolding timer_by
started_told t e =
    let all : seconds_of t - 0 ≡ seconds_of t = omega arith in
    sym (stop _ _ _ (lt-ltb 0 (seconds_of t) (some_seconds t e)) ∙ ap (λ (u : Time). running u t) (ap clock_time all ∙ clock_back t (time_day t e)))

-- the number of a timer has a place among the eight
timer_number : (n : ℕ) → is_timer n ≡ true → (1 ≤ n) × (n ≤ timer_count)
unfolding is_timer
timer_number n e = (leb-true 1 n (both_left _ _ e), leb-true n timer_count (both_right (leb 1 n) _ e))

number_timer : (n : ℕ) → 1 ≤ n → n ≤ timer_count → is_timer n ≡ true
unfolding is_timer
number_timer n h k = both _ _ (le-leb 1 n h) (le-leb n timer_count k)

-- another timer in one place
get_set : (ts : List Timer) (i j : ℕ) (t : Timer) → i < length ts → get_or (set ts i t) j idle ≡ (eqb j i ⇒ t else get_or ts j idle)
unfolding ◌⇒◌else◌
get_set [] i j t h = absurd (omega arith)
get_set (u ∷ ts) zero zero t h = refl
get_set (u ∷ ts) zero (suc j) t h = sym (skip _ _ _ (ne_eqb (suc j) 0 (omega arith)))
get_set (u ∷ ts) (suc i) zero t h = sym (skip _ _ _ (ne_eqb 0 (suc i) (omega arith)))
get_set (u ∷ ts) (suc i) (suc j) t h = get_set ts i j t (omega arith) ∙ ap (λ (b : Bool). b ⇒ t else get_or ts j idle) (suc_same j i)
  where
    suc_same : (j i : ℕ) → eqb j i ≡ eqb (suc j) (suc i)
    suc_same j i = by (eqb j i) refl
      where
        by : (b : Bool) → eqb j i ≡ b → b ≡ eqb (suc j) (suc i)
        by true e = sym (eq-eqb (suc j) (suc i) (ap suc (eqb-true j i e)))
        by false e = let f = eqb-false j i e in sym (ne_eqb (suc j) (suc i) (omega arith))

timer_with : (a : State) (m n : ℕ) (t : Timer) → Sound a → is_timer m ≡ true → is_timer n ≡ true → timer (with_timer a m t) n ≡ (eqb n m ⇒ t else timer a n)
unfolding timer with_timer
timer_with a m n t h e f =
    let x = timer_number m e in
    let y = timer_number n f in
    let at : m - 1 < length a.timers = omega (arith, h.eight, x.0, x.1) in
    get_set a.timers (m - 1) (n - 1) t at ∙ ap (λ (b : Bool). b ⇒ t else get_or a.timers (n - 1) idle) (same (eqb n m) refl)
  where
    same : (b : Bool) → eqb n m ≡ b → eqb (n - 1) (m - 1) ≡ eqb n m
    same true q = let w = eqb-true n m q in eq-eqb (n - 1) (m - 1) (ap (λ (k : ℕ). k - 1) w) ∙ sym q
    same false q =
        let w = eqb-false n m q in
        let x = timer_number m e in
        let y = timer_number n f in
        ne_eqb (n - 1) (m - 1) (omega (arith, w, x.0, y.0)) ∙ sym q

get_map : (ts : List Timer) (k : ℕ) → get_or (map ticked ts) k idle ≡ ticked (get_or ts k idle)
unfolding ticked
get_map [] k = refl
get_map (t ∷ ts) zero = refl
get_map (t ∷ ts) (suc k) = get_map ts k

fine_second : (x : Since) → Fine x → Fine (one_second x)
unfolding one_second
fine_second unset h = tt
fine_second (since t k) h = h

-- the lowest timer that waits is one of the eight
pub before_waiting_lem : (ts : List Timer) → before_waiting ts ≤ length ts
unfolding before_waiting
before_waiting_lem [] = omega arith
before_waiting_lem (t ∷ ts) = let r = before_waiting_lem ts in branch (λ (k : ℕ). k ≤ length (t ∷ ts)) (is_waiting t) _ _ (λ _. omega arith) (λ _. omega arith)

waiting_number : (a : State) (m : ℕ) → Sound a → m ≡ before_waiting a.timers + 1 → (before_waiting a.timers ≡ timer_count → ⊥) → (1 ≤ m) × (m ≤ timer_count)
waiting_number a m o e one = omega (arith, o.eight, before_waiting_lem a.timers, one)

-- none waits: all stand before the first; one waits and none before it
all_before : (ts : List Timer) → ((k : ℕ) → k < length ts → is_waiting (get_or ts k idle) ≡ false) → before_waiting ts ≡ length ts
unfolding before_waiting
all_before [] h = refl
all_before (t ∷ ts) h = let r = all_before ts (λ k l. h (suc k) (omega arith)) in skip _ _ _ (h 0 (omega arith)) ∙ omega arith

first_at :
    (ts : List Timer) (k : ℕ) → k < length ts → is_waiting (get_or ts k idle) ≡ true → ((j : ℕ) → j < k → is_waiting (get_or ts j idle) ≡ false) →
    before_waiting ts ≡ k
unfolding before_waiting
first_at [] k l e h = absurd (omega arith)
first_at (t ∷ ts) zero l e h = stop _ _ _ e
first_at (t ∷ ts) (suc k) l e h =
    let r = first_at ts k (omega arith) e (λ j m. h (suc j) (omega arith)) in
    skip _ _ _ (h 0 (omega arith)) ∙ omega arith

and_true : (b : Bool) → b && true ≡ b
and_true true = refl
and_true false = refl

-- what was seen tells the timer
pub record TellsOf (n : ℕ) (a : State) (x : Since) : Type 0 where
  pub is : timer a n ≡ timer_by x
  pub fine : Fine x

-- a fresh session has no timer that runs or waits, and nothing was seen of one
start_tells : (n : ℕ) (p : List ℕ) → TellsOf n (start p) unset
unfolding start timer timer_by
start_tells n p =
    record {
      is = each_get (λ (t : Timer). t ≡ idle) (replicate timer_count idle) (n - 1) idle refl (each_replicate (λ (t : Timer). t ≡ idle) timer_count idle refl);
      fine = tt;
    }

module _ (n : ℕ) (number : is_timer n ≡ true) (a : State) (x : Since) (o : Sound a) (h : TellsOf n a x) where
  -- one timer changes, and what is told of it
  changed : (m : ℕ) (t : Timer) (y : Since) → is_timer m ≡ true → t ≡ timer_by y → Fine y → TellsOf n (with_timer a m t) (eqb n m ⇒ y else x)
  changed m t y e q f =
      branch (λ (z : Since). TellsOf n (with_timer a m t) z) (eqb n m) _ _
      (λ b. record { is = timer_with a m n t o e number ∙ stop _ _ _ b ∙ q; fine = f })
      (λ b. record { is = timer_with a m n t o e number ∙ skip _ _ _ b ∙ h.is; fine = h.fine })

  abbrev Told-by : Command → Reply → Type 0
  Told-by c r = TellsOf n r.state (answer_sets n x c r.result)

  -- a channel that changes leaves the timers
  kept : (m : ChannelNumber) (c : Chan) → TellsOf n (with_chan a m c) x
  unfolding with_chan timer
  kept m c = record { is = h.is; fine = h.fine }

  -- another event list does so too
  listed_kept : (es : List ℕ) → TellsOf n (listed a es) x
  unfolding listed timer
  listed_kept es = record { is = h.is; fine = h.fine }

  -- a stop ends the timer that it names, an ask leaves it
  stops : (b : Bool) (m : ℕ) → is_timer m ≡ true → TellsOf n (b ⇒ with_timer a m idle else a) (eqb n m && b ⇒ unset else x)
  unfolding timer_by ◌⇒◌else◌
  stops true m w = subst (λ (b : Bool). TellsOf n (with_timer a m idle) (b ⇒ unset else x)) (sym (and_true (eqb n m))) (changed m idle unset w refl tt)
  stops false m w = subst (λ (b : Bool). TellsOf n a (b ⇒ unset else x)) (sym (and-false (eqb n m))) h

  -- a second passes
  passed : TellsOf n (with_timers a (map ticked a.timers)) (one_second x)
  unfolding timer
  passed = record { is = get_map a.timers (n - 1) ∙ ap ticked h.is ∙ ticked_told x h.fine; fine = fine_second x h.fine }

  own_tells : (c : Command) (b : Body) (i : Bool) → c.body ≡ b → Told-by c (own a c b i)
  unfolding own answer_sets time_set
  own_tells c (bare t) i e = telling_cases (λ (r : Result). TellsOf n a (answer_sets n x c r)) a t i h h
  own_tells c (event_list es) i e = listing_cases (Told-by c) a es i h (λ _. listed_kept es)
  own_tells c (open_channel b size t) i e =
      opening_cases (Told-by c) a (λ _ _. h) c.qualifier b size (protocol_of t) i h (λ m l g _ _ _ _. kept m (fresh g l (carried_by (protocol_of t))))
  own_tells c close_channel i e =
      closing_cases (Told-by c) a (λ _ _. h) (channel_of c.destination) i (λ _. kept (channel_of c.destination) closed)
  own_tells c (receive_data r) i e =
      receiving_cases (Told-by c) a (λ _ _. h) (channel_of c.destination) r i (λ k _ _. kept (channel_of c.destination) _)
  own_tells c (send_data s) i e =
      sending_cases (Told-by c) a (λ _ _. h) c.qualifier (channel_of c.destination) s i (λ d _ _ _ _ _. kept (channel_of c.destination) d)
  own_tells c (start_timer m v) i e =
      starting_timer_cases (Told-by c) a m v i h
      (λ w _ t.
      subst (λ (u : Time). TellsOf n (with_timer a m (running (time_in v) (time_in v))) (eqb n m ⇒ since u 0 else x)) (sym (ap time_set e))
      (changed m (running (time_in v) (time_in v)) (since (time_in v) 0) w (started_told (time_in v) t) t))
  own_tells c (manage_timer m) i e =
      managing_timer_cases (Told-by c) a c.qualifier m i h (λ _. h)
      (λ _ w left from _. stops (eqb (action_of c.qualifier) 1) m w)

  abbrev Told-in : List ℕ → Meant → Type 0
  Told-in s m = TellsOf n m.state (answer_sets n x (command_seen s) m.response.result)

  meant_tells : (s : List ℕ) → Told-in s (meant_by a (reading a.profile s))
  unfolding command_seen meant_by answer_sets
  meant_tells s =
      reading_cases (λ (r : Reading). Told-in s (meant_by a r)) a.profile s (λ _ _. h) (λ _ _. h)
      (λ r i. own_tells (command_in (details_read (contents s)) (counted (contents s))) _ i refl)

  abbrev Tells-after : Call → Answer → Type 0
  Tells-after c r = TellsOf n r.state (sets_after n x c r.outcome)

  -- the answer to a command tells what was meant
  command_sets :
      (terms : Terms) (s t : List ℕ) → (command a terms s).outcome ≡ wrote t →
      sets_after n x (commanding terms s) (wrote t) ≡ answer_sets n x (command_seen s) (meant_by a (reading a.profile s)).response.result
  unfolding sets_after heard_sets
  command_sets terms s t e = ap (heard_sets n x (command_seen s)) (modem_heard a terms s t o e)

  enveloped : (m : ℕ) → (1 ≤ m) × (m ≤ timer_count) → (t : Time) → TellsOf n (with_timer a m idle) (eqb n (envelope_timer (envelope_bytes m t)) ⇒ unset else x)
  unfolding envelope_timer envelope_bytes written object_bytes length_bytes timer_object time_object time_bytes timer_by ◌⇒◌else◌
  enveloped m w t = changed m idle unset (number_timer m w.0 w.1) refl tt

  -- what is seen of any call tells the timer after it
  step_tells : (c : Call) → Tells-after c (step a c)
  unfolding step sets_after passing
  step_tells (starting p) = start_tells n p
  step_tells (commanding terms s) =
      let m = meant_by a (reading a.profile s) in
      command_cases
      (λ (r : Answer). ((t : List ℕ) → r.outcome ≡ wrote t → sets_after n x (commanding terms s) (wrote t) ≡ answer_sets n x (command_seen s) m.response.result) → Tells-after (commanding terms s) r)
      a (λ _ _. h) terms s (λ _ _ hears. subst (TellsOf n m.state) (sym (hears _ refl)) (meant_tells s))
      (command_sets terms s)
  step_tells (radio buffer m (arrives s)) = arrival_cases (Tells-after (radio buffer m (arrives s))) a (λ _. h) buffer m s (λ _ _ _ _. kept m _)
  step_tells (radio buffer m takes) = taking_cases (Tells-after (radio buffer m takes)) a (λ _. h) buffer m (λ _ _. kept m _)
  step_tells (radio buffer m drops) = dropping_cases (Tells-after (radio buffer m drops)) a (λ _. h) buffer m (λ _ _. kept m _)
  step_tells (timing second) = passed
  step_tells (timing (envelope buffer)) =
      enveloping_cases (Tells-after (timing (envelope buffer))) a (λ _. h) buffer
      (λ _ m e one. enveloped m (waiting_number a m o e one) (started_of (timer a m)))

sets_from_lem : (n : ℕ) → is_timer n ≡ true → (a : State) (x : Since) (cs : List Call) → Sound a → TellsOf n a x → TellsOf n (after a cs) (sets_from n x (seen_from a cs))
unfolding after sets_from seen_from
sets_from_lem n e a x [] o h = h
sets_from_lem n e a x (c ∷ cs) o h = sets_from_lem n e (step a c).state (sets_after n x c (step a c).outcome) cs (step_sound a c o) (step_tells n e a x o h c)

-- what was seen of a timer, from the start through any list of calls, tells the timer
pub timer_told : (n : ℕ) (p : List ℕ) (cs : List Call) → is_timer n ≡ true → TellsOf n (reached p cs) (since_of n p cs)
timer_told n p cs e = sets_from_lem n e (start p) unset cs (start_sound p) (start_tells n p)

-- what one call more tells
sets_next :
    (n : ℕ) (x : Since) (a : State) (cs : List Call) (c : Call) →
    sets_from n x (seen_from a (next cs c)) ≡ sets_after n (sets_from n x (seen_from a cs)) c (step (after a cs) c).outcome
unfolding after sets_from seen_from
sets_next n x a [] c = refl
sets_next n x a (d ∷ cs) c = sets_next n (sets_after n x d (step a d).outcome) (step a d).state cs c

pub since_next : (n : ℕ) (p : List ℕ) (cs : List Call) (c : Call) → since_of n p (next cs c) ≡ sets_after n (since_of n p cs) c (step (reached p cs) c).outcome
since_next n p cs c = sets_next n unset (start p) cs c

-- whether a timer waits, and whether it runs, by what was seen of it
waiting_by : (x : Since) → is_waiting (timer_by x) ≡ waits x
unfolding is_waiting timer_by waits
waiting_by unset = refl
waiting_by (since t k) =
    branch (λ (r : Timer). is_waiting r ≡ leb (seconds_of t) k) (ltb k (seconds_of t)) _ _
    (λ e. sym (lt-leb (seconds_of t) k (ltb-true k (seconds_of t) e))) (λ e. sym (le-leb (seconds_of t) k (ltb-false k (seconds_of t) e)))

started_by : (x : Since) → started_of (timer_by x) ≡ set_with x
unfolding started_of timer_by set_with
started_by unset = refl
started_by (since t k) = branch (λ (r : Timer). started_of r ≡ t) (ltb k (seconds_of t)) _ _ (λ _. refl) (λ _. refl)

-- a stop or an ask, by what was seen of the timer
left_told :
    (a : State) (q n : ℕ) (i : Bool) (x : Since) →
    (tells_left a q n i (timer_by x)).result ≡ (runs x ⇒ done (plain i) (leaves n (left_by x)) else error 0x24)
unfolding tells_left timer_by runs left_by
left_told a q n i unset = sym (skip _ _ _ refl)
left_told a q n i (since t k) =
    let b = ltb k (seconds_of t) in
    branch (λ (r : Timer). (tells_left a q n i r).result ≡ (b ⇒ done (plain i) (leaves n (clock_time (seconds_of t - k))) else error 0x24)) b _ _
    (λ e. sym (stop _ _ _ e)) (λ e. sym (skip _ _ _ e))

module _ (p : List ℕ) (cs : List Call) where
  -- a stop or an ask that passed the checks before is told the time of the latest start less the seconds since exactly when the timer runs, else 24
  pub left_exactly :
      (terms : Terms) (s : List ℕ) (c : Command) (i : Bool) (n : ℕ) → Passed (latest p cs) terms s c i → c.body ≡ manage_timer n →
      eqb (action_of c.qualifier) 3 ≡ false → is_timer n ≡ true →
      answer_to p cs terms s ≡ some (runs (since_of n p cs) ⇒ done (plain i) (leaves n (left_by (since_of n p cs))) else error 0x24)
  unfolding own managing_timer
  left_exactly terms s c i n w e acts number =
      own_heard p cs terms s c i w (manage_timer n) e
      ∙ ap (λ (r : Reply). some r.result) (skip _ _ _ acts ∙ skip _ _ _ (ap not number) ∙ ap (tells_left (reached p cs) c.qualifier n i) (timer_told n p cs number).is)
      ∙ ap some (left_told (reached p cs) c.qualifier n i (since_of n p cs))

  -- value 3, and a timer outside 1 to 8
  pub managed_wrong :
      (terms : Terms) (s : List ℕ) (c : Command) (i : Bool) (n : ℕ) → Passed (latest p cs) terms s c i → c.body ≡ manage_timer n →
      eqb (action_of c.qualifier) 3 || not (is_timer n) ≡ true → answer_to p cs terms s ≡ some (error 0x32)
  unfolding own managing_timer
  managed_wrong terms s c i n w e =
      λ f.
      own_heard p cs terms s c i w (manage_timer n) e
      ∙ branch (λ (r : Reply). some r.result ≡ some (error 0x32)) _ _ _ (λ _. refl) (λ g.
      branch (λ (r : Reply). some r.result ≡ some (error 0x32)) _ _ _ (λ _. refl) (λ k. absurd (false≢true (sym (λ i. g i || k i) ∙ f))))

  -- a start that passed the checks before is done exactly where the timer is 1 to 8 and its time has sound digits, from one second up to 23:59:59; else it is 32
  pub start_exactly :
      (terms : Terms) (s : List ℕ) (c : Command) (i : Bool) (n : ℕ) (v : List ℕ) → Passed (latest p cs) terms s c i → c.body ≡ start_timer n v →
      answer_to p cs terms s ≡ some (is_timer n && every is_digits v && is_time (time_in v) ⇒ done (plain i) (started n) else error 0x32)
  unfolding own starting_timer is_time ◌⇒◌else◌
  start_exactly terms s c i n v w e =
      own_heard p cs terms s c i w (start_timer n v) e
      ∙ ap some (checks (is_timer n) (every is_digits v) (of_day (time_in v)) (is_zero (time_in v)))
    where
      checks :
          (a b d z : Bool) →
          (not a ⇒ reply (reached p cs) (error 0x32) else not b ⇒ reply (reached p cs) (error 0x32) else not d ⇒ reply (reached p cs) (error 0x32) else
          z ⇒ reply (reached p cs) (error 0x32) else reply (with_timer (reached p cs) n (running (time_in v) (time_in v))) (done (plain i) (started n))).result ≡
          (a && b && (d && not z) ⇒ done (plain i) (started n) else error 0x32)
      checks false b d z = refl
      checks true false d z = refl
      checks true true false z = refl
      checks true true true true = refl
      checks true true true false = refl

  -- the timers, as what was seen tells them
  waits_told : (k : ℕ) → k < timer_count → is_waiting (get_or (reached p cs).timers k idle) ≡ waits (since_of (k + 1) p cs)
  unfolding timer
  waits_told k h =
      let at : k + 1 - 1 ≡ k = omega arith in
      ap (λ (j : ℕ). is_waiting (get_or (reached p cs).timers j idle)) (sym at) ∙ ap is_waiting (timer_told (k + 1) p cs (number_timer (k + 1) (omega arith) (omega arith))).is
      ∙ waiting_by (since_of (k + 1) p cs)

  abbrev seen : ℕ → Since
  seen n = since_of n p cs

  -- an envelope is R1 with a buffer of fewer than 14 bytes
  pub envelope_short : (buffer : ℕ) → buffer < 14 → (step (reached p cs) (timing (envelope buffer))).outcome ≡ refused ShortBuffer
  unfolding step enveloping
  envelope_short buffer h = ap (λ (r : Answer). r.outcome) (stop _ _ _ (lt-ltb buffer 14 h))

  -- else R10 where no timer waits
  pub envelope_none : (buffer : ℕ) → 14 ≤ buffer → NoneWaiting seen → (step (reached p cs) (timing (envelope buffer))).outcome ≡ refused NoneWaits
  unfolding step enveloping
  envelope_none buffer h none =
      ap (λ (r : Answer). r.outcome)
      (skip _ _ _ (le-ltb buffer 14 h)
      ∙ stop _ _ _ (eq-eqb _ timer_count (all_before (reached p cs).timers (λ k l. waits_told k (omega (arith, eight)) ∙ none (k + 1) (omega arith) (omega (arith, eight))) ∙ eight)))
    where
      eight : length (reached p cs).timers ≡ timer_count
      eight = (reached_sound p cs).eight

  -- and else it tells the lowest one that waits, with the time of its latest start
  pub envelope_exactly :
      (buffer n : ℕ) → 14 ≤ buffer → LowestWaiting seen n →
      (step (reached p cs) (timing (envelope buffer))).outcome ≡ wrote (envelope_bytes n (set_with (seen n)))
  unfolding step enveloping
  envelope_exactly buffer n h low =
      ap (λ (r : Answer). r.outcome)
      (skip _ _ _ (le-ltb buffer 14 h) ∙ skip _ _ _ (ne_eqb k timer_count (omega (arith, is, low.upto))))
      ∙ ap (λ (m : ℕ). wrote (envelope_bytes m (started_of (timer (reached p cs) m)))) (let e : k + 1 ≡ n = omega (arith, is, low.from) in e)
      ∙ ap (λ (t : Time). wrote (envelope_bytes n t)) (ap started_of (timer_told n p cs (number_timer n low.from low.upto)).is ∙ started_by (seen n))
    where
      eight : length (reached p cs).timers ≡ timer_count
      eight = (reached_sound p cs).eight

      k : ℕ
      k = before_waiting (reached p cs).timers

      at : n - 1 + 1 ≡ n
      at = omega (arith, low.from)

      is : k ≡ n - 1
      is =
          first_at (reached p cs).timers (n - 1) (omega (arith, eight, low.from, low.upto))
          (waits_told (n - 1) (omega (arith, low.from, low.upto)) ∙ ap (λ (j : ℕ). waits (seen j)) at ∙ low.waits_it)
          (λ j l. waits_told j (omega (arith, low.upto)) ∙ low.below (j + 1) (omega arith) (omega (arith, low.from)))

-- a call that does not touch a timer tells nothing of it
untouched_answer : (n : ℕ) (x : Since) (c : Command) (r : Result) → tells_timer n (some r) ≡ false → answer_sets n x c r ≡ x
unfolding answer_sets tells_timer
untouched_answer n x c (error e) h = refl
untouched_answer n x c (problem cause) h = refl
untouched_answer n x c (done r nothing) h = refl
untouched_answer n x c (done r (opened s b g)) h = refl
untouched_answer n x c (done r (received s left)) h = refl
untouched_answer n x c (done r (sent room)) h = refl
untouched_answer n x c (done r (started m)) h = skip _ _ _ h
untouched_answer n x c (done r (leaves m t)) h = skip _ _ _ (ap (λ (b : Bool). b && eqb (action_of c.qualifier) 1) h)
untouched_answer n x c (done r (reports s)) h = refl

untouched_heard : (n : ℕ) (x : Since) (c : Command) (t : Told) → tells_timer n (result_told t) ≡ false → heard_sets n x c t ≡ x
unfolding heard_sets result_told
untouched_heard n x c (told r) h = untouched_answer n x c r.result h
untouched_heard n x c (untold r) h = refl

untouched_sets : (n : ℕ) (x : Since) (c : Call) (o : Outcome) → touches_timer n c o ≡ false → sets_after n x c o ≡ x
unfolding sets_after touches_timer heard
untouched_sets n x (starting p) o h = absurd (true≢false h)
untouched_sets n x (commanding terms s) (wrote t) h = untouched_heard n x (command_seen s) (bench_read t) h
untouched_sets n x (commanding terms s) (refused r) h = refl
untouched_sets n x (radio buffer m act) o h = refl
untouched_sets n x (timing second) o h = absurd (true≢false h)
untouched_sets n x (timing (envelope buffer)) (wrote t) h = skip _ _ _ h
untouched_sets n x (timing (envelope buffer)) (refused r) h = refl

-- a call that does not touch a timer leaves what is told of it, and the timer
pub timers_keep :
    (n : ℕ) (p : List ℕ) (cs : List Call) (c : Call) → is_timer n ≡ true → touches_timer n c (step (reached p cs) c).outcome ≡ false →
    (since_of n p (next cs c) ≡ since_of n p cs) × (timer (reached p (next cs c)) n ≡ timer (reached p cs) n)
timers_keep n p cs c e h =
    let same = since_next n p cs c ∙ untouched_sets n (since_of n p cs) c (step (reached p cs) c).outcome h in
    (same, (timer_told n p (next cs c) e).is ∙ ap timer_by same ∙ sym (timer_told n p cs e).is)
