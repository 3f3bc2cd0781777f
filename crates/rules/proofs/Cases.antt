-- Every way in which a call can end: what holds of each refusal, of each error and of the answer, holds of the call.
-- Assumes nothing.
use Prim.Native.Nat.{ℕ, ◌+◌, ◌≤◌, min}
use mathlib.Core.Path.{◌≡◌, refl, ap}
use mathlib.Core.Bool.{Bool, true, false, not, ◌&&◌, true≢false}
use mathlib.Core.List.{List}
use native.Mathlib.Omega.{arith}
use lib.ListN.{length, take}
use lib.Dec.{ltb, eqb}
use borrow.Author.Tests.{ltb-false, eqb-false}
use Rattle.rules.specs.declared.ChannelNumber.{ChannelNumber}
use Rattle.rules.specs.declared.Link.{Link}
use Rattle.rules.specs.declared.Time.{Time}
use Rattle.rules.specs.declared.Link.TheVariants.{NotYet, Established}
use Rattle.rules.specs.declared.Refusal.{Refusal}
use Rattle.rules.specs.declared.Refusal.TheVariants.{ShortBuffer, NoChannel, Unopened, Unlinked, Overfull, CommandSize, NoneWaits, NoPlace, Undersized}
use Rattle.rules.specs.Checks.{◌⇒◌else◌, is_empty, every, some_of, member}
use Rattle.rules.specs.Profile.{allows_event, channels, allows_bearer}
use Rattle.rules.specs.declared.Way.TheVariants.{Receive, Send}
use Rattle.rules.specs.State.{State, Chan, chan, with_chan, timer, with_timer, is_open, is_established, is_dropped, is_stream, room, closed, fresh, readied, dropped, held, at_once, appended, arrived, removed, crowded}
use Rattle.rules.specs.Pool.{unpromised, grant_for}
use Rattle.rules.specs.Reading.{Bearer, reading}
use Rattle.rules.specs.Own.{Reply, reply, error, problem, done, nothing, opened, received, sent, bit1, plain, capped, open_before, served, carried_by, listing, listed, opening, closing, receiving, sending, telling, Result, reports, statuses, statuses_from, started, leaves, starting_timer, tells_left, managing_timer}
use Rattle.rules.specs.Timers.{Timer, idle, running, waiting, timer_count, action_of, is_timer, is_digits, time_in, of_day, is_time, started_of, before_waiting}
use Rattle.rules.specs.TimerCalls.{enveloping}
use Rattle.rules.specs.Written.{response_bytes, envelope_bytes}
use Rattle.rules.specs.Command.{Answer, answered, refusal, command, meant_by, Terms}
use Rattle.rules.specs.Bench.{cause_proper}
use Rattle.rules.specs.Radio.{numbered, arrival_event, arrival, taking, drop_event, dropping}
use Rattle.rules.proofs.Laws.{branch, not_not, both, either_right}

positive : (n : ℕ) → (n ≡ 0 → ⊥) → 1 ≤ n
positive n h = omega arith

-- of datagrams the buffer has room for the first
enough : (b : Bool) (buffer k : ℕ) → not b && ltb buffer k ≡ false → b ≡ false → k ≤ buffer
enough true buffer k e f = absurd (true≢false f)
enough false buffer k e f = ltb-false buffer k e

-- the channel has a number, stands open and its link is established
pub record Linked (a : State) (n : ChannelNumber) : Type 0 where
  pub number : numbered n ≡ true
  pub stands : is_open (chan a n) ≡ true
  pub link : is_established (chan a n).link ≡ true

module _ (Q : Answer → Type 0) (a : State) (refuse : (r : Refusal) → Q (refusal a r)) where
  pub arrival_cases :
      (buffer : ℕ) (n : ChannelNumber) (s : List ℕ) →
      (16 ≤ buffer → Linked a n → length s ≤ room (chan a n) Receive → crowded (chan a n) Receive s ≡ false →
      Q (answered (with_chan a n (arrived (chan a n) s)) (arrival_event a n s))) →
      Q (arrival a buffer n s)
  unfolding arrival
  arrival_cases buffer n s f =
      branch Q _ _ _ (λ _. refuse ShortBuffer) (λ e₁.
      branch Q _ _ _ (λ _. refuse NoChannel) (λ e₃.
      branch Q _ _ _ (λ _. refuse Unopened) (λ e₄.
      branch Q _ _ _ (λ _. refuse Unlinked) (λ e₅.
      branch Q _ _ _ (λ _. refuse Overfull) (λ e₆.
      branch Q _ _ _ (λ _. refuse NoPlace) (λ e₁₁.
      f (ltb-false _ _ e₁) (record { number = not_not _ e₃; stands = not_not _ e₄; link = not_not _ e₅ }) (ltb-false _ _ e₆) e₁₁))))))

  pub taking_cases :
      (buffer : ℕ) (n : ChannelNumber) →
      (Linked a n → (is_stream (chan a n).carries ≡ false → at_once (chan a n) Send ≤ buffer) →
      Q (answered (with_chan a n (removed (chan a n) Send (min buffer (at_once (chan a n) Send)))) (take (min buffer (at_once (chan a n) Send)) (held (chan a n) Send)))) →
      Q (taking a buffer n)
  unfolding taking
  taking_cases buffer n f =
      branch Q _ _ _ (λ _. refuse NoChannel) (λ e₃.
      branch Q _ _ _ (λ _. refuse Unopened) (λ e₄.
      branch Q _ _ _ (λ _. refuse Unlinked) (λ e₅.
      branch Q _ _ _ (λ _. refuse Undersized) (λ e₁₂.
      f (record { number = not_not _ e₃; stands = not_not _ e₄; link = not_not _ e₅ }) (enough (is_stream (chan a n).carries) buffer (at_once (chan a n) Send) e₁₂)))))

  pub dropping_cases :
      (buffer : ℕ) (n : ChannelNumber) →
      (16 ≤ buffer → Linked a n → Q (answered (with_chan a n (dropped (chan a n))) (drop_event a n))) →
      Q (dropping a buffer n)
  unfolding dropping
  dropping_cases buffer n f =
      branch Q _ _ _ (λ _. refuse ShortBuffer) (λ e₁.
      branch Q _ _ _ (λ _. refuse NoChannel) (λ e₃.
      branch Q _ _ _ (λ _. refuse Unopened) (λ e₄.
      branch Q _ _ _ (λ _. refuse Unlinked) (λ e₅.
      f (ltb-false _ _ e₁) (record { number = not_not _ e₃; stands = not_not _ e₄; link = not_not _ e₅ })))))

  pub command_cases :
      (terms : Terms) (s : List ℕ) →
      (255 ≤ terms.buffer → length s ≤ 256 → Q (answered (meant_by a (reading a.profile s)).state (response_bytes (meant_by a (reading a.profile s)).response))) →
      Q (command a terms s)
  unfolding command
  command_cases terms s f =
      branch Q _ _ _ (λ _. refuse ShortBuffer) (λ e₁.
      branch Q _ _ _ (λ _. refuse CommandSize) (λ e₂.
      f (ltb-false _ _ e₁) (ltb-false _ _ (either_right (is_empty s) (ltb 256 (length s)) e₂))))

  pub enveloping_cases :
      (buffer : ℕ) →
      (14 ≤ buffer → (n : ℕ) → n ≡ before_waiting a.timers + 1 → (before_waiting a.timers ≡ timer_count → ⊥) →
      Q (answered (with_timer a n idle) (envelope_bytes n (started_of (timer a n))))) →
      Q (enveloping a buffer)
  unfolding enveloping
  enveloping_cases buffer f =
      branch Q _ _ _ (λ _. refuse ShortBuffer) (λ e₁.
      branch Q _ _ _ (λ _. refuse NoneWaits) (λ e₁₀. f (ltb-false _ _ e₁) _ refl (eqb-false _ _ e₁₀)))

-- the causes that the paper lists for a type
record Causes : Type 0 where
  at_40_01 : cause_proper 0x40 0x01 ≡ true
  at_40_04 : cause_proper 0x40 0x04 ≡ true
  at_40_06 : cause_proper 0x40 0x06 ≡ true
  at_41_03 : cause_proper 0x41 0x03 ≡ true
  at_42_03 : cause_proper 0x42 0x03 ≡ true
  at_43_02 : cause_proper 0x43 0x02 ≡ true
  at_43_03 : cause_proper 0x43 0x03 ≡ true
  at_43_04 : cause_proper 0x43 0x04 ≡ true

causes : Causes
unfolding cause_proper member some_of ◌⇒◌else◌
causes =
    record {
      at_40_01 = refl;
      at_40_04 = refl;
      at_40_06 = refl;
      at_41_03 = refl;
      at_42_03 = refl;
      at_43_02 = refl;
      at_43_03 = refl;
      at_43_04 = refl;
    }

-- the facts under which an OPEN CHANNEL opens
pub record Opens (a : State) (b : Bearer) (size protocol : ℕ) : Type 0 where
  pub bearer : allows_bearer a.profile b.kind ≡ true
  pub carried : served protocol ≡ true
  pub asks : 1 ≤ size
  pub unused : open_before (channels a.profile) a.chans ≡ channels a.profile → ⊥
  pub free : 2 ≤ unpromised a

module _ (Q : Reply → Type 0) (a : State) where
  pub listing_cases :
      (es : List ℕ) (i : Bool) →
      Q (reply a (error 0x30)) →
      (every (allows_event a.profile) es ≡ true → Q (reply (listed a es) (done (plain i) nothing))) →
      Q (listing a es i)
  unfolding listing
  listing_cases es i e30 f = branch Q _ _ _ (λ _. e30) (λ e. f (not_not _ e))

  -- what holds of each problem that the paper lists for a type
  abbrev pub Why : ℕ → Type 0
  Why t = (cause : ℕ) → cause_proper t cause ≡ true → Q (reply a (problem cause))

  pub opening_cases :
      Why 0x40 →
      (q : ℕ) (b : Bearer) (size protocol : ℕ) (i : Bool) →
      Q (reply a (error 0x30)) →
      ((number : ChannelNumber) (link : Link) (g : ℕ) →
      number.0 ≡ open_before (channels a.profile) a.chans + 1 → link ≡ (bit1 q ⇒ Established else NotYet) → g ≡ grant_for size (unpromised a) →
      Opens a b size protocol →
      Q (reply (with_chan a number (fresh g link (carried_by protocol))) (done (ltb g size ⇒ 0x07 else plain i) (opened (record { number = number; link = link }) b g)))) →
      Q (opening a q b size protocol i)
  unfolding opening
  opening_cases why q b size protocol i e30 f =
      branch Q _ _ _ (λ _. e30) (λ e₁.
      branch Q _ _ _ (λ _. why 0x06 causes.at_40_06) (λ e₂.
      branch Q _ _ _ (λ _. why 0x04 causes.at_40_04) (λ e₃.
      branch Q _ _ _ (λ _. why 0x01 causes.at_40_01) (λ e₄.
      branch Q _ _ _ (λ _. why 0x04 causes.at_40_04) (λ e₅.
      f _ _ _ refl refl refl
      (record { bearer = not_not _ e₁; carried = not_not _ e₂; asks = positive _ (eqb-false _ _ e₃); unused = eqb-false _ _ e₄; free = ltb-false _ _ e₅ }))))))

  pub closing_cases :
      Why 0x41 →
      (n : ChannelNumber) (i : Bool) →
      (is_open (chan a n) ≡ true → Q (reply (with_chan a n closed) (done (plain i) nothing))) →
      Q (closing a n i)
  unfolding closing
  closing_cases why n i f = branch Q _ _ _ (λ _. why 0x03 causes.at_41_03) (λ e. f (not_not _ e))

  pub receiving_cases :
      Why 0x42 →
      (n : ChannelNumber) (request : ℕ) (i : Bool) →
      ((k : ℕ) → k ≡ min request (min (at_once (chan a n) Receive) 237) → is_open (chan a n) ≡ true →
      Q (reply (with_chan a n (removed (chan a n) Receive k))
      (done (ltb k request ⇒ 0x02 else plain i) (received (take k (held (chan a n) Receive)) (capped (length (held (removed (chan a n) Receive k) Receive))))))) →
      Q (receiving a n request i)
  unfolding receiving
  receiving_cases why n request i f = branch Q _ _ _ (λ _. why 0x03 causes.at_42_03) (λ e. f _ refl (not_not _ e))

  pub sending_cases :
      Why 0x43 →
      (q : ℕ) (n : ChannelNumber) (s : List ℕ) (i : Bool) →
      ((c : Chan) → c ≡ (bit1 q ⇒ readied (appended (chan a n) Send s) else appended (chan a n) Send s) →
      is_open (chan a n) ≡ true → is_dropped (chan a n).link ≡ false → length s ≤ room (chan a n) Send → crowded (chan a n) Send s ≡ false →
      Q (reply (with_chan a n c) (done (plain i) (sent (capped (room c Send)))))) →
      Q (sending a q n s i)
  unfolding sending
  sending_cases why q n s i f =
      branch Q _ _ _ (λ _. why 0x03 causes.at_43_03) (λ e₁.
      branch Q _ _ _ (λ _. why 0x02 causes.at_43_02) (λ e₂.
      branch Q _ _ _ (λ _. why 0x04 causes.at_43_04) (λ e₃.
      branch Q _ _ _ (λ _. why 0x04 causes.at_43_04) (λ e₄.
      f _ refl (not_not _ e₁) e₂ (ltb-false _ _ e₃) e₄))))

  pub starting_timer_cases :
      (n : ℕ) (v : List ℕ) (i : Bool) →
      Q (reply a (error 0x32)) →
      (is_timer n ≡ true → every is_digits v ≡ true → is_time (time_in v) ≡ true →
      Q (reply (with_timer a n (running (time_in v) (time_in v))) (done (plain i) (started n)))) →
      Q (starting_timer a n v i)
  unfolding starting_timer is_time
  starting_timer_cases n v i e32 f =
      branch Q _ _ _ (λ _. e32) (λ e₁.
      branch Q _ _ _ (λ _. e32) (λ e₂.
      branch Q _ _ _ (λ _. e32) (λ e₃.
      branch Q _ _ _ (λ _. e32) (λ e₄. f (not_not _ e₁) (not_not _ e₂) (both (of_day (time_in v)) _ (not_not _ e₃) (ap not e₄))))))

  -- the time left of a timer that runs; what neither runs nor waits, and what waits, is 24
  tells_left_cases :
      (q n : ℕ) (i : Bool) (t : Timer) → timer a n ≡ t →
      Q (reply a (error 0x24)) →
      ((left from : Time) → timer a n ≡ running left from → Q (reply (eqb (action_of q) 1 ⇒ with_timer a n idle else a) (done (plain i) (leaves n left)))) →
      Q (tells_left a q n i t)
  unfolding tells_left
  tells_left_cases q n i idle e e24 f = e24
  tells_left_cases q n i (running left from) e e24 f = f left from e
  tells_left_cases q n i (waiting from) e e24 f = e24

  pub managing_timer_cases :
      (q n : ℕ) (i : Bool) →
      Q (reply a (error 0x32)) →
      ((action_of q ≡ 3 → ⊥) → Q (reply a (error 0x24))) →
      ((action_of q ≡ 3 → ⊥) → is_timer n ≡ true → (left from : Time) → timer a n ≡ running left from →
      Q (reply (eqb (action_of q) 1 ⇒ with_timer a n idle else a) (done (plain i) (leaves n left)))) →
      Q (managing_timer a q n i)
  unfolding managing_timer
  managing_timer_cases q n i e32 e24 f =
      branch Q _ _ _ (λ _. e32) (λ e₁.
      branch Q _ _ _ (λ _. e32) (λ e₂.
      tells_left_cases q n i (timer a n) refl (e24 (eqb-false _ _ e₁)) (λ l s e. f (eqb-false _ _ e₁) (not_not _ e₂) l s e)))

-- the types that change nothing: what each is told
pub telling_cases :
    (Q : Result → Type 0) (a : State) (t : ℕ) (i : Bool) → Q (done (plain i) (reports (statuses (statuses_from 1 a.chans)))) → Q (done (plain i) nothing) →
    Q (telling a t i)
unfolding telling
telling_cases Q a t i f g = branch Q (eqb t 0x44) _ _ (λ _. f) (λ _. g)
