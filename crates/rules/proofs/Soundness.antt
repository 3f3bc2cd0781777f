-- The state stays sound, from the start through any list of calls.
-- Assumes nothing.
use Prim.Native.Nat.{ℕ, zero, suc, ◌+◌, ◌-◌, ◌*◌, ◌≤◌, ◌<◌, min}
use mathlib.Core.Path.{◌≡◌, refl, sym, ap, subst, ◌∙◌}
use mathlib.Core.Bool.{Bool, true, false, not, ◌&&◌, true≢false, false≢true}
use mathlib.Core.List.{List, [], ◌∷◌, ◌++◌, map}
use native.Mathlib.Omega.{arith}
use lib.ListN.{length, get_or, length-append, length-drop, length-take, length-set, length-map}
use lib.Dec.{leb, eqb}
use borrow.Author.Tests.{leb-false}
use Rattle.rules.specs.declared.Carries.{Carries}
use Rattle.rules.specs.declared.ChannelNumber.{ChannelNumber}
use Rattle.rules.specs.Checks.{is_empty}
use Rattle.rules.specs.Datagrams.{lessened, total}
use Rattle.rules.specs.declared.Link.{Link}
use Rattle.rules.specs.Profile.{kept, channels}
use Rattle.rules.specs.declared.Way.{Way}
use Rattle.rules.specs.declared.Way.TheVariants.{Receive, Send}
use Rattle.rules.specs.State.{State, Chan, closed, is_open, is_stream, start, chan, with_chan, room, fresh, readied, dropped, establish, queue, with_queue, held, joined, without, counting, due, at_once, marked, appended, whole, arrived, removed, unfinished, places_used, crowded, with_timer, with_timers}
use Rattle.rules.specs.Pool.{cells, promised_to, promised, unpromised}
use Rattle.rules.specs.Words.{channel_of}
use Rattle.rules.specs.Reading.{Reading, wrong, asked, reading, Command, Body, bare, event_list, open_channel, close_channel, receive_data, send_data, start_timer, manage_timer}
use Rattle.rules.specs.Own.{Reply, bit1, open_before, listed, own, protocol_of, carried_by}
use Rattle.rules.specs.Command.{Answer, meant_by}
use Rattle.rules.specs.Radio.{arrives, takes, drops}
use Rattle.rules.specs.Run.{Call, starting, commanding, radio, step, after, timing}
use Rattle.rules.specs.Sound.{SoundChan, Sound, Each, SoundTimer}
use Rattle.rules.proofs.Laws.{branch, by_way, skip, each_get, each_set, each_replicate}
use Rattle.rules.proofs.Cases.{arrival_cases, taking_cases, dropping_cases, command_cases, listing_cases, opening_cases, closing_cases, receiving_cases, sending_cases, starting_timer_cases, managing_timer_cases, enveloping_cases}
use Rattle.rules.proofs.Datagrams.{first, first_total, total_another, length_another, some_another, total_lessened, length_lessened, some_lessened}
use Rattle.rules.proofs.Grants.{Granted, grant_law, promised_set}
use Rattle.rules.specs.Timers.{Timer, timer_count, idle, running, ticked, time_in, action_of}
use Rattle.rules.specs.TimerCalls.{passing, envelope, second}
use Rattle.rules.proofs.Timers.{ticked_sound}

-- what may be handed out at once is due, and of datagrams it is the first
pub once_due : (c : Chan) (w : Way) → SoundChan c → at_once c w ≤ due c w
unfolding at_once
once_due c w h =
    branch (λ (k : ℕ). k ≤ due c w) (is_stream c.carries) _ _ (λ _. omega arith)
    (λ e. omega (arith, first_total (queue c w).lengths, (h.lengths w).all e))

pub once_first : (c : Chan) (w : Way) (k : ℕ) → k ≤ at_once c w → is_stream c.carries ≡ false → k ≤ first (queue c w).lengths
unfolding at_once
once_first c w k h e = subst (λ (j : ℕ). k ≤ j) (skip _ _ _ e) h

-- a place for bytes that begin a datagram, or join one
begin_place : (s : List ℕ) (n : ℕ) → not (is_empty s) && leb 16 n ≡ false → n ≤ 16 → n + min 1 (length s) ≤ 16
unfolding is_empty
begin_place [] n e h = omega arith
begin_place (x ∷ s) n e h = let l = leb-false 16 n e in omega arith

join_place : (s : List ℕ) (n u : ℕ) → not (is_empty s) && eqb u 0 && leb 16 (n + min 1 u) ≡ false → n + min 1 u ≤ 16 → n + min 1 (u + length s) ≤ 16
unfolding is_empty
join_place [] n u e h = omega arith
join_place (x ∷ s) n zero e h = let l = leb-false 16 (n + min 1 0) e in omega arith
join_place (x ∷ s) n (suc u) e h = omega arith

-- the changes of one channel

pub closed_sound : SoundChan closed
unfolding closed queue due total places_used unfinished
closed_sound =
    record {
      capped = omega arith;
      fits = by_way _ (omega arith) (omega arith);
      ready_held = omega arith;
      lengths = by_way _ (record { none = λ _. refl; some = tt; all = λ _. refl; few = omega arith }) (record { none = λ _. refl; some = tt; all = λ _. refl; few = omega arith });
    }

pub fresh_sound : (g : ℕ) (l : Link) (k : Carries) → g ≤ 1500 → SoundChan (fresh g l k)
unfolding fresh queue due total places_used unfinished
fresh_sound g l k h =
    record {
      capped = h;
      fits = by_way _ (omega arith) (omega arith);
      ready_held = omega arith;
      lengths = by_way _ (record { none = λ _. refl; some = tt; all = λ _. refl; few = omega arith }) (record { none = λ _. refl; some = tt; all = λ _. refl; few = omega arith });
    }

module _ (c : Chan) (h : SoundChan c) where
  abbrev ls : Way → List ℕ
  ls w = (queue c w).lengths

  pub arrived_sound : (s : List ℕ) → length s ≤ room c Receive → crowded c Receive s ≡ false → SoundChan (arrived c s)
  unfolding arrived whole appended with_queue joined counting queue room due places_used unfinished crowded
  arrived_sound s f g =
      let x = h.lengths Receive in
      let y = h.lengths Send in
      let size = length-append (held c Receive) s in
      let more = length_another (ls Receive) (length s) in
      let sum = total_another (ls Receive) (length s) in
      branch SoundChan (is_stream c.carries) _ _
      (λ e.
      record {
        capped = h.capped;
        fits = by_way _ (omega (arith, f, size, h.fits Receive)) (h.fits Send);
        ready_held = h.ready_held;
        lengths =
            by_way _ (record { none = x.none; some = x.some; all = λ q. absurd (true≢false (sym e ∙ q)); few = x.few })
            (record { none = y.none; some = y.some; all = y.all; few = y.few });
      })
      (λ e.
      record {
        capped = h.capped;
        fits = by_way _ (omega (arith, f, size, h.fits Receive)) (h.fits Send);
        ready_held = h.ready_held;
        lengths =
            by_way _
            (record {
              none = λ q. absurd (true≢false (sym q ∙ e));
              some = some_another (ls Receive) (length s) x.some;
              all = λ _. omega (arith, sum, size, x.all e);
              few = omega (arith, more, begin_place s (length (ls Receive)) g x.few);
            })
            (record { none = y.none; some = y.some; all = y.all; few = y.few });
      })

  pub sent_sound : (s : List ℕ) → length s ≤ room c Send → crowded c Send s ≡ false → SoundChan (appended c Send s)
  unfolding appended with_queue joined queue room due places_used unfinished crowded
  sent_sound s f g =
      let x = h.lengths Receive in
      let y = h.lengths Send in
      let size = length-append (held c Send) s in
      let left : length (held c Send ++ s) - c.ready ≡ length (held c Send) - c.ready + length s = omega (arith, size, h.ready_held) in
      record {
        capped = h.capped;
        fits = by_way _ (h.fits Receive) (omega (arith, f, size, h.fits Send));
        ready_held = omega (arith, size, h.ready_held);
        lengths =
            by_way _ (record { none = x.none; some = x.some; all = x.all; few = x.few })
            (record {
              none = y.none;
              some = y.some;
              all = y.all;
              few = omega (arith, left, join_place s (length (ls Send)) (length (held c Send) - c.ready) g y.few);
            });
      }

  pub removed_sound : (w : Way) (k : ℕ) → k ≤ at_once c w → SoundChan (removed c w k)
  unfolding removed with_queue without marked queue lessened due places_used unfinished
  removed_sound Receive k f =
      let x = h.lengths Receive in
      let y = h.lengths Send in
      let d = length-drop k (held c Receive) in
      let few = length_lessened (ls Receive) k in
      let due-so = once_due c Receive h in
      record {
        capped = h.capped;
        fits = by_way _ (omega (arith, d, h.fits Receive)) (h.fits Send);
        ready_held = h.ready_held;
        lengths =
            by_way _
            (record {
              none = λ q. ap (λ (l : List ℕ). lessened l k) (x.none q);
              some = some_lessened (ls Receive) k x.some;
              all = λ e. omega (arith, d, total_lessened (ls Receive) k (once_first c Receive k f e), x.all e);
              few = omega (arith, few, x.few);
            })
            (record { none = y.none; some = y.some; all = y.all; few = y.few });
      }
  removed_sound Send k f =
      let x = h.lengths Receive in
      let y = h.lengths Send in
      let d = length-drop k (held c Send) in
      let few = length_lessened (ls Send) k in
      let due-so = once_due c Send h in
      record {
        capped = h.capped;
        fits = by_way _ (h.fits Receive) (omega (arith, d, h.fits Send));
        ready_held = omega (arith, d, f, due-so, h.ready_held);
        lengths =
            by_way _ (record { none = x.none; some = x.some; all = x.all; few = x.few })
            (record {
              none = λ q. ap (λ (l : List ℕ). lessened l k) (y.none q);
              some = some_lessened (ls Send) k y.some;
              all = λ e. omega (arith, f, due-so, total_lessened (ls Send) k (once_first c Send k f e), y.all e);
              few = omega (arith, d, f, due-so, few, y.few, h.ready_held);
            });
      }

  pub readied_sound : SoundChan (readied c)
  unfolding readied whole marked with_queue counting queue due places_used unfinished
  readied_sound =
      let x = h.lengths Receive in
      let y = h.lengths Send in
      let k = length (held c Send) - c.ready in
      let more = length_another (ls Send) k in
      let sum = total_another (ls Send) k in
      branch (λ (d : Chan). SoundChan (marked d (establish c.link) (length (held c Send)))) (is_stream c.carries) _ _
      (λ e.
      record {
        capped = h.capped;
        fits = by_way _ (h.fits Receive) (h.fits Send);
        ready_held = omega arith;
        lengths =
            by_way _ (record { none = x.none; some = x.some; all = x.all; few = x.few })
            (record { none = y.none; some = y.some; all = λ q. absurd (true≢false (sym e ∙ q)); few = omega (arith, y.few) });
      })
      (λ e.
      record {
        capped = h.capped;
        fits = by_way _ (h.fits Receive) (h.fits Send);
        ready_held = omega arith;
        lengths =
            by_way _ (record { none = x.none; some = x.some; all = x.all; few = x.few })
            (record {
              none = λ q. absurd (true≢false (sym q ∙ e));
              some = some_another (ls Send) k y.some;
              all = λ _. omega (arith, sum, y.all e, h.ready_held);
              few = omega (arith, more, y.few);
            });
      })

  pub dropped_sound : SoundChan (dropped c)
  unfolding dropped marked queue due places_used unfinished
  dropped_sound =
      let x = h.lengths Receive in
      let y = h.lengths Send in
      record {
        capped = h.capped;
        fits = by_way _ (h.fits Receive) (h.fits Send);
        ready_held = h.ready_held;
        lengths =
            by_way _ (record { none = x.none; some = x.some; all = x.all; few = x.few })
            (record { none = y.none; some = y.some; all = y.all; few = y.few });
      }

-- a whole datagram more leaves the grant
pub whole_grant : (c : Chan) (w : Way) (k : ℕ) → (whole c w k).grant ≡ c.grant
unfolding whole with_queue
whole_grant c w k = branch (λ (d : Chan). d.grant ≡ c.grant) (is_stream c.carries) _ _ (λ _. refl) (λ _. by_way (λ (v : Way). (with_queue c v (counting (queue c v) k)).grant ≡ c.grant) refl refl w)

-- a channel that stands open has a place
pub open_place : (cs : List Chan) (k : ℕ) → is_open (get_or cs k closed) ≡ true → k < length cs
unfolding is_open closed
open_place [] k e = absurd (false≢true e)
open_place (c ∷ cs) zero e = omega arith
open_place (c ∷ cs) (suc k) e = let ih = open_place cs k e in omega arith

-- one channel changes, and the cells it gains are free
pub with_sound :
    (a : State) (n : ChannelNumber) (c : Chan) → Sound a → n.0 - 1 < length a.chans → SoundChan c →
    2 * cells c.grant ≤ 2 * cells (chan a n).grant + unpromised a → Sound (with_chan a n c)
unfolding with_chan chan promised unpromised
with_sound a n c h at hc more =
    let sum = promised_set a.chans (n.0 - 1) c at in
    record {
      thirteen = h.thirteen;
      seven = length-set a.chans (n.0 - 1) c ∙ h.seven;
      each = each_set SoundChan a.chans (n.0 - 1) c hc h.each;
      within = omega (arith, h.within);
      eight = h.eight;
      timed = h.timed;
    }

-- the channel of any number is sound
pub chan_sound : (a : State) (n : ChannelNumber) → Sound a → SoundChan (chan a n)
unfolding chan
chan_sound a n h = each_get SoundChan a.chans (n.0 - 1) closed closed_sound h.each

-- an open channel changes and keeps its grant
pub same_sound :
    (a : State) (n : ChannelNumber) (c : Chan) → Sound a → is_open (chan a n) ≡ true → SoundChan c → c.grant ≡ (chan a n).grant →
    Sound (with_chan a n c)
unfolding chan
same_sound a n c h e hc g =
    with_sound a n c h (open_place a.chans (n.0 - 1) e) hc (let k = ap cells g in omega arith)

-- at most the first n stand open before an unused one, and N is at most 7
pub open_before_le : (n : ℕ) (cs : List Chan) → open_before n cs ≤ n
unfolding open_before
open_before_le zero cs = omega arith
open_before_le (suc n) [] = omega arith
open_before_le (suc n) (c ∷ cs) =
    let ih = open_before_le n cs in branch (λ (k : ℕ). k ≤ suc n) _ _ _ (λ _. omega arith) (λ _. omega arith)

channels_le : (p : List ℕ) → channels p ≤ 7
unfolding channels
channels_le p = omega arith

-- the number that an OPEN CHANNEL opens is one of the seven
pub opened_place :
    (a : State) (k : ℕ) → Sound a → k ≡ open_before (channels a.profile) a.chans + 1 →
    (open_before (channels a.profile) a.chans ≡ channels a.profile → ⊥) → (1 ≤ k) × (k ≤ 7)
opened_place a k h e u =
    let x = open_before_le (channels a.profile) a.chans in
    let y = channels_le a.profile in
    omega arith

-- what holds of each element holds of what is made of each
each_map : {A B : Type 0} (P : A → Type 0) (Q : B → Type 0) (f : A → B) → ((x : A) → P x → Q (f x)) → (s : List A) → Each P s → Each Q (map f s)
each_map P Q f g [] h = tt
each_map P Q f g (x ∷ s) h = (g x h.0, each_map P Q f g s h.1)

-- other timers, as many and sound, leave the state sound
pub timers_sound : (a : State) (ts : List Timer) → Sound a → length ts ≡ timer_count → Each SoundTimer ts → Sound (with_timers a ts)
unfolding promised
timers_sound a ts h l e = record { thirteen = h.thirteen; seven = h.seven; each = h.each; within = h.within; eight = l; timed = e }

pub with_timer_sound : (a : State) (n : ℕ) (t : Timer) → Sound a → SoundTimer t → Sound (with_timer a n t)
unfolding with_timer
with_timer_sound a n t h s = timers_sound a _ h (length-set a.timers (n - 1) t ∙ h.eight) (each_set SoundTimer a.timers (n - 1) t s h.timed)

-- a fresh session is sound
pub start_sound : (p : List ℕ) → Sound (start p)
unfolding start kept closed promised promised_to cells
start_sound p =
    record {
      thirteen = simp (length-take, length-append) (omega arith);
      seven = refl;
      each = each_replicate SoundChan 7 closed closed_sound;
      within = omega arith;
      eight = refl;
      timed = each_replicate SoundTimer timer_count idle tt;
    }

abbrev After : Reply → Type 0
After r = Sound r.state

pub fresh_cells : (a : State) (n : ChannelNumber) (g : ℕ) (l : Link) (k : Carries) → 2 * cells g ≤ unpromised a → 2 * cells (fresh g l k).grant ≤ 2 * cells (chan a n).grant + unpromised a
unfolding fresh
fresh_cells a n g l k h = omega arith

pub closed_cells : (a : State) (n : ChannelNumber) → 2 * cells closed.grant ≤ 2 * cells (chan a n).grant + unpromised a
unfolding closed cells
closed_cells a n = omega arith

-- every command leaves a sound state
own_sound : (a : State) (c : Command) (b : Body) (i : Bool) → Sound a → Sound (own a c b i).state
unfolding own listed promised chan due removed with_queue without marked readied appended
own_sound a c (bare t) i h = h
own_sound a c (event_list es) i h =
    listing_cases After a es i h (λ _. record { thirteen = h.thirteen; seven = h.seven; each = h.each; within = h.within; eight = h.eight; timed = h.timed })
own_sound a c (open_channel b size t) i h =
    opening_cases After a (λ _ _. h) c.qualifier b size (protocol_of t) i h
    (λ n l g eₙ eₗ e o.
    let place = opened_place a n.0 h eₙ o.unused in
    let law = subst (Granted size (unpromised a)) (sym e) (grant_law size (unpromised a)) in
    let k = carried_by (protocol_of t) in
    with_sound a n (fresh g l k) h (omega (arith, h.seven)) (fresh_sound g l k law.capped) (fresh_cells a n g l k law.fits))
own_sound a c close_channel i h =
    closing_cases After a (λ _ _. h) (channel_of c.destination) i
    (λ e. with_sound a (channel_of c.destination) closed h (open_place a.chans _ e) closed_sound (closed_cells a (channel_of c.destination)))
own_sound a c (receive_data r) i h =
    let n = channel_of c.destination in
    receiving_cases After a (λ _ _. h) n r i (λ k m e. same_sound a n (removed (chan a n) Receive k) h e (removed_sound (chan a n) (chan_sound a n h) Receive k (omega arith)) refl)
own_sound a c (send_data s) i h =
    let n = channel_of c.destination in
    sending_cases After a (λ _ _. h) c.qualifier n s i
    (λ y e o _ f g.
    let x = appended (chan a n) Send s in
    let fit = sent_sound (chan a n) (chan_sound a n h) s f g in
    subst (λ (z : Chan). Sound (with_chan a n z)) (sym e)
    (branch (λ (z : Chan). Sound (with_chan a n z)) (bit1 c.qualifier) _ _
    (λ _. same_sound a n (readied x) h o (readied_sound x fit) (whole_grant x Send (unfinished x)))
    (λ _. same_sound a n x h o fit refl)))
own_sound a c (start_timer n v) i h = starting_timer_cases After a n v i h (λ _ _ e. with_timer_sound a n (running (time_in v) (time_in v)) h (e, e))
own_sound a c (manage_timer n) i h =
    managing_timer_cases After a c.qualifier n i h (λ _. h)
    (λ _ _ _ _ _. branch Sound (eqb (action_of c.qualifier) 1) _ _ (λ _. with_timer_sound a n idle h tt) (λ _. h))

meant_sound : (a : State) (r : Reading) → Sound a → Sound (meant_by a r).state
unfolding meant_by
meant_sound a (wrong d e) h = h
meant_sound a (asked c i) h = own_sound a c c.body i h

abbrev Left : Answer → Type 0
Left r = Sound r.state

-- every call leaves a sound state
pub step_sound : (a : State) (c : Call) → Sound a → Sound (step a c).state
unfolding step passing due arrived appended removed with_queue marked dropped
step_sound a (starting p) h = start_sound p
step_sound a (commanding terms s) h =
    command_cases Left a (λ _. h) terms s (λ _ _. meant_sound a (reading a.profile s) h)
step_sound a (radio buffer n (arrives s)) h =
    arrival_cases Left a (λ _. h) buffer n s
    (λ _ l f g.
    same_sound a n (arrived (chan a n) s) h l.stands (arrived_sound (chan a n) (chan_sound a n h) s f g) (whole_grant (appended (chan a n) Receive s) Receive (length s)))
step_sound a (radio buffer n takes) h =
    taking_cases Left a (λ _. h) buffer n
    (λ l _.
    same_sound a n (removed (chan a n) Send (min buffer (at_once (chan a n) Send))) h l.stands
    (removed_sound (chan a n) (chan_sound a n h) Send (min buffer (at_once (chan a n) Send)) (omega arith)) refl)
step_sound a (radio buffer n drops) h =
    dropping_cases Left a (λ _. h) buffer n
    (λ _ l. same_sound a n (dropped (chan a n)) h l.stands (dropped_sound (chan a n) (chan_sound a n h)) refl)
step_sound a (timing second) h = timers_sound a (map ticked a.timers) h (length-map a.timers ticked ∙ h.eight) (each_map SoundTimer SoundTimer ticked ticked_sound a.timers h.timed)
step_sound a (timing (envelope buffer)) h = enveloping_cases Left a (λ _. h) buffer (λ _ n _ _. with_timer_sound a n idle h tt)

after_sound : (a : State) (cs : List Call) → Sound a → Sound (after a cs)
unfolding after
after_sound a [] h = h
after_sound a (c ∷ cs) h = after_sound (step a c).state cs (step_sound a c h)

-- the state stays sound, from the start through any list of calls
pub reached_sound : (p : List ℕ) (cs : List Call) → Sound (after (start p) cs)
reached_sound p cs = after_sound (start p) cs (start_sound p)
