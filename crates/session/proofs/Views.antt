-- The picture of a sound state shows that state, and a picture of a sound state is good.
-- Assumes nothing.
use Prim.Native.Nat.{ℕ, zero, suc, ◌-◌, ◌*◌, ◌≤◌}
use mathlib.Core.Path.{◌≡◌, refl, sym, ap, subst, ◌∙◌}
use mathlib.Core.List.{List, [], ◌∷◌, ◌++◌, append_assoc}
use native.Mathlib.Omega.{arith}
use lib.ListN.{length, take, drop, replicate}
use lib.Seq.{take_at, drop_at}
use Rattle.rules.specs.declared.Carries.{Carries}
use Rattle.rules.specs.declared.Carries.TheVariants.{Stream, Datagrams}
use Rattle.rules.specs.declared.Link.{Link}
use Rattle.rules.specs.declared.Link.TheVariants.{NotYet, Established, Dropped}
use Rattle.rules.specs.declared.Way.{Way}
use Rattle.rules.specs.declared.Way.TheVariants.{Receive, Send}
use Rattle.rules.specs.Datagrams.{place_count}
use Rattle.rules.specs.State.{State, Chan, queue, held, places_used, start}
use Rattle.rules.specs.Pool.{pool_size}
use Rattle.rules.specs.Sound.{Each, SoundChan, Sound, SoundTimer}
use Rattle.rules.proofs.Soundness.{start_sound}
use Rattle.octets.specs.Parts.{pad}
use Rattle.session.specs.Book.{entry_size, lengths_from, places}
use Rattle.session.specs.Picture.{space, region, regions, pool_of, link_number, link_of, carries_number, carries_of, entry, chan_numbers, entries_of, ledger_of, picture, chan_from, chans_from, shown, view, Shows, GoodIn, Good, blocks, timer_of, timers_from, timer_numbers, timers_of}
use Rattle.session.proofs.Places.{places_size, places_read}
use Rattle.session.proofs.Ledgers.{numbers_size, entries_behind, profile_before, available_read, status_read, timers_behind}
use Rattle.session.proofs.Regions.{length_way, length_region}
use Rattle.rules.specs.Timers.{idle, is_time, left_of, timer_count, started_of, Timer, is_zero, running, of_day, waiting}
use Rattle.rules.specs.declared.Time.{Time}
use mathlib.Core.Bool.{true, false}
use Rattle.rules.proofs.Laws.{stop, both_right, skip}
use borrow.Author.Tests.{not-true}

-- a link is read back from its number, and the number from its link
pub link_back : (k : Link) → link_of (link_number k) ≡ k
link_back NotYet = refl
link_back Established = refl
link_back Dropped = refl

pub number_back : (n : ℕ) → n ≤ 2 → link_number (link_of n) ≡ n
number_back zero h = refl
number_back (suc zero) h = refl
number_back (suc (suc n)) h = omega arith

pub carries_back : (k : Carries) → carries_of (carries_number k) ≡ k
carries_back Stream = refl
carries_back Datagrams = refl

-- the lengths of a way have a place each
pub few_lengths : (c : Chan) → SoundChan c → (w : Way) → length (queue c w).lengths ≤ place_count
unfolding places_used queue
few_lengths c h Receive = (h.lengths Receive).few
few_lengths c h Send = omega (arith, (h.lengths Send).few)

-- what is held is read back from the front of its space
take_pad : (n : ℕ) (l w : List ℕ) → take (length l) (pad n l ++ w) ≡ l
unfolding pad
take_pad n l w =
    ap (λ (p : List ℕ). take (length l) p) (append_assoc l (replicate (n - length l) 0) w) ∙ take_at l (replicate (n - length l) 0 ++ w) (length l) refl

module _ (c : Chan) (h : SoundChan c) (w : List ℕ) where
  abbrev sp : ℕ
  sp = space c.grant

  ways_apart : region c ++ w ≡ pad sp (held c Receive) ++ (pad sp (held c Send) ++ w)
  unfolding region
  ways_apart = append_assoc (pad sp (held c Receive)) (pad sp (held c Send)) w

  module _ (z : List ℕ) where
    lengths_apart : (places c.receive.lengths ++ places c.send.lengths) ++ z ≡ places c.receive.lengths ++ (places c.send.lengths ++ z)
    lengths_apart = append_assoc (places c.receive.lengths) (places c.send.lengths) z

    received_back : lengths_from place_count ((places c.receive.lengths ++ places c.send.lengths) ++ z) ≡ c.receive.lengths
    unfolding queue
    received_back =
        ap (lengths_from place_count) lengths_apart ∙ places_read c.receive.lengths (places c.send.lengths ++ z) (h.lengths Receive).some (few_lengths c h Receive)

    sent_back : lengths_from place_count (drop place_count ((places c.receive.lengths ++ places c.send.lengths) ++ z)) ≡ c.send.lengths
    unfolding queue
    sent_back =
        ap (λ (l : List ℕ). lengths_from place_count (drop place_count l)) lengths_apart
        ∙ ap (lengths_from place_count) (drop_at (places c.receive.lengths) (places c.send.lengths ++ z) place_count (places_size c.receive.lengths))
        ∙ places_read c.send.lengths z (h.lengths Send).some (few_lengths c h Send)

  chan_back : (z : List ℕ) → chan_from (chan_numbers c ++ z) (region c ++ w) ≡ c
  unfolding chan_from chan_numbers entry queue
  chan_back z =
      let r = ap (λ (p : List ℕ). take (length (held c Receive)) p) ways_apart ∙ take_pad sp (held c Receive) (pad sp (held c Send) ++ w) in
      let s = ap (λ (p : List ℕ). take (length (held c Send)) (drop sp p)) ways_apart
      ∙ ap (λ (p : List ℕ). take (length (held c Send)) p) (drop_at (pad sp (held c Receive)) (pad sp (held c Send) ++ w) sp (length_way c h.fits Receive))
      ∙ take_pad sp (held c Send) w in
      λ i.
      record {
        grant = c.grant;
        link = link_back c.link i;
        carries = carries_back c.carries i;
        receive = record { bytes = r i; lengths = received_back z i };
        send = record { bytes = s i; lengths = sent_back z i };
        ready = c.ready;
      }

  rest_back : drop (2 * sp) (region c ++ w) ≡ w
  rest_back = drop_at (region c) w (2 * sp) (length_region c h.fits)

chans_back : (k : ℕ) (cs : List Chan) (w : List ℕ) → length cs ≡ k → Each SoundChan cs → chans_from k (entries_of cs) (regions cs ++ w) ≡ cs
unfolding chans_from blocks regions chan_numbers entry
chans_back zero [] w e h = refl
chans_back zero (c ∷ cs) w e h = absurd (let q : suc (length cs) ≡ 0 = e in omega arith)
chans_back (suc k) [] w e h = absurd (let q : 0 ≡ suc k = e in omega arith)
chans_back (suc k) (c ∷ cs) w e h =
    ap (λ (p : List ℕ). chans_from (suc k) (entries_of (c ∷ cs)) p) (append_assoc (region c) (regions cs) w)
    ∙ (λ i. chan_back c h.0 (regions cs ++ w) (entries_of cs) i ∷ chans_from k (drop_at (chan_numbers c) (entries_of cs) entry_size (numbers_size c) i) (rest_back c h.0 (regions cs ++ w) i))
    ∙ ap (λ (r : List Chan). c ∷ r) (chans_back k cs w (let q : suc (length cs) ≡ suc k = e in omega arith) h.1)

-- a timer is read back from its numbers
time_zero : (t : Time) → is_time t ≡ true → is_zero t ≡ false
unfolding is_time
time_zero t e = not-true (is_zero t) (both_right (of_day t) _ e)

timer_back : (t : Timer) → SoundTimer t → timer_of (left_of t) (started_of t) ≡ t
unfolding timer_of left_of started_of is_zero
timer_back idle h = stop _ _ _ refl
timer_back (running left from) h = skip _ _ _ (time_zero from h.1) ∙ skip _ _ _ (time_zero left h.0)
timer_back (waiting from) h = skip _ _ _ (time_zero from h) ∙ stop _ _ _ refl

timers_back : (k : ℕ) (ts : List Timer) (z : List ℕ) → length ts ≡ k → Each SoundTimer ts → timers_from k (timers_of ts ++ z) ≡ ts
unfolding timers_from blocks timer_numbers
timers_back zero [] z e h = refl
timers_back zero (t ∷ ts) z e h = absurd (let q : suc (length ts) ≡ 0 = e in omega arith)
timers_back (suc k) [] z e h = absurd (let q : 0 ≡ suc k = e in omega arith)
timers_back (suc k) (t ∷ ts) z e h =
    λ i. timer_back t h.0 i ∷ timers_back k ts z (let q : suc (length ts) ≡ suc k = e in omega arith) h.1 i

-- the picture of a sound state shows that state
pub shown_back : (a : State) → Sound a → shown (ledger_of a) (pool_of a) ≡ a
unfolding shown pool_of pad
shown_back a h =
    λ i.
    record {
      profile = profile_before a h.thirteen h.eight i;
      events = record { available = available_read a h.thirteen h.eight i; status = status_read a h.thirteen h.eight i };
      chans =
          (ap (λ (t : List ℕ). chans_from 7 t (regions a.chans ++ replicate (pool_size - length (regions a.chans)) 0)) (entries_behind a h.thirteen h.eight)
          ∙ chans_back 7 a.chans (replicate (pool_size - length (regions a.chans)) 0) h.seven h.each) i;
      timers =
          (ap (timers_from timer_count) (timers_behind a h.thirteen h.eight) ∙ timers_back timer_count a.timers (entries_of a.chans) h.eight h.timed) i;
    }

pub view_picture : (a : State) → Sound a → view (picture a) ≡ a
unfolding picture
view_picture a h = shown_back a h

-- a picture of a sound state is good, and shows no other state
pub shows_back : (a : State) (t p : List ℕ) → Sound a → Shows a t p → shown t p ≡ a
shows_back a t p h s = (λ i. shown (s.ledger i) (s.pool i)) ∙ shown_back a h

pub shows_good : (a : State) (t p : List ℕ) → Sound a → Shows a t p → GoodIn t p
shows_good a t p h s =
    let e = sym (shows_back a t p h s) in
    record { sound = subst Sound e h; shows = subst (λ (b : State). Shows b t p) e s }

-- the start is good
pub start_good : (p : List ℕ) → Good (picture (start p))
unfolding picture
start_good p = shows_good (start p) _ _ (start_sound p) (record { ledger = refl; pool = refl })
