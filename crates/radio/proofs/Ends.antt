-- How the calls of the radio end on a channel that may be used; x is its entry.
-- Assumes nothing.
use Prim.Native.Nat.{ℕ, zero, suc, ◌+◌, ◌-◌, ◌≤◌, ◌<◌, min}
use mathlib.Core.Path.{◌≡◌, refl, sym, ap, subst, ◌∙◌}
use mathlib.Core.Bool.{Bool, true, false, not, ◌&&◌, and-false}
use mathlib.Core.List.{List, [], ◌∷◌, ◌++◌, append-nil}
use native.Mathlib.Omega.{arith}
use lib.ListN.{length, take, get_or, length-append, length-take}
use lib.Dec.{ltb, leb, eqb}
use lib.Seq.{set-get_or}
use borrow.Author.Tests.{lt-ltb, le-ltb, eq-eqb, ne_eqb, eqb-true, eqb-false}
use Rattle.rules.specs.declared.ChannelNumber.{ChannelNumber}
use Rattle.rules.specs.declared.Link.TheVariants.{Dropped}
use Rattle.rules.specs.declared.Refusal.TheVariants.{Overfull, NoPlace, Undersized}
use Rattle.rules.specs.declared.Way.TheVariants.{Receive, Send}
use Rattle.rules.specs.Checks.{◌⇒◌else◌, is_empty}
use Rattle.rules.specs.Datagrams.{place_count, another}
use Rattle.rules.specs.State.{State, Chan, closed, is_stream, chan, with_chan, queue, with_queue, held, room, at_once, joined, counting, marked, appended, whole, arrived, removed, dropped, places_used, crowded}
use Rattle.rules.specs.Own.{capped}
use Rattle.rules.specs.Frames.{length_bytes, object_bytes, written}
use Rattle.rules.specs.Written.{unflagged, status_bytes, status_object, event_bytes}
use Rattle.rules.specs.Command.{answered, refusal}
use Rattle.rules.specs.Radio.{arrival_event, arrival, taking, drop_event, dropping}
use Rattle.rules.specs.Run.{Call, arriving, taking_out, dropping_link, step}
use Rattle.rules.specs.Sound.{Sound}
use Rattle.rules.proofs.Laws.{branch, stop, skip, empty_length}
use Rattle.rules.proofs.Soundness.{step_sound}
use Rattle.octets.specs.Parts.{part, pasted, overlaid}
use Rattle.octets.proofs.Pastes.{front_over}
use Rattle.session.specs.declared.Channel.{Channel}
use Rattle.std.specs.Prelude.{Ok, Err}
use Rattle.session.specs.Book.{available_at, status_at, entry_in, with_entry, listed}
use Rattle.session.specs.Picture.{entry, link_of, carries_of, start_in, shown}
use Rattle.session.specs.Calls.{Answers}
use Rattle.session.specs.Changed.{chan_in, Changed, Marks}
use Rattle.session.proofs.Views.{link_back, carries_back}
use Rattle.session.proofs.Facts.{bounds, removing, mark_law, held_read}
use Rattle.session.proofs.Answers.{refuse_answers, wrote_answers, quiet_answers}
use Rattle.radio.specs.Permits.{Usable, arrival_told, drop_told}
use Rattle.radio.proofs.Permits.{passing}

-- the events, as they are put into a buffer
pub arrival_event_lem :
    (out : List ℕ) (n : ChannelNumber) (k x : ℕ) → x ≡ capped k →
    pasted out 0
    (0xD6 ∷ 0x0E ∷ 0x19 ∷ 0x01 ∷ 0x09 ∷ 0x82 ∷ 0x02 ∷ 0x82 ∷ 0x81 ∷ 0x38 ∷ 0x02 ∷ (n.0 + 0x80) ∷ 0x00 ∷ 0x37 ∷ 0x01 ∷ x ∷ []) ≡
    overlaid (arrival_told n k) out
unfolding arrival_told event_bytes written object_bytes status_object status_bytes length_bytes ◌⇒◌else◌
arrival_event_lem out n k x e = rw e (front_over out _)

pub drop_event_lem :
    (out : List ℕ) (n : ChannelNumber) →
    pasted out 0 (0xD6 ∷ 0x0B ∷ 0x19 ∷ 0x01 ∷ 0x0A ∷ 0x82 ∷ 0x02 ∷ 0x82 ∷ 0x81 ∷ 0x38 ∷ 0x02 ∷ n.0 ∷ 0x05 ∷ []) ≡ overlaid (drop_told n) out
unfolding drop_told event_bytes written object_bytes status_object status_bytes length_bytes ◌⇒◌else◌
drop_event_lem out n = front_over out _

-- an event is listed where its number is not 0
listed_not : (k : ℕ) → k ≡ 0 → listed k ≡ false
listed_not zero h = refl
listed_not (suc k) h = absurd (omega arith)

listed_is : (k : ℕ) → (k ≡ 0 → ⊥) → listed k ≡ true
listed_is zero h = absurd (h refl)
listed_is (suc k) h = refl

-- event 09 is told where nothing was held, bytes came and it is listed
module _ (a : State) (n : ChannelNumber) where
  silent_empty : (s : List ℕ) → length s ≡ 0 → arrival_event a n s ≡ []
  unfolding arrival_event is_empty
  silent_empty [] e = skip _ _ _ (ap (λ (b : Bool). b && a.events.available) (and-false (is_empty (held (chan a n) Receive))))
  silent_empty (x ∷ s) e = absurd (let z : suc (length s) ≡ 0 = e in omega arith)

  silent_unlisted : (s : List ℕ) → a.events.available ≡ false → arrival_event a n s ≡ []
  unfolding arrival_event
  silent_unlisted s e =
      let came = is_empty (held (chan a n) Receive) && not (is_empty s) in
      skip _ _ _ (ap (λ (b : Bool). came && b) e ∙ and-false came)

  silent_held : (s : List ℕ) → is_empty (held (chan a n) Receive) ≡ false → arrival_event a n s ≡ []
  unfolding arrival_event
  silent_held s e = skip _ _ _ (ap (λ (b : Bool). b && not (is_empty s) && a.events.available) e)

  heard :
      (s : List ℕ) → is_empty (held (chan a n) Receive) ≡ true → (length s ≡ 0 → ⊥) → a.events.available ≡ true →
      arrival_event a n s ≡
      (let c = appended (chan a n) Receive s in event_bytes 0x09 (status_object n c.link ∷ unflagged 0x37 (capped (length (held c Receive)) ∷ []) ∷ []))
  unfolding arrival_event is_empty
  heard [] none h e = absurd (h refl)
  heard (x ∷ s) none h e = stop _ _ _ (λ i. none i && true && e i)

-- no bytes make no datagram, and change nothing
arrived_nothing : (c : Chan) → arrived c [] ≡ c
unfolding arrived whole appended with_queue joined counting another queue
arrived_nothing c = branch (λ (d : Chan). d ≡ c) (is_stream c.carries) _ _ (λ _. same) (λ _. same)
  where
    same : with_queue c Receive (joined c.receive []) ≡ c
    same = λ i. with_queue c Receive (record { bytes = append-nil c.receive.bytes i; lengths = c.receive.lengths })

nothing_arrives : (a : State) (n : ChannelNumber) (s : List ℕ) → length s ≡ 0 → with_chan a n (arrived (chan a n) s) ≡ a
unfolding with_chan chan
nothing_arrives a n [] e =
    ap (λ (c : Chan). with_chan a n c) (arrived_nothing (chan a n))
    ∙ (λ i. record { profile = a.profile; events = a.events; chans = set-get_or a.chans (n.0 - 1) closed i; timers = a.timers })
nothing_arrives a n (x ∷ s) e = absurd (let z : suc (length s) ≡ 0 = e in omega arith)

-- R11 of the places: bytes need one, and no bytes need none
crowded_empty : (c : Chan) (s : List ℕ) → length s ≡ 0 → crowded c Receive s ≡ false
unfolding crowded is_empty
crowded_empty c [] e = refl
crowded_empty c (x ∷ s) e = absurd (let z : suc (length s) ≡ 0 = e in omega arith)

crowded_some : (c : Chan) (s : List ℕ) → (length s ≡ 0 → ⊥) → crowded c Receive s ≡ leb place_count (length (queue c Receive).lengths)
unfolding crowded is_empty places_used queue
crowded_some c [] e = absurd (e refl)
crowded_some c (x ∷ s) e = refl

module _ {t p : List ℕ} {n : ChannelNumber} {x : Channel} (u : Usable t p n x) where
  abbrev a : State
  a = shown t p

  abbrev c : Chan
  c = chan_in t p n

  sound : (k : Call) → Sound (step a k).state
  sound k = step_sound a k u.numbered.good.sound

  is : x ≡ entry c
  is = u.entry ∙ (bounds t p n u.numbered).is

  ready_is : x.ready ≡ c.ready
  unfolding entry
  ready_is = ap (λ (y : Channel). y.ready) is

  -- the entry, with its own link or with another
  marks : (l : ℕ) → l ≤ 2 → Marks (record { grant = x.grant; link = l; rx = x.rx; tx = x.tx; ready = x.ready; carries = x.carries }) (entry_in t n)
  marks l h =
      let e = u.entry in
      record { grant = ap (λ (y : Channel). y.grant) e; rx = ap (λ (y : Channel). y.rx) e; tx = ap (λ (y : Channel). y.tx) e; carries = ap (λ (y : Channel). y.carries) e; link = h }

  pub marks_own : Marks x (entry_in t n)
  marks_own = marks x.link (rw u.entry (bounds t p n u.numbered).link_known)

  marked_own : marked c (link_of x.link) x.ready ≡ c
  unfolding marked entry
  marked_own = (λ i. marked c (link_of (is i).link) (is i).ready) ∙ (λ i. marked c (link_back c.link i) c.ready)

  -- the arrival: R6 by the entry
  pub accept_fits : x.rx ≤ x.grant
  accept_fits = rw u.entry (bounds t p n u.numbered).rx_fits

  room_is : x.grant - x.rx ≡ room c Receive
  unfolding room entry
  room_is = ap (λ (y : Channel). y.grant - y.rx) is

  pub accept_room : {k : ℕ} → k ≤ x.grant - x.rx → k ≤ room c Receive
  accept_room h = omega (arith, room_is)

  module _ (s out : List ℕ) (b : 16 ≤ length out) where
    by_room :
        arrival a (length out) n s ≡
        (ltb (room c Receive) (length s) ⇒ refusal a Overfull else
        crowded c Receive s ⇒ refusal a NoPlace else
        answered (with_chan a n (arrived c s)) (arrival_event a n s))
    unfolding arrival
    by_room = skip _ _ _ (le-ltb (length out) 16 b) ∙ passing t p n u _

    pub accept_overfull : x.grant - x.rx < length s → Answers (arrival a (length out) n s) t p (Err Overfull) out out
    accept_overfull h =
        refuse_answers _ t p out _ u.numbered.good (by_room ∙ stop _ _ _ (lt-ltb (room c Receive) (length s) (omega (arith, room_is))))

    module _ (fit : length s ≤ x.grant - x.rx) where
      by_place : arrival a (length out) n s ≡ (crowded c Receive s ⇒ refusal a NoPlace else answered (with_chan a n (arrived c s)) (arrival_event a n s))
      by_place = by_room ∙ skip _ _ _ (le-ltb (room c Receive) (length s) (accept_room fit))

      -- no bytes leave the session as it was
      pub accept_empty : true ≡ eqb (length s) 0 → Answers (arrival a (length out) n s) t p (Ok 0) out out
      unfolding step
      accept_empty q =
          let e = eqb-true (length s) 0 (sym q) in
          quiet_answers _ a _ t p out (sound (arriving (length out) n s))
          (by_place ∙ skip _ _ _ (crowded_empty c s e) ∙ ap (λ (d : State). answered d (arrival_event a n s)) (nothing_arrives a n s e))
          (silent_empty a n s e) u.numbered.good.shows

      module _ (come : false ≡ eqb (length s) 0) where
        some : length s ≡ 0 → ⊥
        some = eqb-false (length s) 0 (sym come)

        pub accept_crowded : true ≡ leb place_count (length (queue c Receive).lengths) → Answers (arrival a (length out) n s) t p (Err NoPlace) out out
        accept_crowded f = refuse_answers _ t p out _ u.numbered.good (by_place ∙ stop _ _ _ (crowded_some c s some ∙ sym f))

        -- behind the append
        module _ (free : false ≡ leb place_count (length (queue c Receive).lengths)) (t' p' : List ℕ)
            (ch : Changed t p n (whole (appended (marked c (link_of x.link) x.ready) Receive s) Receive (length s)) t' p') where
          stored : arrival a (length out) n s ≡ answered (with_chan a n (arrived c s)) (arrival_event a n s)
          stored = by_place ∙ skip _ _ _ (crowded_some c s some ∙ sym free)

          shows : Changed t p n (arrived c s) t' p'
          unfolding arrived
          shows = subst (λ (d : Chan). Changed t p n (whole (appended d Receive s) Receive (length s)) t' p') marked_own ch

          pub accept_unlisted : get_or t available_at 0 ≡ 0 → Answers (arrival a (length out) n s) t' p' (Ok 0) out out
          unfolding shown step
          accept_unlisted e =
              quiet_answers _ _ _ t' p' out (sound (arriving (length out) n s)) stored (silent_unlisted a n s (listed_not (get_or t available_at 0) e)) shows

          none_held : is_empty (held c Receive) ≡ eqb x.rx 0
          unfolding entry
          none_held = sym (empty_length (held c Receive)) ∙ ap (λ (y : Channel). eqb y.rx 0) (sym is)

          pub accept_held : 0 < x.rx → Answers (arrival a (length out) n s) t' p' (Ok 0) out out
          unfolding step
          accept_held e =
              quiet_answers _ _ _ t' p' out (sound (arriving (length out) n s)) stored (silent_held a n s (none_held ∙ ne_eqb x.rx 0 (omega arith))) shows

          told : (get_or t available_at 0 ≡ 0 → ⊥) → x.rx ≤ 0 → arrival_event a n s ≡ arrival_told n (length s)
          unfolding arrival_told appended with_queue queue joined shown entry
          told e none =
              let empty : x.rx ≡ 0 = omega arith in
              let more = length-append (held c Receive) s ∙ ap (λ (y : Channel). y.rx + length s) (sym is) in
              let sum : length (held c Receive ++ s) ≡ length s = omega (arith, more, empty) in
              heard a n s (none_held ∙ eq-eqb x.rx 0 empty) some (listed_is (get_or t available_at 0) e)
              ∙ (λ i. event_bytes 0x09 (status_object n (u.link i) ∷ unflagged 0x37 (capped (sum i) ∷ []) ∷ []))

          pub accept_told :
              (after : List ℕ) (size : ℕ) → (get_or t available_at 0 ≡ 0 → ⊥) → x.rx ≤ 0 → after ≡ overlaid (arrival_told n (length s)) out → size ≡ 16 →
              Answers (arrival a (length out) n s) t' p' (Ok size) out after
          unfolding arrival_told event_bytes written object_bytes status_object status_bytes length_bytes ◌⇒◌else◌ step
          accept_told after size e none o k =
              subst (λ (j : ℕ). Answers (arrival a (length out) n s) t' p' (Ok j) out after) (sym k) (wrote_answers _ _ (arrival_told n (length s)) t' p' out after (sound (arriving (length out) n s))
              (stored ∙ ap (answered _) (told e none)) shows o)

  -- the bytes to send lie in the pool, from where they begin, and those that may be handed out at once are the first of them
  pub send_lies : (at most : ℕ) → at ≡ start_in t n x.grant Send → most ≡ at_once c Send → (at + x.tx ≤ length p) × (most ≤ x.tx)
  send_lies at most from once =
      let l = removing t p n u.numbered x Send at most u.entry from (omega arith) in
      (l.0, l.1)

  -- the take: R12 by the entry
  module _ (out : List ℕ) (most : ℕ) (once : most ≡ at_once c Send) (r : Bool) (short : r ≡ not (is_stream (carries_of x.carries)) && ltb (length out) most) where
    short_is : (not (is_stream c.carries) && ltb (length out) (at_once c Send)) ≡ r
    unfolding entry
    short_is =
        let kind = ap (λ (y : Channel). carries_of y.carries) is ∙ carries_back c.carries in
        (λ i. not (is_stream (sym kind i)) && ltb (length out) (sym once i)) ∙ sym short

    by_size :
        taking a (length out) n ≡
        (r ⇒ refusal a Undersized else answered (with_chan a n (removed c Send (min (length out) most))) (take (min (length out) most) (held c Send)))
    unfolding taking
    by_size =
        passing t p n u _
        ∙ (λ i. short_is i ⇒ refusal a Undersized else
        answered (with_chan a n (removed c Send (min (length out) (sym once i)))) (take (min (length out) (sym once i)) (held c Send)))

    pub hand_short : r ≡ true → Answers (taking a (length out) n) t p (Err Undersized) out out
    hand_short e = refuse_answers _ t p out _ u.numbered.good (by_size ∙ stop _ _ _ e)

    -- the bytes that are handed out lie in the pool, from where those to send begin, and are the first of them
    pub handed :
        r ≡ false → (at k : ℕ) → at ≡ start_in t n x.grant Send → k ≡ min (length out) most →
        (t' p' after : List ℕ) → Changed t p n (removed c Send k) t' p' → after ≡ pasted out 0 (part at (at + k) p) →
        Answers (taking a (length out) n) t' p' (Ok k) out after
    unfolding step entry
    handed e at k from count t' p' after ch o =
        let f : k ≤ length (held c Send) = let l = send_lies at most from once in omega (arith, ap (λ (y : Channel). y.tx) is) in
        let size : length (take k (held c Send)) ≡ k = simp length-take (omega arith) in
        let start = from ∙ ap (λ (y : Channel). start_in t n y.grant Send) u.entry in
        let read = ap (λ (j : ℕ). part j (j + k) p) start ∙ held_read t p n u.numbered Send k f in
        subst (λ (j : ℕ). Answers (taking a (length out) n) t' p' (Ok j) out after) size
        (wrote_answers _ _ (take k (held c Send)) t' p' out after (sound (taking_out (length out) n))
        (by_size ∙ skip _ _ _ e ∙ ap (λ (j : ℕ). answered (with_chan a n (removed c Send j)) (take j (held c Send))) (sym count))
        ch (o ∙ front_over out _ ∙ ap (λ (v : List ℕ). overlaid v out) read))

  -- the drop
  module _ (out : List ℕ) (b : 16 ≤ length out) (t' : List ℕ)
      (e : t' ≡ with_entry t n (record { grant = x.grant; link = 2; rx = x.rx; tx = x.tx; ready = x.ready; carries = x.carries })) where
    shows_drop : Changed t p n (dropped c) t' p
    unfolding dropped
    shows_drop =
        subst (λ (k : ℕ). Changed t p n (marked c Dropped k) t' p) ready_is (mark_law t p n u.numbered _ t' (marks 2 (omega arith)) e)

    dropping_is : dropping a (length out) n ≡ answered (with_chan a n (dropped c)) (drop_event a n)
    unfolding dropping
    dropping_is = skip _ _ _ (le-ltb (length out) 16 b) ∙ passing t p n u _

    pub drop_quiet : get_or t status_at 0 ≡ 0 → Answers (dropping a (length out) n) t' p (Ok 0) out out
    unfolding drop_event shown step
    drop_quiet h =
        quiet_answers _ _ _ t' p out (sound (dropping_link (length out) n)) dropping_is (skip _ _ _ (listed_not (get_or t status_at 0) h)) shows_drop

    told_drop : (get_or t status_at 0 ≡ 0 → ⊥) → drop_event a n ≡ drop_told n
    unfolding drop_event drop_told dropped marked shown
    told_drop h = stop _ _ _ (listed_is (get_or t status_at 0) h)

    pub drop_told_lem :
        (after : List ℕ) (size : ℕ) → (get_or t status_at 0 ≡ 0 → ⊥) → after ≡ overlaid (drop_told n) out → size ≡ 13 → Answers (dropping a (length out) n) t' p (Ok size) out after
    unfolding drop_told event_bytes written object_bytes status_object status_bytes length_bytes ◌⇒◌else◌ step
    drop_told_lem after size h o k =
        subst (λ (j : ℕ). Answers (dropping a (length out) n) t' p (Ok j) out after) (sym k) (wrote_answers _ _ (drop_told n) t' p out after (sound (dropping_link (length out) n)) (dropping_is ∙ ap (answered _) (told_drop h)) shows_drop o)
