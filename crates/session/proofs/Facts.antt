-- What is known of a good session at the number of a channel, and the law of each change, over plain variables.
-- Assumes nothing.
use Prim.Native.Nat.{ℕ, zero, suc, ◌+◌, ◌-◌, ◌*◌, ◌≤◌, ◌<◌, min}
use mathlib.Core.Path.{◌≡◌, refl, sym, ap, subst, ◌∙◌}
use mathlib.Core.Bool.{Bool, true, false}
use mathlib.Core.List.{List, [], ◌∷◌, ◌++◌, append_assoc}
use native.Mathlib.Omega.{arith}
use lib.ListN.{length, take, drop, get_or, set, replicate, length-append, length-drop}
use lib.Dec.{ltb, leb}
use lib.Seq.{take_all}
use Rattle.rules.specs.declared.Carries.{Carries}
use Rattle.rules.specs.declared.ChannelNumber.{ChannelNumber}
use Rattle.rules.specs.declared.Events.{Events}
use Rattle.rules.specs.declared.Link.{Link}
use Rattle.rules.specs.declared.Link.TheVariants.{NotYet, Established, Dropped}
use Rattle.rules.specs.declared.Way.{Way}
use Rattle.rules.specs.declared.Way.TheVariants.{Receive, Send}
use Rattle.rules.specs.Checks.{◌⇒◌else◌}
use Rattle.rules.specs.Datagrams.{place_count, another, lessened, total}
use Rattle.rules.specs.State.{State, Chan, closed, is_stream, chan, with_chan, queue, with_queue, held, room, due, at_once, joined, without, counting, marked, fresh, appended, whole, removed}
use Rattle.rules.specs.Pool.{cell_count, cell_size, pool_size, grant_cap, cells, promised_to, promised, unpromised}
use Rattle.rules.proofs.Grants.{promised_set}
use Rattle.rules.specs.Sound.{SoundChan, Sound}
use Rattle.rules.proofs.Laws.{by_way, stop, skip, each_take}
use Rattle.rules.proofs.Datagrams.{Some, first}
use Rattle.rules.proofs.Soundness.{once_due, chan_sound}
use Rattle.octets.specs.Parts.{part, pasted, cut_out, spread}
use Rattle.octets.proofs.Pastes.{paste_parts, length_pad}
use Rattle.session.specs.declared.Channel.{Channel}
use Rattle.session.specs.Book.{free_at, free_in, ledger_size, entry_at, numbers_of, entry_in, with_entry, lengths_at, lengths_from, lengths_in, places, with_length, less_length, with_list}
use Rattle.session.specs.Picture.{space, regions, pool_of, link_number, link_of, carries_number, carries_of, entry, chan_numbers, ledger_of, base_in, offset, start_in, shown, Shows, GoodIn}
use Rattle.session.specs.Changed.{Numbered, chan_in, Changed, held_in, due_in, more_in, less_in, Marks, with_events}
use Rattle.session.proofs.Places.{places_size, places_last}
use Rattle.session.proofs.Ways.{way_read, way_get, way_more, way_first, way_less, way_front, way_rest, way_parts, way_size, other_lengths}
use Rattle.session.proofs.Ledgers.{closed_numbers, ledger_size_lem, entry_read, free_read, base_read, list_written, before, behind, before_size, ledger_with, ledger_same, ledger_parts}
use Rattle.session.proofs.Regions.{length_regions, front, used, used_parts, used_fits, length_region, held_space, same_queue}
use Rattle.session.proofs.Views.{number_back, carries_back, few_lengths}
use Rattle.session.proofs.Changes.{appended_fits, appended_grant, appended_pool, counted_pool, removed_pool, removed_grant, counted_grant, held_part, closed_pool, opened_pool, marked_pool, due_held}

-- the counts of an entry are those of the channel, for either way
held_entry : (c : Chan) (w : Way) → held_in (entry c) w ≡ length (held c w)
unfolding entry
held_entry c Receive = refl
held_entry c Send = refl

due_entry : (c : Chan) (w : Way) → due_in (entry c) w ≡ due c w
unfolding due entry
due_entry c Receive = refl
due_entry c Send = refl

-- the entry of a channel to which bytes came, and of one from which they were removed
module _ (c : Chan) (l : Link) (k : ℕ) (s : List ℕ) where
  more_entry : (w : Way) → more_in (entry (marked c l k)) w (length s) ≡ entry (appended (marked c l k) w s)
  unfolding entry appended with_queue marked queue joined
  more_entry Receive = λ i. record { grant = c.grant; link = link_number l; rx = sym (length-append c.receive.bytes s) i; tx = length c.send.bytes; ready = k; carries = carries_number c.carries }
  more_entry Send = λ i. record { grant = c.grant; link = link_number l; rx = length c.receive.bytes; tx = sym (length-append c.send.bytes s) i; ready = k; carries = carries_number c.carries }

less_entry : (c : Chan) (w : Way) (k : ℕ) → less_in (entry c) w k ≡ entry (removed c w k)
unfolding entry removed with_queue marked queue without
less_entry c Receive k = λ i. record { grant = c.grant; link = link_number c.link; rx = sym (length-drop k c.receive.bytes) i; tx = length c.send.bytes; ready = c.ready; carries = carries_number c.carries }
less_entry c Send k = λ i. record { grant = c.grant; link = link_number c.link; rx = length c.receive.bytes; tx = sym (length-drop k c.send.bytes) i; ready = c.ready - k; carries = carries_number c.carries }

-- the lengths beside these changes
appended_lengths : (c : Chan) (l : Link) (k : ℕ) (s : List ℕ) (w v : Way) → (queue (appended (marked c l k) w s) v).lengths ≡ (queue c v).lengths
unfolding appended with_queue marked queue joined
appended_lengths c l k s Receive Receive = refl
appended_lengths c l k s Receive Send = refl
appended_lengths c l k s Send Receive = refl
appended_lengths c l k s Send Send = refl

appended_carries : (c : Chan) (l : Link) (k : ℕ) (s : List ℕ) (w : Way) → (appended (marked c l k) w s).carries ≡ c.carries
unfolding appended with_queue marked
appended_carries c l k s Receive = refl
appended_carries c l k s Send = refl

marked_lengths : (c : Chan) (l : Link) (k : ℕ) (v : Way) → (queue (marked c l k) v).lengths ≡ (queue c v).lengths
unfolding marked queue
marked_lengths c l k Receive = refl
marked_lengths c l k Send = refl

removed_lengths :
    (c : Chan) (w : Way) (k : ℕ) (v : Way) →
    (queue (with_queue (removed c w k) w (record { bytes = held (removed c w k) w; lengths = (queue c w).lengths })) v).lengths ≡ (queue c v).lengths
unfolding removed with_queue marked queue without
removed_lengths c Receive k Receive = refl
removed_lengths c Receive k Send = refl
removed_lengths c Send k Receive = refl
removed_lengths c Send k Send = refl

-- an entry has no lengths
entry_lengths : (d : Chan) (w : Way) (ms : List ℕ) → entry d ≡ entry (with_queue d w (record { bytes = held d w; lengths = ms }))
unfolding entry with_queue queue
entry_lengths d Receive ms = refl
entry_lengths d Send ms = refl

lessened_back :
    (c : Chan) (w : Way) (k : ℕ) →
    let d = with_queue (removed c w k) w (record { bytes = held (removed c w k) w; lengths = (queue c w).lengths }) in
    with_queue d w (record { bytes = held d w; lengths = lessened (queue d w).lengths k }) ≡ removed c w k
unfolding removed with_queue marked queue without
lessened_back c Receive k = refl
lessened_back c Send k = refl

none_lessened :
    (c : Chan) (w : Way) (k : ℕ) → (queue c w).lengths ≡ [] →
    with_queue (removed c w k) w (record { bytes = held (removed c w k) w; lengths = (queue c w).lengths }) ≡ removed c w k
unfolding removed with_queue marked queue without lessened
none_lessened c Receive k e =
    let same : c.receive.lengths ≡ lessened c.receive.lengths k = e ∙ sym (ap (λ (l : List ℕ). lessened l k) e) in
    λ i. with_queue c Receive (record { bytes = drop k c.receive.bytes; lengths = same i })
none_lessened c Send k e =
    let same : c.send.lengths ≡ lessened c.send.lengths k = e ∙ sym (ap (λ (l : List ℕ). lessened l k) e) in
    λ i. with_queue (marked c c.link (c.ready - k)) Send (record { bytes = drop k c.send.bytes; lengths = same i })

-- a channel that is not open has no datagram
total_none : (ls : List ℕ) → Some ls → total ls ≡ 0 → ls ≡ []
unfolding total
total_none [] h e = refl
total_none (y ∷ ls) h e = absurd (omega (arith, h.0))

unused_lengths : (c : Chan) → SoundChan c → c.grant ≡ 0 → (w : Way) → (queue c w).lengths ≡ []
unused_lengths c h o w = by (is_stream c.carries) refl
  where
    by : (b : Bool) → is_stream c.carries ≡ b → (queue c w).lengths ≡ []
    by true e = (h.lengths w).none e
    by false e = total_none (queue c w).lengths (h.lengths w).some (let f = h.fits w in let d = due_held c h w in omega (arith, (h.lengths w).all e))

-- the numbers of a good session
pub record Bounds (t p : List ℕ) (n : ChannelNumber) : Type 0 where
  pub table : length t ≡ ledger_size
  pub size : length p ≡ pool_size
  pub used_is : base_in t 7 ≡ cell_size * promised (shown t p)
  pub used_fits : base_in t 7 ≤ pool_size
  pub free_is : free_in t ≡ unpromised (shown t p)
  pub free_few : free_in t ≤ cell_count
  pub used_end : pool_size - cell_size * free_in t ≡ base_in t 7
  pub region_fits : base_in t (n.0 - 1) + 2 * space (entry_in t n).grant ≤ base_in t 7
  pub is : entry_in t n ≡ entry (chan_in t p n)
  pub capped : (entry_in t n).grant ≤ grant_cap
  pub grant_space : (entry_in t n).grant ≤ space (entry_in t n).grant
  pub rx_fits : (entry_in t n).rx ≤ (entry_in t n).grant
  pub tx_fits : (entry_in t n).tx ≤ (entry_in t n).grant
  pub ready_held : (entry_in t n).ready ≤ (entry_in t n).tx
  pub link_known : (entry_in t n).link ≤ 2

link_number_known : (l : Link) → link_number l ≤ 2
link_number_known l = by_link l
  where
    by_link : (k : Link) → link_number k ≤ 2
    by_link NotYet = omega arith
    by_link Established = omega arith
    by_link Dropped = omega arith

-- the kept number is that of the unpromised cells
pub unpromised_kept : (t p : List ℕ) → GoodIn t p → free_in t ≡ unpromised (shown t p)
unpromised_kept t p g = ap free_in g.shows.ledger ∙ free_read (shown t p) g.sound.thirteen g.sound.eight

pub good_table : (t p : List ℕ) → GoodIn t p → length t ≡ ledger_size
good_table t p g = ap length g.shows.ledger ∙ ledger_size_lem (shown t p) g.sound.thirteen g.sound.eight g.sound.seven

module _ (t p : List ℕ) (n : ChannelNumber) (h : Numbered t p n) where
  abbrev a : State
  a = shown t p

  abbrev c : Chan
  c = chan a n

  abbrev x : Channel
  x = entry_in t n

  abbrev at : ℕ
  at = base_in t (n.0 - 1)

  sound : Sound a
  sound = h.good.sound

  table_is : t ≡ ledger_of a
  table_is = h.good.shows.ledger

  pool_is : p ≡ pool_of a
  pool_is = h.good.shows.pool

  pub place : n.0 - 1 < length a.chans
  place = omega (arith, h.low, h.high, sound.seven)

  pub entry_is : x ≡ entry c
  entry_is = ap (λ (u : List ℕ). entry_in u n) table_is ∙ entry_read a sound.thirteen sound.eight n

  base_is : (k : ℕ) → k ≤ 7 → base_in t k ≡ cell_size * promised_to (take k a.chans)
  base_is k f = ap (λ (u : List ℕ). base_in u k) table_is ∙ base_read a sound.thirteen sound.eight k (omega (arith, sound.seven))

  front_is : length (front a n sound place) ≡ at
  front_is =
      length_regions (take (n.0 - 1) a.chans) (each_take SoundChan (n.0 - 1) a.chans sound.each)
      ∙ sym (base_is (n.0 - 1) (omega (arith, h.high)))

  used_is : used a n sound place ≡ base_in t 7
  used_is =
      length_regions a.chans sound.each
      ∙ ap (λ (cs : List Chan). cell_size * promised_to cs) (sym (take_all 7 a.chans (omega (arith, sound.seven))))
      ∙ sym (base_is 7 (omega arith))

  promised_is : base_in t 7 ≡ cell_size * promised a
  unfolding promised
  promised_is = sym used_is ∙ length_regions a.chans sound.each

  unpromised_is : free_in t ≡ unpromised a
  unpromised_is = unpromised_kept t p h.good

  pool_size_lem : length p ≡ pool_size
  unfolding pool_of
  pool_size_lem = ap length pool_is ∙ length_pad pool_size (regions a.chans) (used_fits a n sound place)

  pub bounds : Bounds t p n
  unfolding entry unpromised
  bounds =
      let s = chan_sound a n sound in
      let e = entry_is in
      let g : x.grant ≡ c.grant = ap (λ (y : Channel). y.grant) e in
      let r : x.rx ≡ length (held c Receive) = ap (λ (y : Channel). y.rx) e in
      let u : x.tx ≡ length (held c Send) = ap (λ (y : Channel). y.tx) e in
      let y : x.ready ≡ c.ready = ap (λ (z : Channel). z.ready) e in
      let l : x.link ≡ link_number c.link = ap (λ (z : Channel). z.link) e in
      let sg = ap space g in
      let fr = front_is in
      let us = used_is in
      let uf = used_fits a n sound place in
      let up = used_parts a n sound place in
      let lr = length_region c s.fits in
      record {
        table = good_table t p h.good;
        size = pool_size_lem;
        used_is = promised_is;
        used_fits = omega arith;
        free_is = unpromised_is;
        free_few = let f = unpromised_is in omega arith;
        used_end = let f = unpromised_is in omega (arith, promised_is, sound.within);
        region_fits = omega arith;
        is = e;
        capped = omega (arith, s.capped);
        grant_space = held_space x.grant x.grant (omega arith);
        rx_fits = omega (arith, s.fits Receive);
        tx_fits = omega (arith, s.fits Send);
        ready_held = omega (arith, s.ready_held);
        link_known = let k = link_number_known c.link in omega arith;
      }

  -- what stands before the channel's numbers, and behind them
  abbrev front_of : List ℕ
  front_of = before a sound.thirteen sound.eight n place

  abbrev rest_of : List ℕ
  rest_of = behind a sound.thirteen sound.eight n place

  -- the ledger with the numbers of another channel, and the unpromised cells as they were; a channel of the same grant leaves them
  abbrev with_numbers : Chan → List ℕ
  with_numbers d = front_of ++ (chan_numbers d ++ rest_of)

  same_cells : (d : Chan) → d.grant ≡ c.grant → with_numbers d ≡ ledger_of (with_chan a n d)
  same_cells d g = ledger_same a sound.thirteen sound.eight n place d g

  -- another entry, the lengths as they were
  entry_written : (d : Chan) (e : Channel) → e ≡ entry d → ((w : Way) → (queue d w).lengths ≡ (queue c w).lengths) → with_entry t n e ≡ with_numbers d
  unfolding with_entry chan_numbers queue
  entry_written d e r same =
      let x = places c.receive.lengths ++ places c.send.lengths in
      (λ i. pasted ((table_is ∙ ledger_parts a sound.thirteen sound.eight n place ∙ ap (λ (l : List ℕ). front_of ++ l) (append_assoc (numbers_of (entry c)) x rest_of)) i) (entry_at (n.0 - 1)) (numbers_of (r i)))
      ∙ paste_parts front_of (numbers_of (entry c)) (numbers_of (entry d)) (x ++ rest_of) (entry_at (n.0 - 1)) (before_size a sound.thirteen sound.eight n place) refl
      ∙ ap (λ (l : List ℕ). front_of ++ l) (sym (append_assoc (numbers_of (entry d)) x rest_of))
      ∙ (λ i. front_of ++ ((numbers_of (entry d) ++ (places (sym (same Receive) i) ++ places (sym (same Send) i))) ++ rest_of))

  -- the two arrays with the entry of a channel, and its pool, are the session with that channel
  changed :
      (d : Chan) (e : Channel) (u q : List ℕ) → u ≡ with_entry t n e → e ≡ entry d → ((w : Way) → (queue d w).lengths ≡ (queue c w).lengths) →
      d.grant ≡ c.grant → q ≡ pool_of (with_chan a n d) → Changed t p n d u q
  changed d e u q eᵗ r same g s = record { ledger = eᵗ ∙ entry_written d e r same ∙ same_cells d g; pool = s }

  -- the places of a way in the ledger with another channel
  module _ (d : Chan) (some : (w : Way) → Some (queue d w).lengths) (few : (w : Way) → length (queue d w).lengths ≤ place_count) (w : Way) where
    abbrev ls : List ℕ
    ls = (queue d w).lengths

    abbrev at_way : ℕ
    at_way = lengths_at n w

    in_parts : with_numbers d ≡ way_front front_of d w ++ (places ls ++ way_rest rest_of d w)
    in_parts = way_parts front_of rest_of d w

    front_size : length (way_front front_of d w) ≡ at_way
    front_size = way_size front_of d (entry_at (n.0 - 1)) w (before_size a sound.thirteen sound.eight n place)

    -- the lengths are read
    lengths_there : lengths_in (with_numbers d) n w ≡ ls
    lengths_there =
        ap (λ (u : List ℕ). lengths_from place_count (drop at_way u)) in_parts ∙ way_read (way_front front_of d w) (way_rest rest_of d w) ls at_way front_size (some w) (few w)

    -- one length more, and fewer bytes of the first
    more_written : (k : ℕ) → length ls + min 1 k ≤ place_count → with_length (with_numbers d) n w k ≡ with_numbers (with_queue d w (counting (queue d w) k))
    unfolding with_length counting another
    more_written zero h = ap with_numbers (sym (same_queue d w))
    more_written (suc k) h =
        (λ i. set (in_parts i) (at_way + length (lengths_there i)) (suc k))
        ∙ way_more (way_front front_of d w) (way_rest rest_of d w) ls at_way front_size k (omega arith)
        ∙ sym (other_lengths front_of rest_of d w (another ls (suc k)))

    less_written : (k : ℕ) → less_length (with_numbers d) n w k ≡ with_numbers (with_queue d w (record { bytes = held d w; lengths = lessened ls k }))
    unfolding less_length
    less_written k =
        (λ i. ltb k (get_or (in_parts i) at_way 0) ⇒ set (in_parts i) at_way (get_or (in_parts i) at_way 0 - k) else pasted (in_parts i) at_way (part (at_way + 1) (at_way + place_count) (in_parts i) ++ 0 ∷ []))
        ∙ way_less (way_front front_of d w) (way_rest rest_of d w) ls at_way front_size k (few w)
        ∙ sym (other_lengths front_of rest_of d w (lessened ls k))

  -- the lengths of the channel itself
  own_some : (w : Way) → Some (queue c w).lengths
  own_some w = ((chan_sound a n sound).lengths w).some

  own_few : (w : Way) → length (queue c w).lengths ≤ place_count
  own_few w = few_lengths c (chan_sound a n sound) w

  -- the first length, and the last place, as the ledger has them
  pub first_read : (w : Way) → get_or t (lengths_at n w) 0 ≡ first (queue c w).lengths
  first_read w =
      ap (λ (u : List ℕ). get_or u (lengths_at n w) 0) (table_is ∙ ledger_parts a sound.thirteen sound.eight n place ∙ way_parts front_of rest_of c w)
      ∙ way_first (way_front front_of c w) (way_rest rest_of c w) (queue c w).lengths (lengths_at n w) (way_size front_of c (entry_at (n.0 - 1)) w (before_size a sound.thirteen sound.eight n place))

  pub last_read : (w : Way) → ltb 0 (get_or t (lengths_at n w + 15) 0) ≡ leb place_count (length (queue c w).lengths)
  last_read w =
      ap (λ (u : List ℕ). ltb 0 (get_or u (lengths_at n w + 15) 0)) (table_is ∙ ledger_parts a sound.thirteen sound.eight n place ∙ way_parts front_of rest_of c w)
      ∙ ap (ltb 0) (way_get (way_front front_of c w) (way_rest rest_of c w) (queue c w).lengths (lengths_at n w) (way_size front_of c (entry_at (n.0 - 1)) w (before_size a sound.thirteen sound.eight n place)) 15 (omega arith))
      ∙ places_last (queue c w).lengths (own_some w) (own_few w)

  -- what the channel carries, by the number that its entry has
  kind_is : (e : Channel) → e.carries ≡ x.carries → is_stream (carries_of e.carries) ≡ is_stream c.carries
  unfolding entry
  kind_is e q = ap (λ (k : ℕ). is_stream (carries_of k)) (q ∙ ap (λ (y : Channel). y.carries) entry_is) ∙ ap is_stream (carries_back c.carries)

  -- what may be handed out at once, from the entry or from the first length
  pub once_stream : (e : Channel) (w : Way) → e ≡ x → is_stream (carries_of e.carries) ≡ true → due_in e w ≡ at_once c w
  unfolding at_once
  once_stream e w q z =
      ap (λ (y : Channel). due_in y w) (q ∙ entry_is) ∙ due_entry c w ∙ sym (stop _ _ _ (sym (kind_is e (ap (λ (y : Channel). y.carries) q)) ∙ z))

  pub once_datagram : (e : Channel) (w : Way) → e ≡ x → is_stream (carries_of e.carries) ≡ false → get_or t (lengths_at n w) 0 ≡ at_once c w
  unfolding at_once
  once_datagram e w q z = first_read w ∙ sym (skip _ _ _ (sym (kind_is e (ap (λ (y : Channel). y.carries) q)) ∙ z))

  grant_is : x.grant ≡ c.grant
  unfolding entry
  grant_is = ap (λ (y : Channel). y.grant) entry_is

  held_is : (w : Way) → held_in x w ≡ length (held c w)
  held_is w = ap (λ (y : Channel). held_in y w) entry_is ∙ held_entry c w

  -- an entry that differs from the channel's in the link and the ready bytes is that of the channel so marked
  marks_entry : (e : Channel) → Marks e x → e ≡ entry (marked c (link_of e.link) e.ready)
  unfolding entry marked queue
  marks_entry e m =
      λ i.
      record {
        grant = (m.grant ∙ grant_is) i;
        link = sym (number_back e.link m.link) i;
        rx = (m.rx ∙ ap (λ (y : Channel). y.rx) entry_is) i;
        tx = (m.tx ∙ ap (λ (y : Channel). y.tx) entry_is) i;
        ready = e.ready;
        carries = (m.carries ∙ ap (λ (y : Channel). y.carries) entry_is) i;
      }

  marked_held : (e : Channel) (w : Way) → Marks e x → held_in e w ≡ held_in x w
  marked_held e Receive m = m.rx
  marked_held e Send m = m.tx

  -- the bytes of a way lie in the pool, within its space
  way_fits : (w : Way) (k : ℕ) → k ≤ x.grant → start_in t n x.grant w + k ≤ pool_size
  unfolding offset
  way_fits Receive k f = let b = bounds in omega (arith, b.region_fits, b.used_fits, b.grant_space)
  way_fits Send k f = let b = bounds in omega (arith, b.region_fits, b.used_fits, b.grant_space)

  held_fits : (w : Way) → held_in x w ≤ x.grant
  held_fits Receive = bounds.rx_fits
  held_fits Send = bounds.tx_fits

  -- where bytes that fit come to stand, and what is removed, at an entry that the code has found
  pub appending :
      (e : Channel) (w : Way) (m : ℕ) → Marks e x → m ≤ room c w → (start_in t n e.grant w + held_in e w + m ≤ length p) × (held_in e w + m ≤ grant_cap)
  unfolding room
  appending e w m k f =
      let g = k.grant in
      let b = bounds in
      let h = marked_held e w k in
      let fit : held_in e w + m ≤ x.grant = let y = held_is w in let z = held_fits w in omega (arith, f, grant_is) in
      let within = subst (λ (y : ℕ). start_in t n y w + (held_in e w + m) ≤ pool_size) (sym g) (way_fits w (held_in e w + m) fit) in
      (omega (arith, b.size), omega (arith, b.capped))

  pub removing :
      (e : Channel) (w : Way) (at k : ℕ) → e ≡ x → at ≡ start_in t n e.grant w → k ≤ at_once c w →
      (at + held_in e w ≤ length p) × (k ≤ held_in e w) × (k ≤ due_in e w)
  removing e w at k q r f =
      let b = bounds in
      let hs = chan_sound a n sound in
      let u = once_due c w hs in
      let d = due_held c hs w in
      let y : held_in e w ≡ length (held c w) = ap (λ (z : Channel). held_in z w) q ∙ held_is w in
      let z : due_in e w ≡ due c w = ap (λ (v : Channel). due_in v w) (q ∙ entry_is) ∙ due_entry c w in
      let l : at ≡ start_in t n x.grant w = r ∙ ap (λ (v : Channel). start_in t n v.grant w) q in
      let wf = way_fits w (held_in x w) (held_fits w) in
      let v = held_is w in
      (omega (arith, b.size), omega arith, omega arith)

  -- bytes come to a way: with the count that was found, the entry and the two arrays that were left
  module _ (e f : Channel) (w : Way) (s u q : List ℕ) (there from k : ℕ) (m : Marks e x) (r : length s ≤ room c w)
      (eʰ : there ≡ held_in e w) (eᵃ : from ≡ start_in t n e.grant w) (eᶠ : f ≡ more_in e w (length s)) (eᵖ : q ≡ pasted p (from + there) s) where
    abbrev d : Chan
    d = appended (marked c (link_of e.link) e.ready) w s

    joins_entry : f ≡ entry d
    joins_entry = eᶠ ∙ ap (λ (y : Channel). more_in y w (length s)) (marks_entry e m) ∙ more_entry c (link_of e.link) e.ready s w

    joins_lengths : (v : Way) → (queue d v).lengths ≡ (queue c v).lengths
    joins_lengths v = appended_lengths c (link_of e.link) e.ready s w v

    joins_pool : q ≡ pool_of (with_chan a n d)
    joins_pool =
        let l = eʰ ∙ marked_held e w m ∙ held_is w in
        let g = eᵃ ∙ ap (λ (y : ℕ). start_in t n y w) (m.grant ∙ grant_is) in
        eᵖ ∙ (λ i. pasted (pool_is i) (g i + l i) s) ∙ appended_pool a n sound place (base_in t (n.0 - 1)) front_is (link_of e.link) e.ready w s r

    joins_grant : d.grant ≡ c.grant
    joins_grant = appended_grant c (link_of e.link) e.ready s w

    joins_carries : d.carries ≡ c.carries
    joins_carries = appended_carries c (link_of e.link) e.ready s w

    -- of a stream the entry alone is written
    pub append_stream : is_stream (carries_of e.carries) ≡ true → u ≡ with_entry t n f → Changed t p n (whole d w k) u q
    unfolding whole
    append_stream z eᵗ =
        subst (λ (y : Chan). Changed t p n y u q) (sym (stop _ _ _ (ap is_stream joins_carries ∙ sym (kind_is e m.carries) ∙ z))) (changed d f u q eᵗ joins_entry joins_lengths joins_grant joins_pool)

    -- of datagrams a length more, too
    pub append_datagram :
        is_stream (carries_of e.carries) ≡ false → length (queue c w).lengths + min 1 k ≤ place_count → (v : List ℕ) → v ≡ with_entry t n f → u ≡ with_length v n w k →
        Changed t p n (whole d w k) u q
    unfolding whole
    append_datagram z fit v eᵛ eᵗ =
        let kind = ap is_stream joins_carries ∙ sym (kind_is e m.carries) ∙ z in
        let size = ap (λ (l : List ℕ). length l) (joins_lengths w) in
        subst (λ (y : Chan). Changed t p n y u q) (sym (skip _ _ _ kind))
        (record {
          ledger =
              eᵗ ∙ ap (λ (l : List ℕ). with_length l n w k) (eᵛ ∙ entry_written d f joins_entry joins_lengths)
              ∙ more_written d (λ j. subst Some (sym (joins_lengths j)) (own_some j)) (λ j. subst (λ (l : List ℕ). length l ≤ place_count) (sym (joins_lengths j)) (own_few j)) w k (omega arith)
              ∙ same_cells (with_queue d w (counting (queue d w) k)) (counted_grant d w k ∙ joins_grant);
          pool = joins_pool ∙ counted_pool a n sound place d w k (appended_fits c (link_of e.link) e.ready s (chan_sound a n sound).fits w r) joins_grant;
        })

    -- what the ledger then has of the way's lengths
    pub joins_read : (v : List ℕ) → v ≡ with_entry t n f → lengths_in v n w ≡ (queue c w).lengths
    joins_read v eᵛ =
        ap (λ (l : List ℕ). lengths_in l n w) (eᵛ ∙ entry_written d f joins_entry joins_lengths)
        ∙ lengths_there d (λ j. subst Some (sym (joins_lengths j)) (own_some j)) (λ j. subst (λ (l : List ℕ). length l ≤ place_count) (sym (joins_lengths j)) (own_few j)) w ∙ joins_lengths w

  -- the first bytes of a way go
  module _ (e f : Channel) (w : Way) (u q : List ℕ) (there from k : ℕ) (eᵉ : e ≡ x) (eᵃ : from ≡ start_in t n e.grant w) (r : k ≤ at_once c w)
      (eʰ : there ≡ held_in e w) (eᶠ : f ≡ less_in e w k) (eᵖ : q ≡ cut_out p from k (from + there)) where
    less_pool : q ≡ pool_of (with_chan a n (removed c w k))
    less_pool =
        let m = eʰ ∙ ap (λ (y : Channel). held_in y w) eᵉ ∙ held_is w in
        let g = eᵃ ∙ ap (λ (y : Channel). start_in t n y.grant w) eᵉ ∙ ap (λ (y : ℕ). start_in t n y w) grant_is in
        eᵖ ∙ (λ i. cut_out (pool_is i) (g i) k (g i + m i)) ∙ removed_pool a n sound place (base_in t (n.0 - 1)) front_is w k r

    -- the channel without the bytes, the lengths as they were
    abbrev kept_lengths : Chan
    kept_lengths = with_queue (removed c w k) w (record { bytes = held (removed c w k) w; lengths = (queue c w).lengths })

    kept_entry : f ≡ entry kept_lengths
    kept_entry = eᶠ ∙ ap (λ (y : Channel). less_in y w k) (eᵉ ∙ entry_is) ∙ less_entry c w k ∙ entry_lengths (removed c w k) w (queue c w).lengths

    kept_same : (v : Way) → (queue kept_lengths v).lengths ≡ (queue c v).lengths
    kept_same v = removed_lengths c w k v

    pub remove_stream : is_stream (carries_of e.carries) ≡ true → u ≡ with_entry t n f → Changed t p n (removed c w k) u q
    remove_stream z eᵗ =
        let none = ((chan_sound a n sound).lengths w).none (sym (kind_is e (ap (λ (y : Channel). y.carries) eᵉ)) ∙ z) in
        record { ledger = eᵗ ∙ entry_written kept_lengths f kept_entry kept_same ∙ ap with_numbers (none_lessened c w k none) ∙ same_cells (removed c w k) (removed_grant c k w); pool = less_pool }

    pub remove_datagram : (v : List ℕ) → v ≡ with_entry t n f → u ≡ less_length v n w k → Changed t p n (removed c w k) u q
    remove_datagram v eᵛ eᵗ =
        record {
          ledger =
              eᵗ ∙ ap (λ (l : List ℕ). less_length l n w k) (eᵛ ∙ entry_written kept_lengths f kept_entry kept_same)
              ∙ less_written kept_lengths (λ j. subst Some (sym (kept_same j)) (own_some j)) (λ j. subst (λ (l : List ℕ). length l ≤ place_count) (sym (kept_same j)) (own_few j)) w k
              ∙ ap with_numbers (lessened_back c w k) ∙ same_cells (removed c w k) (removed_grant c k w);
          pool = less_pool;
        }

  -- the cells that are unpromised where the channel goes, or another comes in the place of one that is not open
  freed : unpromised (with_chan a n closed) ≡ free_in t + 2 * cells c.grant
  unfolding unpromised promised with_chan chan closed cells
  freed = let m = promised_set a.chans (n.0 - 1) closed place in let f = unpromised_is in omega (arith, sound.within)

  taken : (d : Chan) → c.grant ≡ 0 → unpromised (with_chan a n d) ≡ free_in t - 2 * cells d.grant
  unfolding unpromised promised with_chan chan cells
  taken d o = let m = promised_set a.chans (n.0 - 1) d place in let f = unpromised_is in let g = ap cells o in omega (arith, sound.within)

  -- the region goes, or an empty one comes
  pub close_law :
      (g : ℕ) (u v w q : List ℕ) (from sp end k f : ℕ) → g ≡ x.grant → from ≡ at → sp ≡ space g → end ≡ base_in t 7 → q ≡ cut_out p from (2 * sp) end →
      v ≡ with_entry t n (record { grant = 0; link = 0; rx = 0; tx = 0; ready = 0; carries = 0 }) → w ≡ pasted v (lengths_at n Receive) (replicate 32 0) →
      f ≡ free_in t → k ≡ cells g → u ≡ set w free_at (f + 2 * k) → Changed t p n closed u q
  unfolding with_entry chan_numbers
  close_law g u v w q from sp end k f eᵍ eᵃ eˢ eᵉ eᵖ eᵛ eʷ eᶠ eᵏ eᵗ =
      let m = eˢ ∙ ap space (eᵍ ∙ grant_is) in
      let six : List ℕ = replicate 6 0 in
      let y = places c.receive.lengths ++ places c.send.lengths in
      let size = length-append (places c.receive.lengths) (places c.send.lengths) in
      let b = before_size a sound.thirteen sound.eight n place in
      let fs = length-append front_of six in
      let cleared : w ≡ with_numbers closed =
      eʷ
      ∙ ap (λ (l : List ℕ). pasted l (lengths_at n Receive) (replicate 32 0))
      (eᵛ
      ∙ (λ i. pasted ((table_is ∙ ledger_parts a sound.thirteen sound.eight n place ∙ ap (λ (l : List ℕ). front_of ++ l) (append_assoc (numbers_of (entry c)) y rest_of)) i) (entry_at (n.0 - 1)) six)
      ∙ paste_parts front_of (numbers_of (entry c)) six (y ++ rest_of) (entry_at (n.0 - 1)) b refl ∙ sym (append_assoc front_of six (y ++ rest_of)))
      ∙ paste_parts (front_of ++ six) y (replicate 32 0) rest_of (lengths_at n Receive) (omega arith) (omega (arith, size, places_size c.receive.lengths, places_size c.send.lengths))
      ∙ append_assoc front_of six (replicate 32 0 ++ rest_of) ∙ sym (ap (λ (l : List ℕ). front_of ++ (l ++ rest_of)) closed_numbers)
      in
      let free : f + 2 * k ≡ unpromised (with_chan a n closed) = (λ i. eᶠ i + 2 * (eᵏ ∙ ap cells (eᵍ ∙ grant_is)) i) ∙ sym freed in
      record {
        ledger = eᵗ ∙ ap (λ (l : List ℕ). set l free_at (f + 2 * k)) cleared ∙ ledger_with a sound.thirteen sound.eight n place closed (f + 2 * k) free;
        pool = eᵖ ∙ (λ i. cut_out (pool_is i) (eᵃ i) (2 * m i) ((eᵉ ∙ sym used_is) i)) ∙ closed_pool a n sound place at front_is;
      }

  pub open_law :
      (g : ℕ) (k : Link) (j : Carries) (l z : ℕ) (u v q : List ℕ) (from sp end f m : ℕ) → c.grant ≡ 0 → base_in t 7 + 2 * space g ≤ pool_size →
      from ≡ at → sp ≡ space g → end ≡ base_in t 7 → l ≡ link_number k → z ≡ carries_number j → q ≡ spread p from (2 * sp) end →
      v ≡ with_entry t n (record { grant = g; link = l; rx = 0; tx = 0; ready = 0; carries = z }) → f ≡ free_in t → m ≡ cells g → u ≡ set v free_at (f - 2 * m) →
      Changed t p n (fresh g k j) u q
  unfolding fresh entry queue
  open_law g k j l z u v q from sp end f m o fit eᵃ eˢ eᵉ eˡ eᶻ eᵖ eᵛ eᶠ eᵐ eᵗ =
      let w = used_is in
      let none = unused_lengths c (chan_sound a n sound) o in
      let written : v ≡ with_numbers (fresh g k j) =
      eᵛ ∙ entry_written (fresh g k j) _ (λ i. record { grant = g; link = eˡ i; rx = 0; tx = 0; ready = 0; carries = eᶻ i }) (by_way _ (sym (none Receive)) (sym (none Send))) in
      let free : f - 2 * m ≡ unpromised (with_chan a n (fresh g k j)) = (λ i. eᶠ i - 2 * eᵐ i) ∙ sym (taken (fresh g k j) o) in
      record {
        ledger = eᵗ ∙ ap (λ (l : List ℕ). set l free_at (f - 2 * m)) written ∙ ledger_with a sound.thirteen sound.eight n place (fresh g k j) (f - 2 * m) free;
        pool = eᵖ ∙ (λ i. spread (pool_is i) (eᵃ i) (2 * eˢ i) ((eᵉ ∙ sym used_is) i)) ∙ opened_pool a n sound place at front_is g k j o (omega arith);
      }

  -- another link and another count of ready bytes
  pub mark_law : (e : Channel) (u : List ℕ) → Marks e x → u ≡ with_entry t n e → Changed t p n (marked c (link_of e.link) e.ready) u p
  unfolding marked
  mark_law e u m eᵗ =
      changed (marked c (link_of e.link) e.ready) e u p eᵗ (marks_entry e m) (marked_lengths c (link_of e.link) e.ready) refl
      (pool_is ∙ sym (marked_pool a n sound place (link_of e.link) e.ready))

  -- the first bytes held for a way lie in the pool
  pub held_within : (e : Channel) (w : Way) (from k : ℕ) → e ≡ x → from ≡ start_in t n e.grant w → k ≤ held_in e w → from + k ≤ length p
  held_within e w from k q r f =
      let b = bounds in
      let l : from ≡ start_in t n x.grant w = r ∙ ap (λ (v : Channel). start_in t n v.grant w) q in
      let y : held_in e w ≡ held_in x w = ap (λ (v : Channel). held_in v w) q in
      let u = way_fits w (held_in x w) (held_fits w) in
      omega (arith, b.size)

  -- the first bytes held for a way are read from where it begins
  pub held_read : (w : Way) (k : ℕ) → k ≤ length (held c w) → part (start_in t n x.grant w) (start_in t n x.grant w + k) p ≡ take k (held c w)
  held_read w k f =
      (λ i. part (at + offset (grant_is i) w) (at + offset (grant_is i) w + k) (pool_is i)) ∙ held_part a n sound place at front_is w k f

-- another event list
pub list_law : (t p : List ℕ) (e : Events) → GoodIn t p → Shows (with_events (shown t p) e) (with_list t e) p
unfolding pool_of
list_law t p e g =
    record {
      ledger = ap (λ (u : List ℕ). with_list u e) g.shows.ledger ∙ list_written (shown t p) g.sound.thirteen g.sound.eight e;
      pool = g.shows.pool;
    }
