-- The numbers of a state's ledger: what is read from them, and what another entry or another event list makes of them.
-- Assumes nothing.
use Prim.Native.Nat.{ℕ, zero, suc, ◌+◌, ◌-◌, ◌*◌, ◌≤◌, ◌<◌}
use mathlib.Core.Path.{◌≡◌, refl, sym, ap, ◌∙◌}
use mathlib.Core.Bool.{Bool, true, false}
use mathlib.Core.List.{List, [], ◌∷◌, ◌++◌, append_assoc}
use native.Mathlib.Omega.{arith}
use native.Mathlib.Nat.{le_of_suc-le-suc, not-suc-le-zero}
use lib.ListN.{length, take, drop, get_or, set, replicate, length-append, take-append-drop}
use lib.Seq.{take_at, drop_at, get_or-append-add, length-take-le, sets-eq}
use Rattle.std.proofs.lemmas.List.{set-append_right}
use Rattle.rules.specs.declared.Events.{Events}
use Rattle.rules.specs.declared.ChannelNumber.{ChannelNumber}
use Rattle.rules.specs.Profile.{profile_size}
use Rattle.rules.specs.State.{State, Chan, closed, chan, with_chan, queue}
use Rattle.rules.specs.Pool.{cell_size, cells, promised_to, promised, unpromised}
use Rattle.rules.proofs.Grants.{promised_set}
use Rattle.octets.specs.Parts.{pasted}
use Rattle.session.specs.declared.Channel.{Channel}
use Rattle.session.specs.Book.{available_at, status_at, free_at, free_in, channels_at, entry_size, ledger_size, entry_at, numbers_of, entry_in, places, listed, listed_number, with_list, timers_at, timer_size}
use Rattle.session.specs.Picture.{space, link_number, entry, chan_numbers, entries_of, heads_with, heads_of, ledger_of, base_in, timer_numbers, timers_of}
use Rattle.session.specs.Changed.{with_events}
use Rattle.session.proofs.Places.{places_size}
use Rattle.rules.specs.Timers.{timer_count, Timer, left_of, started_of, idle}
use Rattle.session.proofs.Blocks.{blocks_size, block_number, block_set, block_parts}

-- an entry put number by number
pub entry_put : (t : List ℕ) (at : ℕ) (e : Channel) → at + 6 ≤ length t →
    set (set (set (set (set (set t at e.grant) (at + 1) e.link) (at + 2) e.rx) (at + 3) e.tx) (at + 4) e.ready) (at + 5) e.carries ≡ pasted t at (numbers_of e)
unfolding pasted
entry_put t at e h =
    let e1 : at + 1 ≡ suc at = omega arith in
    let e2 : at + 2 ≡ suc (suc at) = omega arith in
    let e3 : at + 3 ≡ suc (suc (suc at)) = omega arith in
    let e4 : at + 4 ≡ suc (suc (suc (suc at))) = omega arith in
    let e5 : at + 5 ≡ suc (suc (suc (suc (suc at)))) = omega arith in
    (λ i. set (set (set (set (set (set t at e.grant) (e1 i) e.link) (e2 i) e.rx) (e3 i) e.tx) (e4 i) e.ready) (e5 i) e.carries)
    ∙ sets-eq (numbers_of e) t at h ∙ append_assoc (take at t) (numbers_of e) (drop (at + 6) t)

-- every number of zeros, and behind them
pub zeros_get : (n j : ℕ) → get_or (replicate {A = ℕ} n 0) j 0 ≡ 0
zeros_get zero j = refl
zeros_get (suc n) zero = refl
zeros_get (suc n) (suc j) = zeros_get n j

-- the numbers of a channel
pub numbers_size : (c : Chan) → length (chan_numbers c) ≡ entry_size
unfolding chan_numbers
numbers_size c =
    let r = c.receive.lengths in
    let s = c.send.lengths in
    let e = length-append (numbers_of (entry c)) (places r ++ places s) in
    let f = length-append (places r) (places s) in
    omega (arith, e, f, places_size r, places_size s)

pub closed_numbers : chan_numbers closed ≡ replicate entry_size 0
unfolding chan_numbers entry closed queue places
closed_numbers = refl

-- a closed channel has no number but 0
closed_zeros : (j : ℕ) → get_or (chan_numbers closed) j 0 ≡ 0
closed_zeros j = ap (λ (l : List ℕ). get_or l j 0) closed_numbers ∙ zeros_get entry_size j

-- the numbers of a timer, and those of one that neither runs nor waits
pub timer_size_lem : (t : Timer) → length (timer_numbers t) ≡ timer_size
unfolding timer_numbers
timer_size_lem t = refl

pub idle_zeros : (j : ℕ) → get_or (timer_numbers idle) j 0 ≡ 0
unfolding timer_numbers left_of started_of
idle_zeros j = zeros_get 6 j

cells_more : (cs : List Chan) (k : ℕ) → k < length cs → promised_to (take (suc k) cs) ≡ promised_to (take k cs) + 2 * cells (get_or cs k closed).grant
unfolding promised_to
cells_more [] k h = absurd (not-suc-le-zero h)
cells_more (c ∷ cs) zero h = omega arith
cells_more (c ∷ cs) (suc k) h = let ih = cells_more cs k (le_of_suc-le-suc h) in omega arith

listed_back : (b : Bool) → listed (listed_number b) ≡ b
listed_back true = refl
listed_back false = refl

module _ (a : State) (thirteen : length a.profile ≡ profile_size) (eight : length a.timers ≡ timer_count) where
  -- what stands behind the profile
  abbrev rest : List ℕ
  rest = heads_of a ++ entries_of a.chans

  -- what stands before the entries
  abbrev front : List ℕ
  front = a.profile ++ heads_of a

  front_size : length front ≡ channels_at
  unfolding heads_of
  front_size = length-append a.profile (heads_of a) ∙ omega (arith, thirteen, eight, blocks_size timer_numbers timer_size timer_size_lem a.timers)

  parts : ledger_of a ≡ front ++ entries_of a.chans
  unfolding ledger_of
  parts = sym (append_assoc a.profile (heads_of a) (entries_of a.chans))

  pub ledger_size_lem : length a.chans ≡ 7 → length (ledger_of a) ≡ ledger_size
  ledger_size_lem seven =
      ap length parts ∙ length-append front (entries_of a.chans) ∙ (let n = blocks_size chan_numbers entry_size numbers_size a.chans in omega (arith, front_size))

  pub entries_behind : drop channels_at (ledger_of a) ≡ entries_of a.chans
  entries_behind = ap (λ (t : List ℕ). drop channels_at t) parts ∙ drop_at front (entries_of a.chans) channels_at front_size

  -- the timers, and what stands behind them
  pub timers_behind : drop timers_at (ledger_of a) ≡ timers_of a.timers ++ entries_of a.chans
  unfolding ledger_of heads_of
  timers_behind =
      let three = listed_number a.events.available ∷ listed_number a.events.status ∷ unpromised a ∷ [] in
      let size = length-append a.profile three in
      ap (drop timers_at) (sym (append_assoc a.profile three (timers_of a.timers ++ entries_of a.chans)))
      ∙ drop_at (a.profile ++ three) (timers_of a.timers ++ entries_of a.chans) timers_at (omega (arith, size, thirteen))

  pub profile_before : take profile_size (ledger_of a) ≡ a.profile
  unfolding ledger_of
  profile_before = take_at a.profile rest profile_size thirteen

  -- the numbers behind the profile, read and written
  head_read : (i at : ℕ) → at ≡ profile_size + i → get_or (ledger_of a) at 0 ≡ get_or rest i 0
  unfolding ledger_of
  head_read i at e =
      ap (λ (k : ℕ). get_or (ledger_of a) k 0) (let q : at ≡ length a.profile + i = omega arith in q) ∙ get_or-append-add a.profile rest i 0

  pub available_read : listed (get_or (ledger_of a) available_at 0) ≡ a.events.available
  unfolding heads_of
  available_read = ap listed (head_read 0 available_at refl) ∙ listed_back a.events.available

  pub status_read : listed (get_or (ledger_of a) status_at 0) ≡ a.events.status
  unfolding heads_of
  status_read = ap listed (head_read 1 status_at refl) ∙ listed_back a.events.status

  pub free_read : free_in (ledger_of a) ≡ unpromised a
  unfolding heads_of
  free_read = head_read 2 free_at refl

  head_written : (q : List ℕ) (i at v : ℕ) → at ≡ profile_size + i → set (a.profile ++ q) at v ≡ a.profile ++ set q i v
  head_written q i at v e =
      set-append_right a.profile q profile_size at v thirteen (omega arith) ∙ ap (λ (k : ℕ). a.profile ++ set q k v) (let r : at - profile_size ≡ i = omega arith in r)

  -- another event list
  pub list_written : (e : Events) → with_list (ledger_of a) e ≡ ledger_of (with_events a e)
  unfolding with_list ledger_of heads_of unpromised promised
  list_written e =
      let x = listed_number e.available in
      let y = listed_number e.status in
      ap (λ (l : List ℕ). set l status_at y) (head_written rest 0 available_at x refl) ∙ head_written (set rest 0 x) 1 status_at y refl

  number_read : (k j at : ℕ) → j < entry_size → at ≡ entry_at k + j → get_or (ledger_of a) at 0 ≡ get_or (chan_numbers (get_or a.chans k closed)) j 0
  number_read k j at h e =
      let p : at ≡ length front + (entry_size * k + j) = omega (arith, front_size) in
      (λ i. get_or (parts i) (p i) 0) ∙ get_or-append-add front (entries_of a.chans) (entry_size * k + j) 0 ∙ block_number chan_numbers entry_size numbers_size closed closed_zeros a.chans k j h

  -- the entry of a channel is read
  pub entry_read : (n : ChannelNumber) → entry_in (ledger_of a) n ≡ entry (chan a n)
  unfolding chan chan_numbers entry
  entry_read n =
      let k = n.0 - 1 in
      λ i.
      record {
        grant = number_read k 0 (entry_at k) (omega arith) (omega arith) i;
        link = number_read k 1 (entry_at k + 1) (omega arith) refl i;
        rx = number_read k 2 (entry_at k + 2) (omega arith) refl i;
        tx = number_read k 3 (entry_at k + 3) (omega arith) refl i;
        ready = number_read k 4 (entry_at k + 4) (omega arith) refl i;
        carries = number_read k 5 (entry_at k + 5) (omega arith) refl i;
      }

  pub grant_read : (k : ℕ) → get_or (ledger_of a) (entry_at k) 0 ≡ (get_or a.chans k closed).grant
  unfolding chan_numbers entry
  grant_read k = number_read k 0 (entry_at k) (omega arith) (omega arith)

  pub link_read : (k : ℕ) → get_or (ledger_of a) (entry_at k + 1) 0 ≡ link_number (get_or a.chans k closed).link
  unfolding chan_numbers entry
  link_read k = number_read k 1 (entry_at k + 1) (omega arith) refl

  -- the regions stand one after the other from the first cell on
  pub base_read : (k : ℕ) → k ≤ length a.chans → base_in (ledger_of a) k ≡ cell_size * promised_to (take k a.chans)
  unfolding base_in promised_to space
  base_read zero h = refl
  base_read (suc k) h =
      let ih = base_read k (omega arith) in
      let e : cells (get_or (ledger_of a) (entry_at k) 0) ≡ cells (get_or a.chans k closed).grant = ap cells (grant_read k) in
      let m : promised_to (take (suc k) a.chans) ≡ promised_to (take k a.chans) + 2 * cells (get_or a.chans k closed).grant = cells_more a.chans k h in
      omega arith

  -- the ledger in parts: what stands before the numbers of a channel, these, and what stands behind them; and with another channel there
  module _ (n : ChannelNumber) (h : n.0 - 1 < length a.chans) where
    abbrev k : ℕ
    k = n.0 - 1

    abbrev y : List ℕ
    y = entries_of a.chans

    pub before : List ℕ
    before = front ++ take (entry_size * k) y

    pub behind : List ℕ
    behind = drop (entry_size * k + entry_size) y

    pub before_size : length before ≡ entry_at k
    unfolding before
    before_size =
        let e = length-append front (take (entry_size * k) y) in
        let f = length-take-le (entry_size * k) y (let n = blocks_size chan_numbers entry_size numbers_size a.chans in omega arith) in
        omega (arith, front_size)

    -- the numbers of another channel there, and the unpromised cells as they were
    abbrev numbers_with : Chan → List ℕ
    numbers_with d = before ++ (chan_numbers d ++ behind)

    entries_with : (d : Chan) → numbers_with d ≡ a.profile ++ (heads_of a ++ entries_of (set a.chans k d))
    unfolding before behind
    entries_with d =
        append_assoc front (take (entry_size * k) y) (chan_numbers d ++ drop (entry_size * k + entry_size) y)
        ∙ ap (λ (z : List ℕ). front ++ z) (block_set chan_numbers entry_size numbers_size a.chans k d h)
        ∙ append_assoc a.profile (heads_of a) (entries_of (set a.chans k d))

    -- with the cells that are then unpromised it is the ledger with that channel
    pub ledger_with : (d : Chan) (f : ℕ) → f ≡ unpromised (with_chan a n d) → set (numbers_with d) free_at f ≡ ledger_of (with_chan a n d)
    unfolding with_chan ledger_of heads_of
    ledger_with d f e =
        ap (λ (t : List ℕ). set t free_at f) (entries_with d) ∙ head_written (heads_of a ++ entries_of (set a.chans k d)) 2 free_at f refl
        ∙ (λ i. a.profile ++ (heads_with a.events (e i) a.timers ++ entries_of (set a.chans k d)))

    -- a channel of the same grant leaves them
    pub ledger_same : (d : Chan) → d.grant ≡ (chan a n).grant → numbers_with d ≡ ledger_of (with_chan a n d)
    unfolding with_chan ledger_of heads_of unpromised promised chan
    ledger_same d e =
        let m = promised_set a.chans k d h in
        let g = ap cells e in
        let same : promised_to a.chans ≡ promised_to (set a.chans k d) = omega arith in
        entries_with d
        ∙ (λ i. a.profile ++ (heads_with a.events (256 - same i) a.timers ++ entries_of (set a.chans k d)))

    pub ledger_parts : ledger_of a ≡ before ++ (chan_numbers (chan a n) ++ behind)
    unfolding before behind chan
    ledger_parts =
        parts ∙ ap (λ (z : List ℕ). front ++ z) (sym (take-append-drop (entry_size * k) y) ∙ ap (λ (z : List ℕ). take (entry_size * k) y ++ z) (block_parts chan_numbers entry_size numbers_size closed a.chans k h))
        ∙ sym (append_assoc front (take (entry_size * k) y) (chan_numbers (get_or a.chans k closed) ++ drop (entry_size * k + entry_size) y))
