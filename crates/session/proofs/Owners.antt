-- Each held byte lies in a cell promised to its channel and way, and no cell is promised to two.
-- Assumes nothing.
use Prim.Native.Nat.{ℕ, zero, suc, ◌+◌, ◌-◌, ◌*◌, ◌/◌, ◌≤◌, ◌<◌}
use mathlib.Core.Path.{◌≡◌, refl, sym, ap, ◌∙◌}
use mathlib.Core.Bool.{Bool, true, false}
use mathlib.Core.List.{List, [], ◌∷◌}
use native.Mathlib.Omega.{arith}
use native.Mathlib.Nat.{le_of_suc-le-suc, not-suc-le-zero}
use lib.ListN.{length, take, get_or}
use lib.Seq.{get_or-take}
use lib.Dec.{ltb}
use borrow.Author.Tests.{ltb-true, ltb-false}
use Rattle.rules.specs.declared.ChannelNumber.{ChannelNumber}
use Rattle.rules.specs.declared.Way.{Way}
use Rattle.rules.specs.declared.Way.TheVariants.{Receive, Send}
use Rattle.rules.specs.State.{State, Chan, closed, chan, held}
use Rattle.rules.specs.Pool.{cell_size, cells, promised_to, promised}
use Rattle.rules.specs.Sound.{SoundChan, Sound}
use Rattle.rules.proofs.Laws.{each_take}
use Rattle.rules.proofs.Soundness.{chan_sound}
use Rattle.octets.proofs.Copies.{part_get}
use Rattle.session.specs.Picture.{space, pool_of, offset, shown, GoodIn}
use Rattle.session.specs.Cells.{first_cell, Promised, held_place}
use Rattle.session.proofs.Regions.{front, length_regions, held_space}
use Rattle.session.proofs.Changes.{held_part}

-- the bytes before the first cell of a channel and a way
pub first_start :
    (a : State) (n : ChannelNumber) (w : Way) →
    cell_size * first_cell a n w ≡ cell_size * promised_to (take (n.0 - 1) a.chans) + offset (chan a n).grant w
unfolding first_cell offset space
first_start a n Receive = omega arith
first_start a n Send = omega arith

module _ (a : State) (n : ChannelNumber) (h : Sound a) (low : 1 ≤ n.0) (high : n.0 ≤ 7) where
  place : n.0 - 1 < length a.chans
  place = omega (arith, h.seven)

  front_cells : length (front a n h place) ≡ cell_size * promised_to (take (n.0 - 1) a.chans)
  front_cells = length_regions (take (n.0 - 1) a.chans) (each_take SoundChan (n.0 - 1) a.chans h.each)

  -- the byte at index i of what is held stands in the pool, i bytes behind the first cell
  held_byte : (w : Way) (i : ℕ) → i < length (held (chan a n) w) → get_or (pool_of a) (held_place a n w i) 0 ≡ get_or (held (chan a n) w) i 0
  held_byte w i f =
      let at = cell_size * promised_to (take (n.0 - 1) a.chans) in
      let start = at + offset (chan a n).grant w in
      let k = length (held (chan a n) w) in
      ap (λ (j : ℕ). get_or (pool_of a) (j + i) 0) (first_start a n w) ∙ sym (part_get start (start + k) i (pool_of a) (omega arith))
      ∙ ap (λ (l : List ℕ). get_or l i 0) (held_part a n h place at front_cells w k (omega arith)) ∙ get_or-take k (held (chan a n) w) i 0 f

  -- and the cell in which it stands is promised to its channel and way
  held_promised : (w : Way) (i : ℕ) → i < length (held (chan a n) w) → Promised a n w (held_place a n w i / cell_size)
  unfolding space
  held_promised w i f = let c = held_space (chan a n).grant (length (held (chan a n) w)) ((chan_sound a n h).fits w) in record { from = omega arith; upto = omega arith }

-- each byte held in a good session stands in its pool, in a cell promised to the channel and way of the byte
pub held_stands :
    (t p : List ℕ) → GoodIn t p → (n : ChannelNumber) → 1 ≤ n.0 → n.0 ≤ 7 →
    (w : Way) (i : ℕ) → i < length (held (chan (shown t p) n) w) →
    (get_or p (held_place (shown t p) n w i) 0 ≡ get_or (held (chan (shown t p) n) w) i 0) × Promised (shown t p) n w (held_place (shown t p) n w i / cell_size)
held_stands t p g n low high w i f =
    let a = shown t p in
    (ap (λ (l : List ℕ). get_or l (held_place a n w i) 0) g.shows.pool ∙ held_byte a n g.sound low high w i f, held_promised a n g.sound low high w i f)

-- a channel's cells end before those of a later channel begin
later : (cs : List Chan) (j k : ℕ) → j < k → promised_to (take j cs) + 2 * cells (get_or cs j closed).grant ≤ promised_to (take k cs)
unfolding promised_to closed cells
later cs j zero h = absurd (not-suc-le-zero h)
later [] zero (suc k) h = omega arith
later [] (suc j) (suc k) h = omega arith
later (c ∷ cs) zero (suc k) h = omega arith
later (c ∷ cs) (suc j) (suc k) h = let ih = later cs j k (le_of_suc-le-suc h) in omega arith

ends : (cs : List Chan) (j : ℕ) → promised_to (take j cs) + 2 * cells (get_or cs j closed).grant ≤ promised_to cs
unfolding promised_to closed cells
ends [] zero = omega arith
ends [] (suc j) = omega arith
ends (c ∷ cs) zero = omega arith
ends (c ∷ cs) (suc j) = let ih = ends cs j in omega arith

-- the cells of a way lie within those of its channel
within : (a : State) (n : ChannelNumber) (w : Way) (j : ℕ) → Promised a n w j → (promised_to (take (n.0 - 1) a.chans) ≤ j) × (j < promised_to (take (n.0 - 1) a.chans) + 2 * cells (get_or a.chans (n.0 - 1) closed).grant)
unfolding first_cell chan
within a n Receive j p = (omega (arith, p.from), omega (arith, p.upto))
within a n Send j p = (omega (arith, p.from), omega (arith, p.upto))

-- every promised cell is among the paper's sum, so among the 256
pub promised_counted : (a : State) (n : ChannelNumber) (w : Way) (j : ℕ) → Promised a n w j → j < promised a
unfolding promised
promised_counted a n w j p = let x = within a n w j p in let y = ends a.chans (n.0 - 1) in omega arith

-- no cell is promised to two channels
pub one_channel : (a : State) (n m : ChannelNumber) (v w : Way) (j : ℕ) → Promised a n v j → Promised a m w j → n.0 - 1 ≡ m.0 - 1
one_channel a n m v w j p q = by (ltb (n.0 - 1) (m.0 - 1)) (ltb (m.0 - 1) (n.0 - 1)) refl refl
  where
    by : (b c : Bool) → ltb (n.0 - 1) (m.0 - 1) ≡ b → ltb (m.0 - 1) (n.0 - 1) ≡ c → n.0 - 1 ≡ m.0 - 1
    by true c e f =
        let x = within a n v j p in
        let y = within a m w j q in
        let z = later a.chans (n.0 - 1) (m.0 - 1) (ltb-true (n.0 - 1) (m.0 - 1) e) in
        absurd (omega arith)
    by false true e f =
        let x = within a n v j p in
        let y = within a m w j q in
        let z = later a.chans (m.0 - 1) (n.0 - 1) (ltb-true (m.0 - 1) (n.0 - 1) f) in
        absurd (omega arith)
    by false false e f =
        let x = ltb-false (n.0 - 1) (m.0 - 1) e in
        let y = ltb-false (m.0 - 1) (n.0 - 1) f in
        omega arith
