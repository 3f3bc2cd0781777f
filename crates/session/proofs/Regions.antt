-- The pool in parts: what stands before a channel's region, the region, and what stands behind it; and the two ways of a region.
-- Assumes nothing.
use Prim.Native.Nat.{ℕ, zero, suc, ◌+◌, ◌-◌, ◌*◌, ◌≤◌, ◌<◌}
use mathlib.Core.Path.{◌≡◌, refl, sym, ap, ◌∙◌}
use mathlib.Core.List.{List, [], ◌∷◌, ◌++◌, append_assoc}
use native.Mathlib.Omega.{arith}
use native.Mathlib.Nat.{le_of_suc-le-suc, not-suc-le-zero}
use lib.ListN.{length, take, drop, get_or, set, replicate, length-append, length-take, length-drop, length-replicate, replicate-append-replicate, take-append-drop}
use lib.Seq.{drop_at, take-append-le}
use Rattle.rules.specs.declared.ChannelNumber.{ChannelNumber}
use Rattle.rules.specs.declared.Way.{Way}
use Rattle.rules.specs.declared.Way.TheVariants.{Receive, Send}
use Rattle.rules.specs.State.{State, Chan, Queue, closed, chan, with_chan, queue, with_queue, held}
use Rattle.rules.specs.Pool.{cell_size, pool_size, cells, promised_to, promised}
use Rattle.rules.specs.Sound.{Each, SoundChan, Sound}
use Rattle.octets.specs.Parts.{part, pasted, cut_out, pad}
use Rattle.octets.proofs.Pastes.{paste_parts, cut_parts, length_pad}
use Rattle.session.specs.Picture.{space, region, regions, pool_of, offset}

abbrev zeros : ℕ → List ℕ
zeros n = replicate n 0

-- what is held fits the space of the grant
pub held_space : (g n : ℕ) → n ≤ g → n ≤ space g
unfolding space cells
held_space g n h = omega arith

-- a way: what is held, padded to its space, between two other parts
module _ (x l w : List ℕ) (at n : ℕ) (e : length x ≡ at) where
  -- bytes put behind what is held
  pub way_put : (s : List ℕ) → length l + length s ≤ n → pasted (x ++ (pad n l ++ w)) (at + length l) s ≡ x ++ (pad n (l ++ s) ++ w)
  unfolding pad
  way_put s h =
      let ls = length-append l s in
      let lx = length-append x l in
      let m : length s + (n - length (l ++ s)) ≡ n - length l = omega arith in
      let z : zeros (length s) ++ zeros (n - length (l ++ s)) ≡ zeros (n - length l) =
      replicate-append-replicate (length s) (n - length (l ++ s)) 0 ∙ ap zeros m in
      ap (λ (r : List ℕ). pasted (x ++ (l ++ r ++ w)) (at + length l) s) (sym z)
      ∙ ap (λ (r : List ℕ). pasted r (at + length l) s)
      (ap (λ (r : List ℕ). x ++ r) (append_assoc l (zeros (length s) ++ zeros (n - length (l ++ s))) w ∙ ap (λ (r : List ℕ). l ++ r) (append_assoc (zeros (length s)) (zeros (n - length (l ++ s))) w))
      ∙ sym (append_assoc x l (zeros (length s) ++ (zeros (n - length (l ++ s)) ++ w))))
      ∙ paste_parts (x ++ l) (zeros (length s)) s (zeros (n - length (l ++ s)) ++ w) (at + length l) (omega arith) (length-replicate (length s) 0)
      ∙ append_assoc x l (s ++ (zeros (n - length (l ++ s)) ++ w))
      ∙ ap (λ (r : List ℕ). x ++ r)
      (ap (λ (r : List ℕ). l ++ r) (sym (append_assoc s (zeros (n - length (l ++ s))) w))
      ∙ sym (append_assoc l (s ++ zeros (n - length (l ++ s))) w) ∙ ap (λ (r : List ℕ). r ++ w) (sym (append_assoc l s (zeros (n - length (l ++ s))))))

  -- the first k bytes held cut out
  pub way_cut : (k : ℕ) → k ≤ length l → length l ≤ n → cut_out (x ++ (pad n l ++ w)) at k (at + length l) ≡ x ++ (pad n (drop k l) ++ w)
  unfolding pad
  way_cut k h f =
      let lt : length (take k l) ≡ k = simp length-take (omega arith) in
      let ld : length (drop k l) ≡ length l - k = simp length-drop (omega arith) in
      let m : k + (n - length l) ≡ n - length (drop k l) = omega arith in
      let z : zeros k ++ zeros (n - length l) ≡ zeros (n - length (drop k l)) =
      replicate-append-replicate k (n - length l) 0 ∙ ap zeros m in
      ap (λ (r : List ℕ). cut_out (x ++ r) at k (at + length l))
      (append_assoc l (zeros (n - length l)) w ∙ ap (λ (r : List ℕ). r ++ (zeros (n - length l) ++ w)) (sym (take-append-drop k l))
      ∙ append_assoc (take k l) (drop k l) (zeros (n - length l) ++ w))
      ∙ cut_parts x (take k l) (drop k l) (zeros (n - length l) ++ w) at k (at + length l) e lt (omega arith)
      ∙ ap (λ (r : List ℕ). x ++ r)
      (ap (λ (r : List ℕ). drop k l ++ r) (sym (append_assoc (zeros k) (zeros (n - length l)) w) ∙ ap (λ (r : List ℕ). r ++ w) z)
      ∙ sym (append_assoc (drop k l) (zeros (n - length (drop k l))) w))

  -- the first bytes held are read from the front
  pub way_part : (k : ℕ) → k ≤ length l → part at (at + k) (x ++ (pad n l ++ w)) ≡ take k l
  unfolding pad
  way_part k f =
      let c : at + k - at ≡ k = omega arith in
      ap (λ (j : ℕ). take j (drop at (x ++ (l ++ zeros (n - length l) ++ w)))) c
      ∙ ap (λ (r : List ℕ). take k r) (drop_at x (l ++ zeros (n - length l) ++ w) at e ∙ append_assoc l (zeros (n - length l)) w)
      ∙ take-append-le k l (zeros (n - length l) ++ w) f

-- neither way holds more than the grant
abbrev pub Fits : Chan → Type 0
Fits c = (w : Way) → length (held c w) ≤ c.grant

pub length_way : (c : Chan) → Fits c → (w : Way) → length (pad (space c.grant) (held c w)) ≡ space c.grant
length_way c h w = length_pad (space c.grant) (held c w) (held_space c.grant (length (held c w)) (h w))

-- a channel's region has the bytes of its cells
pub length_region : (c : Chan) → Fits c → length (region c) ≡ 2 * space c.grant
unfolding region
length_region c h =
    let r = length_way c h Receive in
    let s = length_way c h Send in
    simp length-append (omega arith)

pub length_regions : (cs : List Chan) → Each SoundChan cs → length (regions cs) ≡ cell_size * promised_to cs
unfolding regions promised_to space
length_regions [] h = refl
length_regions (c ∷ cs) h =
    let r : length (region c) ≡ 2 * (cell_size * cells c.grant) = length_region c h.0.fits in
    let ih = length_regions cs h.1 in
    simp length-append (omega arith)

-- the regions, split at a channel; and with another channel in its place
pub regions_split : (cs : List Chan) (k : ℕ) → k < length cs → regions cs ≡ regions (take k cs) ++ (region (get_or cs k closed) ++ regions (drop (suc k) cs))
unfolding regions
regions_split [] k h = absurd (not-suc-le-zero h)
regions_split (c ∷ cs) zero h = refl
regions_split (c ∷ cs) (suc k) h =
    ap (λ (r : List ℕ). region c ++ r) (regions_split cs k (le_of_suc-le-suc h))
    ∙ sym (append_assoc (region c) (regions (take k cs)) (region (get_or cs k closed) ++ regions (drop (suc k) cs)))

pub regions_set : (cs : List Chan) (k : ℕ) (c : Chan) → k < length cs → regions (set cs k c) ≡ regions (take k cs) ++ (region c ++ regions (drop (suc k) cs))
unfolding regions
regions_set [] k x h = absurd (not-suc-le-zero h)
regions_set (c ∷ cs) zero x h = refl
regions_set (c ∷ cs) (suc k) x h =
    ap (λ (r : List ℕ). region c ++ r) (regions_set cs k x (le_of_suc-le-suc h))
    ∙ sym (append_assoc (region c) (regions (take k cs)) (region x ++ regions (drop (suc k) cs)))

-- the pool of a sound state, in parts around the channel of a number
module _ (a : State) (n : ChannelNumber) (h : Sound a) (place : n.0 - 1 < length a.chans) where
  abbrev pub front : List ℕ
  front = regions (take (n.0 - 1) a.chans)

  abbrev pub rest : List ℕ
  rest = regions (drop (suc (n.0 - 1)) a.chans)

  abbrev pub used : ℕ
  used = length (regions a.chans)

  pub used_fits : used ≤ pool_size
  unfolding promised
  used_fits = let e = length_regions a.chans h.each in omega (arith, h.within)

  pub used_parts : used ≡ length front + (length (region (chan a n)) + length rest)
  unfolding chan
  used_parts =
      ap length (regions_split a.chans (n.0 - 1) place)
      ∙ length-append front (region (get_or a.chans (n.0 - 1) closed) ++ rest)
      ∙ ap (λ (m : ℕ). length front + m) (length-append (region (get_or a.chans (n.0 - 1) closed)) rest)

  pub pool_split : pool_of a ≡ front ++ (region (chan a n) ++ (rest ++ zeros (pool_size - used)))
  unfolding pool_of pad chan
  pool_split =
      ap (λ (r : List ℕ). r ++ zeros (pool_size - used)) (regions_split a.chans (n.0 - 1) place)
      ∙ append_assoc front (region (chan a n) ++ rest) (zeros (pool_size - used))
      ∙ ap (λ (r : List ℕ). front ++ r) (append_assoc (region (chan a n)) rest (zeros (pool_size - used)))

  -- with another channel in its place
  pub pool_with :
      (c : Chan) (m : ℕ) → length front + (length (region c) + length rest) ≡ m →
      pool_of (with_chan a n c) ≡ front ++ (region c ++ (rest ++ zeros (pool_size - m)))
  unfolding pool_of pad with_chan
  pool_with c m e =
      let s = regions_set a.chans (n.0 - 1) c place in
      let l : length (regions (set a.chans (n.0 - 1) c)) ≡ m =
      ap length s ∙ length-append front (region c ++ rest) ∙ ap (λ (k : ℕ). length front + k) (length-append (region c) rest) ∙ e in
      ap (λ (r : List ℕ). r ++ zeros (pool_size - length (regions (set a.chans (n.0 - 1) c)))) s
      ∙ ap (λ (k : ℕ). front ++ (region c ++ rest) ++ zeros (pool_size - k)) l
      ∙ append_assoc front (region c ++ rest) (zeros (pool_size - m))
      ∙ ap (λ (r : List ℕ). front ++ r) (append_assoc (region c) rest (zeros (pool_size - m)))

  -- with one of the same grant
  pub pool_same :
      (c : Chan) → Fits (chan a n) → Fits c → c.grant ≡ (chan a n).grant →
      pool_of (with_chan a n c) ≡ front ++ (region c ++ (rest ++ zeros (pool_size - used)))
  pool_same c ho hc e =
      let lo = length_region (chan a n) ho in
      let lc = length_region c hc in
      let s = ap space e in
      let u = used_parts in
      pool_with c used (omega arith)

-- a region between two other parts: what stands before and behind each of its ways
module _ (c : Chan) (x b : List ℕ) where
  abbrev sp : ℕ
  sp = space c.grant

  abbrev pub before : Way → List ℕ
  before Receive = x
  before Send = x ++ pad sp (held c Receive)

  abbrev pub behind : Way → List ℕ
  behind Receive = pad sp (held c Send) ++ b
  behind Send = b

  -- whatever a way holds
  pub ways : (w : Way) (q : Queue) → x ++ (region (with_queue c w q) ++ b) ≡ before w ++ (pad sp q.bytes ++ behind w)
  unfolding region with_queue queue
  ways Receive q = ap (λ (l : List ℕ). x ++ l) (append_assoc (pad sp q.bytes) (pad sp (held c Send)) b)
  ways Send q =
      ap (λ (l : List ℕ). x ++ l) (append_assoc (pad sp (held c Receive)) (pad sp q.bytes) b)
      ∙ sym (append_assoc x (pad sp (held c Receive)) (pad sp q.bytes ++ b))

  pub way_before : (w : Way) (at : ℕ) → Fits c → length x ≡ at → length (before w) ≡ at + offset c.grant w
  unfolding offset
  way_before Receive at h e = omega arith
  way_before Send at h e = let r = length_way c h Receive in simp length-append (omega arith)

-- a channel with the queue that it has
pub same_queue : (c : Chan) (w : Way) → with_queue c w (queue c w) ≡ c
unfolding with_queue queue
same_queue c Receive = refl
same_queue c Send = refl
