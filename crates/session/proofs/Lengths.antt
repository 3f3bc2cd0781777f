-- The lengths of datagrams in the ledger: where they stand, how they are counted, and how one comes and goes.
-- Assumes nothing.
use Prim.Native.Nat.{ℕ, zero, suc, ◌+◌, ◌-◌, ◌≤◌, ◌<◌}
use mathlib.Core.Path.{◌≡◌, refl, sym, ap, ◌∙◌}
use mathlib.Core.List.{List, [], ◌∷◌, ◌++◌, append_assoc}
use native.Mathlib.Omega.{arith}
use lib.Dec.{ltb, eqb}
use borrow.Rule.Slice.PartMut.{put_mid, mid_of}
use Rattle.std.specs.Prelude.{Bool, true, false}
use lib.ListN.{length, take, drop, get_or, set, replicate, length-take, length-drop, length-append}
use lib.Seq.{paste, paste-suc, drop-paste, get_or-drop, drop-cons, set_at, drop-drop, length-take-le}
use borrow.Author.Tests.{lt-ltb, le-ltb, ltb-true, ltb-false, eqb-true, eqb-false}
use Rattle.rules.specs.Checks.{◌⇒◌else◌}
use Rattle.rules.specs.Datagrams.{place_count}
use Rattle.rules.specs.declared.Way.{Way}
use Rattle.rules.specs.declared.Way.TheVariants.{Receive, Send}
use Rattle.rules.specs.declared.ChannelNumber.{ChannelNumber}
use Rattle.rules.proofs.Laws.{stop, skip}
use Rattle.octets.specs.Parts.{part, pasted}
use Rattle.session.specs.Book.{ledger_size, lengths_at, lengths_from, lengths_in, with_length, less_length}

-- they stand within the ledger
pub lengths_fit : (n : ChannelNumber) (w : Way) → n.0 ≤ 7 → lengths_at n w + place_count ≤ ledger_size
lengths_fit n Receive h = omega arith
lengths_fit n Send h = omega arith

-- a number before their end is not 0
lengths_some : (k : ℕ) (t : List ℕ) (i : ℕ) → i < length (lengths_from k t) → get_or t i 0 ≡ 0 → ⊥
unfolding lengths_from ◌⇒◌else◌
lengths_some zero t i h e = omega arith
lengths_some (suc k) [] i h e = omega arith
lengths_some (suc k) (x ∷ t) i h e = by (eqb x 0) refl (lengths_from k t) (lengths_some k t) i h e
  where
    by :
        (b : Bool) → eqb x 0 ≡ b → (ls : List ℕ) → ((j : ℕ) → j < length ls → get_or t j 0 ≡ 0 → ⊥) →
        (j : ℕ) → j < length (b ⇒ [] else x ∷ ls) → get_or (x ∷ t) j 0 ≡ 0 → ⊥
    by true q ls f j h e = omega arith
    by false q ls f zero h e = eqb-false x 0 q e
    by false q ls f (suc j) h e = f j (omega arith) e

-- and that at it is, where there is a place for one more
lengths_end : (k : ℕ) (t : List ℕ) → length (lengths_from k t) < k → get_or t (length (lengths_from k t)) 0 ≡ 0
unfolding lengths_from ◌⇒◌else◌
lengths_end zero t h = absurd (omega arith)
lengths_end (suc k) [] h = refl
lengths_end (suc k) (x ∷ t) h = by (eqb x 0) refl (lengths_from k t) (lengths_end k t) h
  where
    by :
        (b : Bool) → eqb x 0 ≡ b → (ls : List ℕ) → (length ls < k → get_or t (length ls) 0 ≡ 0) →
        length (b ⇒ [] else x ∷ ls) < suc k → get_or (x ∷ t) (length (b ⇒ [] else x ∷ ls)) 0 ≡ 0
    by true q ls f h = eqb-true x 0 q
    by false q ls f h = f (omega arith)

-- so the search for it stops there and nowhere else
module _ (t : List ℕ) (n : ChannelNumber) (w : Way) (at i : ℕ) (a : at ≡ lengths_at n w) (le : i ≤ length (lengths_in t n w)) where
  here : get_or t (at + i) 0 ≡ get_or (drop (lengths_at n w) t) i 0
  here = (λ j. get_or t (a j + i) 0) ∙ sym (get_or-drop (lengths_at n w) t i 0)

  pub search_more : length (lengths_in t n w) + 1 ≤ place_count → (get_or t (at + i) 0 ≡ 0 → ⊥) → i + 1 ≤ length (lengths_in t n w)
  search_more m f = by (ltb i (length (lengths_in t n w))) refl
    where
      by : (b : Bool) → ltb i (length (lengths_in t n w)) ≡ b → i + 1 ≤ length (lengths_in t n w)
      by true q = omega (arith, ltb-true i (length (lengths_in t n w)) q)
      by false q =
          let e : i ≡ length (lengths_in t n w) = omega (arith, ltb-false i (length (lengths_in t n w)) q) in
          absurd (f (here ∙ ap (λ (j : ℕ). get_or (drop (lengths_at n w) t) j 0) e ∙ lengths_end place_count (drop (lengths_at n w) t) (omega arith)))

  pub search_end : get_or t (at + i) 0 ≡ 0 → i ≡ length (lengths_in t n w)
  search_end f = by (ltb i (length (lengths_in t n w))) refl
    where
      by : (b : Bool) → ltb i (length (lengths_in t n w)) ≡ b → i ≡ length (lengths_in t n w)
      by true q = absurd (lengths_some place_count (drop (lengths_at n w) t) i (ltb-true i (length (lengths_in t n w)) q) (sym here ∙ f))
      by false q = omega (arith, ltb-false i (length (lengths_in t n w)) q)

-- no bytes make no datagram
pub length_none : (t : List ℕ) (n : ChannelNumber) (w : Way) (k : ℕ) → k ≡ 0 → t ≡ with_length t n w k
unfolding with_length
length_none t n w zero h = refl
length_none t n w (suc k) h = absurd (omega arith)

-- some make one, at the first place that is free
length_one : (t : List ℕ) (n : ChannelNumber) (w : Way) (k : ℕ) → (k ≡ 0 → ⊥) → set t (lengths_at n w + length (lengths_in t n w)) k ≡ with_length t n w k
unfolding with_length
length_one t n w zero h = absurd (h refl)
length_one t n w (suc k) h = refl

module _ (t : List ℕ) (n : ChannelNumber) (w : Way) (at i k : ℕ) (a : at ≡ lengths_at n w) (e : i ≡ length (lengths_in t n w)) (h : k ≡ 0 → ⊥) where
  -- one more is put there
  pub length_put : set t (at + i) k ≡ with_length t n w k
  length_put = (λ j. set t (a j + e j) k) ∙ length_one t n w k h

-- zeros over the lengths of both ways
pub zeros_put :
    (t d : List ℕ) (n : ChannelNumber) (at : ℕ) → at ≡ lengths_at n Receive → n.0 ≤ 7 → length t ≡ ledger_size →
    d ≡ replicate (length (mid_of at (at + 32 - at) t)) 0 → put_mid at (at + 32 - at) t d ≡ pasted t (lengths_at n Receive) (replicate 32 0)
unfolding pasted
zeros_put t d n at a h l e =
    let k : at + 32 - at ≡ 32 = omega arith in
    let m : length (mid_of at (at + 32 - at) t) ≡ 32 = simp (length-take, length-drop) (omega (arith, lengths_fit n Send h)) in
    (λ i. take at t ++ (e i ++ drop (k i) (drop at t))) ∙ (λ i. take (a i) t ++ (replicate (m i) 0 ++ drop-drop 32 (a i) t i))

-- the lengths behind the first move to the front, one by one
pub shift_more :
    (t d : List ℕ) (at i : ℕ) → d ≡ paste t at (drop (at + 1) t) (i - at) → at ≤ i → i + 1 < length t →
    set d i (get_or d (i + 1) 0) ≡ paste t at (drop (at + 1) t) (i + 1 - at)
shift_more t d at i e l h =
    let s = drop (at + 1) t in
    let m = i - at in
    let place : i ≡ at + m = omega arith in
    let next : i + 1 ≡ at + m + 1 = omega arith in
    let same : at + m + 1 ≡ at + 1 + m = omega arith in
    let more : suc m ≡ i + 1 - at = omega arith in
    let size = length-drop (at + 1) t in
    let value : get_or (paste t at s m) (at + m + 1) 0 ≡ get_or s m 0 =
    sym (get_or-drop (at + m) (paste t at s m) 1 0) ∙ ap (λ (u : List ℕ). get_or u 1 0) (drop-paste t at s m (omega arith) (omega arith))
    ∙ get_or-drop (at + m) t 1 0 ∙ ap (λ (k : ℕ). get_or t k 0) same ∙ sym (get_or-drop (at + 1) t m 0)
    in
    (λ j. set (e j) (place j) (get_or (e j) (next j) 0)) ∙ ap (λ (x : ℕ). set (paste t at s m) (at + m) x) value
    ∙ paste-suc t at s m 0 (omega arith) (omega arith) ∙ ap (λ (k : ℕ). paste t at s k) more

-- and a 0 stands behind them
pub shifted :
    (t d : List ℕ) (at n : ℕ) → at + place_count ≤ length t → n ≡ 15 → d ≡ paste t at (drop (at + 1) t) n →
    set d (at + place_count - 1) 0 ≡ pasted t at (part (at + 1) (at + place_count) t ++ 0 ∷ [])
unfolding pasted
shifted t d at n h q e =
    let y = part (at + 1) (at + place_count) t in
    let count : n ≡ at + place_count - (at + 1) = omega arith in
    let ly : length y ≡ 15 = simp (length-take, length-drop) (omega arith) in
    let front : length (take at t ++ y) ≡ at + place_count - 1 = simp (length-append, length-take-le at t (omega arith), ly) (omega arith) in
    let behind : at + (at + place_count - (at + 1)) ≡ at + 15 = omega arith in
    let past : suc (at + 15) ≡ at + length (y ++ 0 ∷ []) = simp (length-append, ly) (omega arith) in
    ap (λ (l : List ℕ). set l (at + place_count - 1) 0) (e ∙ ap (paste t at (drop (at + 1) t)) count)
    ∙ (λ i. set (take at t ++ y ++ drop (behind i) t) (at + place_count - 1) 0)
    ∙ ap (λ (l : List ℕ). set (take at t ++ y ++ l) (at + place_count - 1) 0) (drop-cons t (at + 15) 0 (omega arith))
    ∙ set_at (take at t ++ y) (get_or t (at + 15) 0) (drop (suc (at + 15)) t) 0 (at + place_count - 1) front
    ∙ (λ i. take at t ++ y ++ 0 ∷ drop (past i) t) ∙ append_assoc (take at t) y _ ∙ ap (λ (l : List ℕ). take at t ++ l) (sym (append_assoc y (0 ∷ []) _))

module _ (t : List ℕ) (n : ChannelNumber) (w : Way) (k at : ℕ) (a : at ≡ lengths_at n w) where
  -- the first length is fewer
  pub less_first : k < get_or t at 0 → set t at (get_or t at 0 - k) ≡ less_length t n w k
  unfolding less_length
  less_first h =
      sym (stop (ltb k (get_or t at 0)) (set t at (get_or t at 0 - k)) _ (lt-ltb k (get_or t at 0) h))
      ∙ ap (λ (b : ℕ). ltb k (get_or t b 0) ⇒ set t b (get_or t b 0 - k) else pasted t b (part (b + 1) (b + place_count) t ++ 0 ∷ [])) a

  -- or it goes, and the others move to the front
  pub less_others : get_or t at 0 ≤ k → pasted t at (part (at + 1) (at + place_count) t ++ 0 ∷ []) ≡ less_length t n w k
  unfolding less_length
  less_others h =
      sym (skip (ltb k (get_or t at 0)) (set t at (get_or t at 0 - k)) _ (le-ltb k (get_or t at 0) h))
      ∙ ap (λ (b : ℕ). ltb k (get_or t b 0) ⇒ set t b (get_or t b 0 - k) else pasted t b (part (b + 1) (b + place_count) t ++ 0 ∷ [])) a
