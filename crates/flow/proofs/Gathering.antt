-- A line gathered from a chunk: where its line feed stands, and what is kept of the bytes before it.
-- Assumes nothing.
use Prim.Native.Nat.{ℕ, min, ◌+◌, ◌-◌, ◌≤◌}
use mathlib.Core.Path.{◌≡◌, refl, sym, ap, subst, ◌∙◌}
use mathlib.Core.Bool.{Bool, true, false, cond, ◌||◌}
use mathlib.Core.List.{List, [], ◌∷◌, ◌++◌, append-nil}
use Rattle.std.specs.Prelude.{Option, Some, None}
use native.Mathlib.Omega.{arith}
use lib.ListN.{length, take, drop, length-append, length-take}
use lib.Seq.{take_all, drop-drop}
use lib.Dec.{eqb, ltb}
use borrow.Rule.Slice.PartMut.{put_mid}
use borrow.Author.Tests.{eqb-true, eqb-false, ne_eqb, ltb-false}
use Rattle.std.specs.List.{position, position_or_len}
use Rattle.std.specs.Option.{unwrap_or, option_map}
use Rattle.std.proofs.lemmas.List.{take_min}
use Rattle.std.proofs.lemmas.Bool.Decides.{nat_tests}
use Rattle.rules.specs.Checks.{◌⇒◌else◌, member, some_of}
use Rattle.rules.proofs.Laws.{skip}
use Rattle.octets.specs.Parts.{pasted}
use Rattle.flow.specs.Flow.{kept_size, before_feed, piece, fitting}

-- what is read by its first byte: that is a line feed and ends it, or another
record Ends (c : ℕ) (s : List ℕ) : Type 0 where
  none : before_feed (c ∷ s) ≡ []
  whole : member 10 (c ∷ s) ≡ true
  one : piece (c ∷ s) ≡ c ∷ []
  at : position_or_len (λ x. eqb x 10) (c ∷ s) ≡ 0

record GoesOn (c : ℕ) (s : List ℕ) : Type 0 where
  more : before_feed (c ∷ s) ≡ c ∷ before_feed s
  whole : member 10 (c ∷ s) ≡ member 10 s
  next : piece (c ∷ s) ≡ c ∷ piece s
  at : position_or_len (λ x. eqb x 10) (c ∷ s) ≡ 1 + position_or_len (λ x. eqb x 10) s

ends : (c : ℕ) (s : List ℕ) → c ≡ 10 → Ends c s
unfolding piece before_feed member some_of ◌⇒◌else◌
ends c s e = subst (λ (k : ℕ). Ends k s) (sym e) (record { none = refl; whole = refl; one = refl; at = refl })

goes_on_lem : (c : ℕ) (s : List ℕ) → (c ≡ 10 → ⊥) → GoesOn c s
unfolding piece before_feed member some_of ◌⇒◌else◌
goes_on_lem c s n =
    let e : eqb c 10 ≡ false = ne_eqb c 10 n in
    let f : eqb 10 c ≡ false = ne_eqb 10 c (λ g. n (sym g)) in
    record {
      more = λ i. e i ⇒ [] else c ∷ before_feed s;
      whole = λ i. f i || member 10 s;
      next = λ i. (e i ⇒ [] else c ∷ before_feed s) ++ (f i || member 10 s ⇒ 10 ∷ [] else []);
      at = rw e;
    }

-- what holds of a list that ends or goes on, whichever it does
by_first : (P : Type 0) (c : ℕ) (s : List ℕ) → (Ends c s → P) → (GoesOn c s → P) → P
by_first P c s f g = by (eqb c 10) refl
  where
    by : (b : Bool) → eqb c 10 ≡ b → P
    by true e = f (ends c s (eqb-true c 10 e))
    by false e = g (goes_on_lem c s (eqb-false c 10 e))

-- a piece is the front of what is there, and not empty
pub piece_front : (s : List ℕ) → take (length (piece s)) s ≡ piece s
unfolding piece before_feed member some_of ◌⇒◌else◌
piece_front [] = refl
piece_front (c ∷ s) =
    let front : List ℕ → Type 0 = λ t. take (length t) (c ∷ s) ≡ t in
    by_first (front (piece (c ∷ s))) c s (λ e. subst front (sym e.one) refl)
    (λ g. subst front (sym g.next) (ap (λ (t : List ℕ). c ∷ t) (piece_front s)))

pub piece_some : (s : List ℕ) → 1 ≤ length s → 1 ≤ length (piece s)
piece_some [] h = absurd (let z : 1 ≤ 0 = h in omega arith)
piece_some (c ∷ s) h =
    by_first (1 ≤ length (piece (c ∷ s))) c s (λ e. let k = ap length e.one in omega arith) (λ g. let k = ap length g.next in omega arith)

pub piece_few : (s : List ℕ) → length (piece s) ≤ length s
piece_few s = let e = ap length (piece_front s) in let k = length-take (length (piece s)) s in omega arith

-- the bytes before the line feed: how many they are, and that they are the front of what is there
feed_at : (s : List ℕ) → position_or_len (λ x. eqb x 10) s ≡ length (before_feed s)
unfolding before_feed
feed_at [] = refl
feed_at (c ∷ s) =
    by_first (position_or_len (λ x. eqb x 10) (c ∷ s) ≡ length (before_feed (c ∷ s))) c s (λ e. e.at ∙ sym (ap length e.none))
    (λ g. let k = ap length g.more in let l = g.at in let m = feed_at s in omega arith)

before_front : (s : List ℕ) → take (length (before_feed s)) s ≡ before_feed s
unfolding before_feed
before_front [] = refl
before_front (c ∷ s) =
    let front : List ℕ → Type 0 = λ t. take (length t) (c ∷ s) ≡ t in
    by_first (front (before_feed (c ∷ s))) c s (λ e. subst front (sym e.none) refl)
    (λ g. subst front (sym g.more) (ap (λ (t : List ℕ). c ∷ t) (before_front s)))

-- a line feed stands behind them, if there is one
feed_behind : (s : List ℕ) → ltb (length (before_feed s)) (length s) ≡ member 10 s
unfolding before_feed member some_of
feed_behind [] = refl
feed_behind (c ∷ s) =
    by_first (ltb (length (before_feed (c ∷ s))) (length (c ∷ s)) ≡ member 10 (c ∷ s)) c s
    (λ e. let k = ap length e.none in grind (arith, nat_tests, e.whole))
    (λ g. let k = ap length g.more in let h = feed_behind s in grind (arith, nat_tests, g.whole))

-- without a line feed all stands before it, and the piece is all
all_before : (s : List ℕ) → member 10 s ≡ false → s ≡ before_feed s
all_before s h =
    let k = ltb-false (length (before_feed s)) (length s) (feed_behind s ∙ h) in
    sym (take_all (length (before_feed s)) s k) ∙ before_front s

pub piece_all : (s : List ℕ) → member 10 s ≡ false → length (piece s) ≡ length s
unfolding piece
piece_all s h = ap length (ap (λ (l : List ℕ). before_feed s ++ l) (skip _ _ _ h) ∙ append-nil (before_feed s) ∙ sym (all_before s h))

-- the place that a search for the line feed gives: the bytes before it, and how many the piece has with it
module _ (s : List ℕ) (f : Option ℕ) (e : f ≡ position (λ x. eqb x 10) s) where
  found : (b : Bool) → member 10 s ≡ b → f ≡ cond b (Some (length (before_feed s))) None
  found b h = e ∙ rw (feed_at s) (ap (λ (t : Bool). cond t (Some (length (before_feed s))) None) (feed_behind s ∙ h))

  pub found_before : take (unwrap_or f (length s)) s ≡ before_feed s
  found_before = by (member 10 s) refl
    where
      by : (b : Bool) → member 10 s ≡ b → take (unwrap_or f (length s)) s ≡ before_feed s
      by true h = rw (found true h) (before_front s)
      by false h = rw (found false h) (take_all (length s) s (omega arith) ∙ all_before s h)

  pub found_taken : option_map (λ n. n + 1) f ≡ (member 10 s ⇒ Some (length (piece s)) else None)
  unfolding piece ◌⇒◌else◌
  found_taken = by (member 10 s) refl
    where
      by : (b : Bool) → member 10 s ≡ b → option_map (λ n. n + 1) f ≡ (b ⇒ Some (length (before_feed s ++ (b ⇒ 10 ∷ [] else []))) else None)
      by true h = rw (found true h) (ap (λ (k : ℕ). Some k) (sym (length-append (before_feed s) (10 ∷ []))))
      by false h = rw (found false h)

-- what is kept of them stands behind what the line has
module _ (line : List ℕ) (had : ℕ) (s part kept : List ℕ) (n : ℕ) (e : part ≡ before_feed s) (h : n ≡ min (kept_size - had) (length part)) (k : kept ≡ take n part) where
  pub kept_fitting : kept ≡ fitting had s
  unfolding fitting
  kept_fitting = k ∙ ap (λ (m : ℕ). take m part) h ∙ take_min (kept_size - had) part ∙ ap (take (kept_size - had)) e

  pub kept_size_lem : n ≡ length (fitting had s)
  kept_size_lem = let z = ap length (sym kept_fitting ∙ k) in let l = length-take n part in omega arith

  pub kept_pasted : put_mid had (had + n - had) line kept ≡ pasted line had (fitting had s)
  unfolding pasted
  kept_pasted =
      let z = kept_size_lem in
      let m : had + (had + n - had) ≡ had + length (fitting had s) = omega arith in
      (λ i. take had line ++ (kept_fitting i ++ drop-drop (had + n - had) had line i)) ∙ ap (λ (j : ℕ). take had line ++ (fitting had s ++ drop j line)) m
