-- The places of a way: its lengths and zeros behind them, read back, one more, and fewer bytes from the first.
-- Assumes nothing.
use Prim.Native.Nat.{ℕ, zero, suc, ◌+◌, ◌-◌, ◌≤◌, ◌<◌}
use mathlib.Core.Path.{◌≡◌, refl, sym, ap, ◌∙◌}
use mathlib.Core.Bool.{Bool, true, false}
use mathlib.Core.List.{List, [], ◌∷◌, ◌++◌, append_assoc}
use native.Mathlib.Omega.{arith}
use lib.ListN.{length, take, drop, get_or, set, replicate, length-append, length-take, length-replicate, replicate-append-replicate, get_or-replicate, get_or-append}
use lib.Seq.{take-append-add, set-append_seam, get_or-append-add}
use lib.Dec.{ltb, leb}
use borrow.Author.Tests.{ne_eqb, le-ltb, lt-ltb, leb-true, leb-false}
use Rattle.std.proofs.lemmas.List.{take-replicate}
use Rattle.rules.specs.Checks.{◌⇒◌else◌}
use Rattle.rules.specs.Datagrams.{place_count, another, lessened}
use Rattle.rules.proofs.Laws.{stop, skip}
use Rattle.rules.proofs.Datagrams.{Some, first}
use Rattle.session.specs.Book.{lengths_from, places}

pub places_size : (ls : List ℕ) → length (places ls) ≡ place_count
unfolding places
places_size ls =
    let e = length-take place_count (ls ++ replicate place_count 0) in
    let f = length-append ls (replicate place_count 0) in
    let g = length-replicate {A = ℕ} place_count 0 in
    omega arith

-- lengths that fit have zeros behind them
places_are : (ls : List ℕ) → length ls ≤ place_count → places ls ≡ ls ++ replicate (place_count - length ls) 0
unfolding places
places_are ls h =
    let e : place_count ≡ length ls + (place_count - length ls) = omega arith in
    ap (λ (k : ℕ). take k (ls ++ replicate place_count 0)) e ∙ take-append-add ls (replicate place_count 0) (place_count - length ls)
    ∙ ap (λ (l : List ℕ). ls ++ l) (take-replicate (place_count - length ls) place_count 0 (omega arith))

-- lengths that have bytes are read back
lengths_read : (n : ℕ) (ls : List ℕ) (m : ℕ) (y : List ℕ) → n ≡ length ls + m → Some ls → lengths_from n (ls ++ (replicate m 0 ++ y)) ≡ ls
unfolding lengths_from
lengths_read zero [] m y e h = refl
lengths_read zero (x ∷ ls) m y e h = absurd (omega arith)
lengths_read (suc n) [] zero y e h = absurd (omega arith)
lengths_read (suc n) [] (suc m) y e h = stop _ _ _ refl
lengths_read (suc n) (x ∷ ls) m y e h =
    skip _ _ _ (ne_eqb x 0 (omega (arith, h.0))) ∙ ap (λ (l : List ℕ). x ∷ l) (lengths_read n ls m y (omega arith) h.1)

pub places_read : (ls y : List ℕ) → Some ls → length ls ≤ place_count → lengths_from place_count (places ls ++ y) ≡ ls
places_read ls y h f =
    let m = place_count - length ls in
    ap (λ (l : List ℕ). lengths_from place_count (l ++ y)) (places_are ls f) ∙ ap (lengths_from place_count) (append_assoc ls (replicate m 0) y)
    ∙ lengths_read place_count ls m y (omega arith) h

-- one length more at the first free place
pub places_more : (ls : List ℕ) (k : ℕ) → length ls < place_count → set (places ls) (length ls) (suc k) ≡ places (another ls (suc k))
unfolding another
places_more ls k h =
    let m = place_count - suc (length ls) in
    let e : place_count - length ls ≡ suc m = omega arith in
    let s = length-append ls (suc k ∷ []) in
    let f : m ≡ place_count - length (ls ++ suc k ∷ []) = omega arith in
    ap (λ (l : List ℕ). set l (length ls) (suc k)) (places_are ls (omega arith) ∙ ap (λ (j : ℕ). ls ++ replicate j 0) e)
    ∙ set-append_seam ls 0 (replicate m 0) (suc k) ∙ sym (append_assoc ls (suc k ∷ []) (replicate m 0))
    ∙ ap (λ (j : ℕ). (ls ++ suc k ∷ []) ++ replicate j 0) f ∙ sym (places_are (ls ++ suc k ∷ []) (omega arith))

-- fewer bytes from the first: it becomes shorter, or the others move to the front
moved_front : (x : ℕ) (ls : List ℕ) → length (x ∷ ls) ≤ place_count → drop 1 (places (x ∷ ls)) ++ 0 ∷ [] ≡ places ls
moved_front x ls h =
    let m = place_count - length (x ∷ ls) in
    let e : m + 1 ≡ place_count - length ls = omega arith in
    ap (λ (l : List ℕ). drop 1 l ++ 0 ∷ []) (places_are (x ∷ ls) h) ∙ append_assoc ls (replicate m 0) (0 ∷ [])
    ∙ ap (λ (l : List ℕ). ls ++ l) (replicate-append-replicate m 1 0 ∙ ap (λ (j : ℕ). replicate j 0) e) ∙ sym (places_are ls (omega arith))

pub places_less :
    (ls : List ℕ) (k : ℕ) → length ls ≤ place_count →
    (ltb k (get_or (places ls) 0 0) ⇒ set (places ls) 0 (get_or (places ls) 0 0 - k) else drop 1 (places ls) ++ 0 ∷ []) ≡ places (lessened ls k)
unfolding lessened places ◌⇒◌else◌
places_less [] k h = skip _ _ _ (le-ltb k 0 (omega arith))
places_less (x ∷ ls) k h = by (ltb k x) (moved_front x ls h)
  where
    by : (b : Bool) → drop 1 (places (x ∷ ls)) ++ 0 ∷ [] ≡ places ls → (b ⇒ set (places (x ∷ ls)) 0 (x - k) else drop 1 (places (x ∷ ls)) ++ 0 ∷ []) ≡ places (b ⇒ (x - k) ∷ ls else ls)
    by true e = refl
    by false e = e

-- the first length, and whether every place has one
pub places_first : (ls : List ℕ) → get_or (places ls) 0 0 ≡ first ls
unfolding places
places_first [] = refl
places_first (x ∷ ls) = refl

some_last : (ls : List ℕ) (k : ℕ) → Some ls → k < length ls → 0 < get_or ls k 0
some_last [] k h l = absurd (omega arith)
some_last (x ∷ ls) zero h l = h.0
some_last (x ∷ ls) (suc k) h l = some_last ls k h.1 (omega arith)

pub places_last : (ls : List ℕ) → Some ls → length ls ≤ place_count → ltb 0 (get_or (places ls) 15 0) ≡ leb place_count (length ls)
places_last ls h l = by (leb place_count (length ls)) refl
  where
    by : (b : Bool) → leb place_count (length ls) ≡ b → ltb 0 (get_or (places ls) 15 0) ≡ leb place_count (length ls)
    by true e =
        let f = leb-true place_count (length ls) e in
        ap (λ (t : List ℕ). ltb 0 (get_or t 15 0)) (places_are ls l)
        ∙ ap (ltb 0) (get_or-append ls (replicate (place_count - length ls) 0) 0 15 (omega arith)) ∙ lt-ltb 0 (get_or ls 15 0) (some_last ls 15 h (omega arith)) ∙ sym e
    by false e =
        let f = leb-false place_count (length ls) e in
        let q : 15 ≡ length ls + (15 - length ls) = omega arith in
        ap (λ (t : List ℕ). ltb 0 (get_or t 15 0)) (places_are ls l) ∙ ap (λ (j : ℕ). ltb 0 (get_or (ls ++ replicate (place_count - length ls) 0) j 0)) q
        ∙ ap (ltb 0) (get_or-append-add ls (replicate (place_count - length ls) 0) (15 - length ls) 0 ∙ get_or-replicate (place_count - length ls) (15 - length ls) 0 0 (omega arith)) ∙ sym e
