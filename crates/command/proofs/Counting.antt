-- An object that may stand counts at its first place, so it is there, and has its value, among the objects that count.
-- Assumes nothing.
use Prim.Native.Nat.{ℕ, ◌≤◌}
use mathlib.Core.Path.{◌≡◌, refl, sym, ap, ◌∙◌}
use mathlib.Core.Bool.{Bool, true, false, ◌||◌, true≢false}
use mathlib.Core.List.{List, [], ◌∷◌}
use native.Mathlib.Omega.{arith}
use lib.Dec.{ltb, eqb}
use borrow.Author.Tests.{lt-ltb, eqb-true}
use Rattle.rules.specs.Checks.{occurrences, member, some_of}
use Rattle.rules.specs.Frames.{Object}
use Rattle.rules.specs.Table.{Row, Sifted, sift, times, present, value_of}
use Rattle.rules.proofs.Laws.{branch, stop, skip}

-- an object of a number is there in both lists or in none, and the first has one value
pub record Alike (n : ℕ) (xs ys : List Object) : Type 0 where
  pub there : present n xs ≡ present n ys
  pub value : value_of n xs ≡ value_of n ys

module _ (n : ℕ) (o : Object) (xs ys : List Object) where
  heads : eqb n o.number ≡ true → Alike n (o ∷ xs) (o ∷ ys)
  unfolding present member some_of value_of
  heads e =
      record {
        there = ap (λ (b : Bool). b || present n xs) e ∙ sym (ap (λ (b : Bool). b || present n ys) e);
        value = stop _ _ _ e ∙ sym (stop _ _ _ e);
      }

  behind : eqb n o.number ≡ false → Alike n xs ys → Alike n xs (o ∷ ys)
  unfolding present member some_of value_of
  behind e a = record { there = a.there ∙ sym (ap (λ (b : Bool). b || present n ys) e); value = a.value ∙ sym (skip _ _ _ e) }

  tails : eqb n o.number ≡ false → Alike n xs ys → Alike n (o ∷ xs) (o ∷ ys)
  unfolding present member some_of value_of
  tails e a =
      let w = behind e a in
      record { there = ap (λ (b : Bool). b || present n xs) e ∙ w.there; value = skip _ _ _ e ∙ w.value }

alike_from : (r : Row) (n : ℕ) (seen : List ℕ) (os : List Object) → 1 ≤ times r n → occurrences n seen ≡ 0 → Alike n (sift r seen os).counting os
unfolding sift occurrences
alike_from r n seen [] h z = record { there = refl; value = refl }
alike_from r n seen (o ∷ os) h z = by (eqb n o.number) refl (alike_from r n (o.number ∷ seen) os h)
  where
    by : (b : Bool) → eqb n o.number ≡ b →
        (occurrences n (o.number ∷ seen) ≡ 0 → Alike n (sift r (o.number ∷ seen) os).counting os) → Alike n (sift r seen (o ∷ os)).counting (o ∷ os)
    by true e ih =
        let q = ap (λ (k : ℕ). ltb (occurrences k seen) (times r k)) (sym (eqb-true n o.number e)) ∙ lt-ltb (occurrences n seen) (times r n) (omega arith) in
        branch (λ (w : Sifted). Alike n w.counting (o ∷ os)) _ _ _ (λ _. heads n o _ os e) (λ f. absurd (true≢false (sym q ∙ f)))
    by false e ih =
        let a = ih (skip _ _ _ e ∙ z) in
        branch (λ (w : Sifted). Alike n w.counting (o ∷ os)) _ _ _ (λ _. tails n o _ os e a) (λ _. behind n o _ os e a)

pub alike : (r : Row) (n : ℕ) (os : List Object) → 1 ≤ times r n → Alike n (sift r [] os).counting os
unfolding occurrences
alike r n os h = alike_from r n [] os h refl
