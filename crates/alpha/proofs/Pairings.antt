-- The pairs of 80: its bytes two by two, and an odd byte over.
-- Assumes nothing.
use Prim.Native.Nat.{ℕ, suc, ◌+◌, ◌*◌, ◌/◌}
use mathlib.Core.Path.{◌≡◌, refl, sym, ap, ◌∙◌}
use mathlib.Core.Bool.{true, false, false≢true}
use mathlib.Core.List.{List, [], ◌∷◌, map}
use native.Mathlib.Omega.{arith}
use lib.ListN.{length, drop}
use lib.Dec.{eqb}
use borrow.Author.Tests.{eq-eqb, ne_eqb, eqb-true, eqb-false}
use Rattle.std.specs.Simd.{first_chunks}
use Rattle.rules.specs.Checks.{every}
use Rattle.rules.proofs.Laws.{stop, skip}
use Rattle.alpha.specs.Reads.{units, malformed, follow, padding, pairs}
use Rattle.alpha.specs.Bodies.{pair_unit}
use Rattle.alpha.proofs.Scans.{and_true}

-- two bytes more are one pair more
half : (s : List ℕ) (b c : ℕ) → (length (b ∷ c ∷ s) / 2 ≡ suc (length s / 2)) × (length (b ∷ c ∷ s) / 2 * 2 ≡ suc (suc (length s / 2 * 2)))
half s b c = let h : suc (suc (length s)) / 2 ≡ suc (length s / 2) = omega arith in (h, omega arith)

chunks_more : (s : List ℕ) (b c : ℕ) → map pair_unit (first_chunks 2 (length (b ∷ c ∷ s) / 2) (b ∷ c ∷ s)) ≡ (256 * b + c) ∷ map pair_unit (first_chunks 2 (length s / 2) s)
unfolding pair_unit
chunks_more s b c = ap (λ (k : ℕ). map pair_unit (first_chunks 2 k (b ∷ c ∷ s))) (half s b c).0

over_more : (s : List ℕ) (b c : ℕ) → drop (length (b ∷ c ∷ s) / 2 * 2) (b ∷ c ∷ s) ≡ drop (length s / 2 * 2) s
over_more s b c = ap (λ (k : ℕ). drop k (b ∷ c ∷ s)) (half s b c).1

-- the bytes over are padding, or the value is malformed
pub pairs_padded : (s : List ℕ) → every (eqb padding) (drop (length s / 2 * 2) s) ≡ true → pairs s ≡ units (map pair_unit (first_chunks 2 (length s / 2) s))
unfolding pairs every follow
pairs_padded [] e = refl
pairs_padded (b ∷ []) e = stop _ _ _ (eq-eqb b padding (sym (eqb-true padding b (sym (and_true (eqb padding b)) ∙ e))))
pairs_padded (b ∷ c ∷ s) e =
    ap (follow (256 * b + c)) (pairs_padded s (ap (every (eqb padding)) (sym (over_more s b c)) ∙ e)) ∙ ap units (sym (chunks_more s b c))

pub pairs_ill : (s : List ℕ) → every (eqb padding) (drop (length s / 2 * 2) s) ≡ false → pairs s ≡ malformed
unfolding pairs every follow
pairs_ill [] e = absurd (false≢true (sym e))
pairs_ill (b ∷ []) e = skip _ _ _ (ne_eqb b padding (λ p. eqb-false padding b (sym (and_true (eqb padding b)) ∙ e) (sym p)))
pairs_ill (b ∷ c ∷ s) e = ap (follow (256 * b + c)) (pairs_ill s (ap (every (eqb padding)) (sym (over_more s b c)) ∙ e))
