-- The lengths of values, number by number.
-- Assumes nothing.
use Prim.Native.Nat.{ℕ, suc, ◌+◌, ◌≤◌, ◌<◌}
use mathlib.Core.Path.{◌≡◌, refl, sym, ap, ◌∙◌}
use mathlib.Core.Logic.{inl, inr}
use mathlib.Core.Bool.{Bool, true, false}
use mathlib.Core.List.{List, [], ◌∷◌}
use native.Mathlib.Omega.{arith}
use types.Run.{OneOf}
use lib.ListN.{length, get_or}
use lib.Dec.{eqb}
use borrow.Author.Tests.{eq-eqb, ne_eqb}
use Rattle.rules.specs.Checks.{◌⇒◌else◌, is_empty}
use Rattle.rules.specs.Table.{bearer_fits, length_fits}
use Rattle.rules.proofs.Laws.{stop, skip}
use Rattle.octets.specs.Parts.{part}
use Rattle.octets.proofs.Copies.{part_get}
use Rattle.command.proofs.Keys.{arm}

-- no bytes, or some
pub empty : (l : List ℕ) → length l ≡ 0 → is_empty l ≡ true
unfolding is_empty
empty [] e = refl
empty (x ∷ l) e = absurd (let z : suc (length l) ≡ 0 = e in omega arith)

pub filled : (l : List ℕ) → (length l ≡ 0 → ⊥) → is_empty l ≡ false
unfolding is_empty
filled [] h = absurd (h refl)
filled (x ∷ l) h = refl

-- the bytes of a part
pub part_first : (s : List ℕ) (start n : ℕ) → 1 ≤ n → get_or (part start (start + n) s) 0 0 ≡ get_or s start 0
part_first s start n h =
    let e : start + 0 ≡ start = omega arith in
    part_get start (start + n) 0 s (omega arith) ∙ ap (λ (k : ℕ). get_or s k 0) e

pub part_at : (s : List ℕ) (start n k : ℕ) → k + 1 ≤ n → get_or (part start (start + n) s) k 0 ≡ get_or s (start + k) 0
part_at s start n k h = part_get start (start + n) k s (omega arith)

-- the value of a bearer
module _ (v : List ℕ) where
  pub bearer_none : length v < 1 → false ≡ bearer_fits v
  unfolding bearer_fits
  bearer_none h = sym (stop _ _ _ (empty v (omega arith)))

  module _ (h : 1 ≤ length v) where
    some_bytes : is_empty v ≡ false
    some_bytes = filled v (omega arith)

    pub bearer_two : get_or v 0 0 ≡ 0x02 → eqb (length v) 7 ≡ bearer_fits v
    unfolding bearer_fits
    bearer_two e = sym (skip _ _ _ some_bytes ∙ stop _ _ _ (eq-eqb (get_or v 0 0) 0x02 e))

    pub bearer_three : get_or v 0 0 ≡ 0x03 → eqb (length v) 1 ≡ bearer_fits v
    unfolding bearer_fits
    bearer_three e = sym (skip _ _ _ some_bytes ∙ skip _ _ _ (ne_eqb (get_or v 0 0) 0x02 (omega arith)) ∙ stop _ _ _ (eq-eqb (get_or v 0 0) 0x03 e))

    pub bearer_any : (get_or v 0 0 ≡ 0x02 → ⊥) → (get_or v 0 0 ≡ 0x03 → ⊥) → true ≡ bearer_fits v
    unfolding bearer_fits
    bearer_any m n = sym (skip _ _ _ some_bytes ∙ skip _ _ _ (ne_eqb (get_or v 0 0) 0x02 m) ∙ skip _ _ _ (ne_eqb (get_or v 0 0) 0x03 n))

-- the value of an object, by its number
module _ (v : List ℕ) (t : ℕ) where
  abbrev fits : ℕ → Bool
  fits k = length_fits k v

  pub fits_three : OneOf (0x01 ∷ 0x25 ∷ 0x3C ∷ []) t → eqb (length v) 3 ≡ length_fits t v
  unfolding length_fits ◌⇒◌else◌
  fits_three = arm fits (eqb (length v) 3) (0x01 ∷ 0x25 ∷ 0x3C ∷ []) t (refl, (refl, (refl, tt)))

  pub fits_two : OneOf (0x02 ∷ 0x04 ∷ 0x1E ∷ 0x39 ∷ []) t → eqb (length v) 2 ≡ length_fits t v
  unfolding length_fits ◌⇒◌else◌
  fits_two = arm fits (eqb (length v) 2) (0x02 ∷ 0x04 ∷ 0x1E ∷ 0x39 ∷ []) t (refl, (refl, (refl, (refl, tt))))

  pub fits_one : OneOf (0x24 ∷ 0x37 ∷ []) t → eqb (length v) 1 ≡ length_fits t v
  unfolding length_fits ◌⇒◌else◌
  fits_one = arm fits (eqb (length v) 1) (0x24 ∷ 0x37 ∷ []) t (refl, (refl, tt))

  pub fits_bearer : t ≡ 0x35 → bearer_fits v ≡ length_fits t v
  unfolding length_fits ◌⇒◌else◌
  fits_bearer = arm fits (bearer_fits v) (0x35 ∷ []) t (refl, tt)

  pub fits_any :
      (((Unit {0} × (OneOf (0x01 ∷ 0x25 ∷ 0x3C ∷ []) t → ⊥)) × (OneOf (0x02 ∷ 0x04 ∷ 0x1E ∷ 0x39 ∷ []) t → ⊥)) × (OneOf (0x24 ∷ 0x37 ∷ []) t → ⊥)) × (t ≡ 0x35 → ⊥) →
      true ≡ length_fits t v
  unfolding length_fits ◌⇒◌else◌
  fits_any o =
      let three = o.0.0.0.1 in
      let two = o.0.0.1 in
      simp (
        ne_eqb t 0x01 (λ e. three (inl e)),
        ne_eqb t 0x25 (λ e. three (inr (inl e))),
        ne_eqb t 0x3C (λ e. three (inr (inr e))),
        ne_eqb t 0x02 (λ e. two (inl e)),
        ne_eqb t 0x04 (λ e. two (inr (inl e))),
        ne_eqb t 0x1E (λ e. two (inr (inr (inl e)))),
        ne_eqb t 0x39 (λ e. two (inr (inr (inr e)))),
        ne_eqb t 0x24 (λ e. o.0.1 (inl e)),
        ne_eqb t 0x37 (λ e. o.0.1 (inr e)),
        ne_eqb t 0x35 o.1,
      )
