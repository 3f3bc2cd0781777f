-- What gathered bytes are, case by case, as the code finds it.
-- Assumes nothing.
use Prim.Native.Nat.{ℕ, ◌+◌, ◌-◌, ◌≤◌, ◌<◌}
use mathlib.Core.Path.{◌≡◌, refl, sym, ap, ◌∙◌}
use mathlib.Core.Bool.{Bool, true, false, not, ◌&&◌}
use mathlib.Core.List.{List, [], ◌∷◌}
use native.Mathlib.Omega.{arith}
use lib.ListN.{length, get_or, drop, length-drop}
use lib.Dec.{eqb}
use borrow.Author.Tests.{lt-ltb, le-ltb, eq-eqb, ne_eqb}
use Rattle.rules.specs.declared.Stage.TheVariants.{Lacks, Overlong, Decided}
use Rattle.rules.specs.Checks.{◌⇒◌else◌, is_empty, same}
use Rattle.rules.specs.Frames.{no_length, length_at}
use Rattle.rules.specs.Fetch.{length_to_come, lacking_by, stage_by, stage}
use Rattle.rules.proofs.Laws.{stop, skip, and-false, empty_length}
use Rattle.objects.specs.Places.{LengthAt}

-- of n bytes behind a length so many are here, and k in all: none is lacking, too many, or some
module _ (k n here : ℕ) where
  pub lacks_none : n ≤ here → Decided ≡ lacking_by k (n - here)
  unfolding lacking_by
  lacks_none h = sym (stop _ _ _ (eq-eqb (n - here) 0 (omega (arith, h))))

  module _ (h : here < n) (w : k ≤ 256) where
    pub lacks_long : 256 - k < n - here → Overlong ≡ lacking_by k (n - here)
    unfolding lacking_by
    lacks_long m = sym (skip _ _ _ (ne_eqb (n - here) 0 (λ e. omega (arith, e, h))) ∙ stop _ _ _ (lt-ltb 256 (k + (n - here)) (omega (arith, m, w))))

    pub lacks_some : n - here ≤ 256 - k → Lacks (n - here) ≡ lacking_by k (n - here)
    unfolding lacking_by
    lacks_some m = sym (skip _ _ _ (ne_eqb (n - here) 0 (λ e. omega (arith, e, h))) ∙ skip _ _ _ (le-ltb 256 (k + (n - here)) (omega (arith, m, w))))

-- nothing of the length is here
pub come_none : (s : List ℕ) → length s < 2 → true ≡ length_to_come (drop 1 s)
unfolding length_to_come is_empty
come_none [] h = refl
come_none (b ∷ []) h = refl
come_none (b ∷ c ∷ s) h = absurd (omega (arith, h))

-- more than a byte of it is
pub come_more : (s : List ℕ) → 2 < length s → false ≡ length_to_come (drop 1 s)
unfolding length_to_come is_empty same
come_more [] h = absurd (omega (arith, h))
come_more (b ∷ []) h = absurd (omega (arith, h))
come_more (b ∷ c ∷ []) h = absurd (omega (arith, h))
come_more (b ∷ c ∷ d ∷ s) h = sym (and-false (eqb c 0x81))

and_true : (b : Bool) → b && true ≡ b
and_true true = refl
and_true false = refl

-- one byte of it is
pub come_one : (s : List ℕ) → 2 ≤ length s → length s ≤ 2 → eqb (get_or s 1 0) 0x81 ≡ length_to_come (drop 1 s)
unfolding length_to_come is_empty same
come_one [] h k = absurd (omega (arith, h))
come_one (b ∷ []) h k = absurd (omega (arith, h))
come_one (b ∷ c ∷ []) h k = sym (and_true (eqb c 0x81))
come_one (b ∷ c ∷ d ∷ s) h k = absurd (omega (arith, k))

pub stage_none : (s : List ℕ) → length s ≡ 0 → Lacks 1 ≡ stage s
unfolding stage is_empty
stage_none s e = sym (stop _ _ _ (sym (empty_length s) ∙ eq-eqb (length s) 0 e))

module _ (s : List ℕ) (some : length s ≡ 0 → ⊥) where
  begun : stage s ≡ (not (eqb (get_or s 0 0) 0xD0) ⇒ Decided else length_to_come (drop 1 s) ⇒ Lacks 1 else stage_by (length s) (length_at (drop 1 s)))
  unfolding stage
  begun = skip _ _ _ (sym (empty_length s) ∙ ne_eqb (length s) 0 some)

  pub stage_other : (get_or s 0 0 ≡ 0xD0 → ⊥) → Decided ≡ stage s
  stage_other h = sym (begun ∙ stop _ _ _ (ap not (ne_eqb (get_or s 0 0) 0xD0 h)))

  module _ (first : get_or s 0 0 ≡ 0xD0) where
    pub stage_to_come : true ≡ length_to_come (drop 1 s) → Lacks 1 ≡ stage s
    stage_to_come e = sym (begun ∙ skip _ _ _ (ap not (eq-eqb (get_or s 0 0) 0xD0 first)) ∙ stop _ _ _ (sym e))

    module _ (here : false ≡ length_to_come (drop 1 s)) where
      sized : stage s ≡ stage_by (length s) (length_at (drop 1 s))
      sized = begun ∙ skip _ _ _ (ap not (eq-eqb (get_or s 0 0) 0xD0 first)) ∙ skip _ _ _ (sym here)

      pub stage_unsized : length_at (drop 1 s) ≡ no_length → Decided ≡ stage s
      unfolding stage_by
      stage_unsized e = sym (sized ∙ ap (stage_by (length s)) e)

      pub stage_sized : (n start : ℕ) → LengthAt s 1 n start → lacking_by (length s) (n - (length s - start)) ≡ stage s
      unfolding stage_by
      stage_sized n start l =
          ap (λ (k : ℕ). lacking_by (length s) (n - k)) (sym (length-drop start s)) ∙ sym (sized ∙ ap (stage_by (length s)) l.is)
