-- The first kind that passes a test: as the library finds it, what is made of it, and that it passes.
-- Assumes nothing.
use mathlib.Core.Path.{◌≡◌, refl, sym, ap, ◌∙◌}
use mathlib.Core.Bool.{Bool, true, false, cond}
use mathlib.Core.List.{[], ◌∷◌}
use native.Mathlib.Omega.{arith}
use Rattle.std.specs.Prelude.{ℕ, Option, Some, None, find}
use Rattle.std.specs.Option.{option_map, option_map_or}
use Rattle.std.proofs.lemmas.Iterator.Adapters.{option_map_id}
use Rattle.rules.specs.Checks.{◌⇒◌else◌}
use Rattle.rules.proofs.Laws.{branch}
use Rattle.csim.specs.declared.Kind.{Kind}
use Rattle.csim.specs.declared.Kind.TheVariants.{Profile, Response, Envelope}
use Rattle.csim.specs.Kinds.{by_kind}

module _ (t : Kind → Bool) where
  -- as the library finds it
  pub found_first : (r : Option Kind) → option_map (λ k. k) r ≡ find t (Profile ∷ Response ∷ Envelope ∷ []) → r ≡ by_kind t Some None
  unfolding by_kind ◌⇒◌else◌
  found_first r e = sym (option_map_id r) ∙ e ∙ same (t Profile) (t Response) (t Envelope)
    where
      same : (a b c : Bool) → cond a (Some Profile) (cond b (Some Response) (cond c (Some Envelope) None)) ≡ (a ⇒ Some Profile else b ⇒ Some Response else c ⇒ Some Envelope else None)
      same true b c = refl
      same false true c = refl
      same false false true = refl
      same false false false = refl

  -- what is made of it
  pub by_found : {A : Type 0} (f : Kind → A) (other : A) (r : Option Kind) → r ≡ by_kind t Some None → by_kind t f other ≡ option_map_or f r other
  unfolding by_kind ◌⇒◌else◌
  by_found f other r e = made (t Profile) (t Response) (t Envelope) ∙ ap (λ (o : Option Kind). option_map_or f o other) (sym e)
    where
      made :
          (a b c : Bool) →
          (a ⇒ f Profile else b ⇒ f Response else c ⇒ f Envelope else other) ≡ option_map_or f (a ⇒ Some Profile else b ⇒ Some Response else c ⇒ Some Envelope else None) other
      made true b c = refl
      made false true c = refl
      made false false true = refl
      made false false false = refl

  -- and that it passes
  pub found_passes : (k : Kind) → by_kind t Some None ≡ Some k → t k ≡ true
  unfolding by_kind
  found_passes =
      branch P (t Profile) (Some Profile) _ passed
      (λ _. branch P (t Response) (Some Response) _ passed (λ _. branch P (t Envelope) (Some Envelope) None passed (λ _ k e. absurd (let z : ◌≡◌ {A = ℕ} 0 1 = cc in omega arith))))
    where
      P : Option Kind → Type 0
      P o = (k : Kind) → o ≡ Some k → t k ≡ true

      passed : {j : Kind} → t j ≡ true → P (Some j)
      passed {j} h k e = let same : j ≡ k = cc in ap t (sym same) ∙ h
