-- A list looked at one value after the other.
-- Assumes nothing.
use Prim.Native.Nat.{ℕ, ◌+◌, ◌≤◌, ◌<◌}
use mathlib.Core.Path.{◌≡◌, sym, ap, ◌∙◌}
use mathlib.Core.Bool.{Bool, true, false, ◌&&◌, ◌||◌}
use mathlib.Core.List.{List, [], ◌∷◌}
use native.Mathlib.Omega.{arith}
use native.Mathlib.Numerals.{add-one}
use lib.ListN.{length, get_or, drop}
use lib.Seq.{drop-cons, drop-length}
use Rattle.rules.specs.Checks.{every, some_of}

-- up to a place, what is said of all is what is said of the rest
module _ (f : ℕ → Bool) (s : List ℕ) (i : ℕ) where
  step : i < length s → drop i s ≡ get_or s i 0 ∷ drop (i + 1) s
  step h = drop-cons s i 0 h ∙ ap (λ (j : ℕ). get_or s i 0 ∷ drop j s) (sym (add-one i))

  rest : i ≤ length s → length s ≤ i → drop i s ≡ []
  rest h k = let e : i ≡ length s = omega arith in ap (λ (j : ℕ). drop j s) e ∙ drop-length s

  pub every_at : (b : Bool) → i < length s → f (get_or s i 0) ≡ b → every f s ≡ every f (drop i s) → every f s ≡ b && every f (drop (i + 1) s)
  unfolding every
  every_at b h e k = k ∙ ap (every f) (step h) ∙ ap (λ (x : Bool). x && every f (drop (i + 1) s)) e

  pub every_end : i ≤ length s → length s ≤ i → every f s ≡ every f (drop i s) → true ≡ every f s
  unfolding every
  every_end h k e = sym (e ∙ ap (every f) (rest h k))

  pub some_at : (b : Bool) → i < length s → f (get_or s i 0) ≡ b → some_of f s ≡ some_of f (drop i s) → some_of f s ≡ b || some_of f (drop (i + 1) s)
  unfolding some_of
  some_at b h e k = k ∙ ap (some_of f) (step h) ∙ ap (λ (x : Bool). x || some_of f (drop (i + 1) s)) e

  pub some_end : i ≤ length s → length s ≤ i → some_of f s ≡ some_of f (drop i s) → false ≡ some_of f s
  unfolding some_of
  some_end h k e = sym (e ∙ ap (some_of f) (rest h k))
