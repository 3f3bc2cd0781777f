-- What `all` and a fold tell of a test at every byte.
-- Assumes nothing.
use Prim.Native.Nat.{ℕ}
use mathlib.Core.Path.{◌≡◌, refl, sym, ap, ◌∙◌}
use mathlib.Core.Bool.{Bool, true, false, ◌&&◌}
use mathlib.Core.List.{List, [], ◌∷◌, ◌++◌}
use Rattle.std.specs.List.{list_all}
use Rattle.rules.specs.Checks.{every}

pub all_every : (f : ℕ → Bool) (s : List ℕ) → list_all f s ≡ every f s
unfolding every
all_every f [] = refl
all_every f (b ∷ s) = ap (λ (t : Bool). f b && t) (all_every f s)

pub and_true : (p : Bool) → p && true ≡ p
and_true true = refl
and_true false = refl

and_assoc : (a b c : Bool) → (a && b) && c ≡ a && (b && c)
and_assoc true b c = refl
and_assoc false b c = refl

-- with one byte more
pub every_push : (f : ℕ → Bool) (s : List ℕ) (b : ℕ) → every f s && f b ≡ every f (s ++ b ∷ [])
unfolding every
every_push f [] b = sym (and_true (f b))
every_push f (a ∷ s) b = and_assoc (f a) (every f s) (f b) ∙ ap (λ (t : Bool). f a && t) (every_push f s b)
