-- A tag and a length in the shortest form, put at a place.
-- Assumes nothing.
use Prim.Native.Nat.{ℕ, ◌+◌, ◌≤◌, ◌<◌}
use mathlib.Core.Path.{◌≡◌, sym, ap, ◌∙◌}
use mathlib.Core.List.{List, [], ◌∷◌}
use lib.ListN.{length}
use borrow.Author.Tests.{lt-ltb, le-ltb}
use Rattle.octets.specs.Parts.{pasted}
use Rattle.rules.specs.Frames.{length_bytes}
use Rattle.rules.proofs.Laws.{stop, skip}

-- the two forms of a length
pub short_length : (n : ℕ) → n < 128 → length_bytes n ≡ n ∷ []
unfolding length_bytes
short_length n h = stop _ _ _ (lt-ltb n 128 h)

pub long_length_lem : (n : ℕ) → 128 ≤ n → length_bytes n ≡ 0x81 ∷ n ∷ []
unfolding length_bytes
long_length_lem n h = skip _ _ _ (le-ltb n 128 h)

-- a tag and a length, put at a place
pub form_put :
    (out after : List ℕ) (at tag n k : ℕ) (l : List ℕ) → length_bytes n ≡ l → after ≡ pasted out at (tag ∷ l) → k ≡ at + length (tag ∷ l) →
    (after ≡ pasted out at (tag ∷ length_bytes n)) × (k ≡ at + length (tag ∷ length_bytes n))
form_put out after at tag n k l e p c =
    (p ∙ ap (λ (x : List ℕ). pasted out at (tag ∷ x)) (sym e), c ∙ ap (λ (x : List ℕ). at + length (tag ∷ x)) (sym e))
