-- Units and bytes written one by one to the front of a buffer.
-- Assumes nothing.
use Prim.Native.Nat.{ℕ, ◌+◌, ◌≤◌, ◌<◌}
use mathlib.Core.Path.{◌≡◌, sym, subst, ◌∙◌}
use mathlib.Core.List.{List, map}
use native.Mathlib.Omega.{arith}
use native.Mathlib.Nat.{zero-add}
use lib.ListN.{length, get_or, set}
use Rattle.std.proofs.lemmas.List.{get_or-map, length-map}
use Rattle.octets.specs.Parts.{overlaid}
use Rattle.octets.proofs.Pastes.{front_over}
use Rattle.octets.proofs.Copies.{Copied, copied_none, copied_more, copied_all}

-- the first n of them stand there
abbrev pub Front : List ℕ → List ℕ → ℕ → List ℕ → Type 0
Front us before n after = Copied before 0 us n after

module _ (us before : List ℕ) where
  pub front_none : length us ≤ length before → Front us before 0 before
  front_none h = copied_none before 0 us (let z = zero-add (length us) in omega arith)

  module _ (n : ℕ) (after : List ℕ) (c : Front us before n after) where
    pub front_room : n < length us → n < length after
    front_room h = omega (arith, c.fits, c.same)

    pub front_more : (v : ℕ) → n < length us → v ≡ get_or us n 0 → Front us before (n + 1) (set after n v)
    front_more v h e = subst (λ (j : ℕ). Copied before 0 us (n + 1) (set after j v)) (zero-add n) (copied_more before 0 us n after v c h e)

    pub front_all : length us ≤ n → after ≡ overlaid us before
    front_all h = copied_all before 0 us n after c h ∙ front_over before us

-- those that a function gives of other elements
module _ {A : Type 0} (f : A → ℕ) (xs : List A) (before : List ℕ) (n : ℕ) (after : List ℕ) (c : Front (map f xs) before n after) where
  pub mapped_more : (v : ℕ) (d : A) → n < length xs → v ≡ f (get_or xs n d) → Front (map f xs) before (n + 1) (set after n v)
  mapped_more v d h e = front_more (map f xs) before n after c v (let l = length-map xs f in omega arith) (e ∙ sym (get_or-map f xs n d 0 h))

  pub mapped_all : length xs ≤ n → after ≡ overlaid (map f xs) before
  mapped_all h = front_all (map f xs) before n after c (let l = length-map xs f in omega arith)
