-- Numbers of one thing after those of another, as many for each: read, counted, and with another thing in one place.
-- Assumes nothing.
use Prim.Native.Nat.{ℕ, zero, suc, ◌+◌, ◌*◌, ◌<◌}
use mathlib.Core.Path.{◌≡◌, sym, ap, ◌∙◌}
use mathlib.Core.List.{List, [], ◌∷◌, ◌++◌, append_assoc}
use native.Mathlib.Omega.{arith}
use native.Mathlib.Nat.{le_of_suc-le-suc, not-suc-le-zero}
use lib.ListN.{length, take, drop, get_or, set, length-append, get_or-append}
use lib.Seq.{drop_at, get_or-append-add, take-append-add, drop-append-add}
use Rattle.session.specs.Picture.{blocks}

module _ {A : Type 0} (f : A → List ℕ) (size : ℕ) (sized : (x : A) → length (f x) ≡ size) where
  pub blocks_size : (xs : List A) → length (blocks f xs) ≡ size * length xs
  unfolding blocks
  blocks_size [] = omega arith
  blocks_size (x ∷ xs) = let ih = blocks_size xs in let e = length-append (f x) (blocks f xs) in omega (arith, sized x, ih, e)

  -- a number of the thing at a place; where there is none, one of a thing whose numbers are 0
  pub block_number :
      (d : A) → ((j : ℕ) → get_or (f d) j 0 ≡ 0) → (xs : List A) (k j : ℕ) → j < size →
      get_or (blocks f xs) (size * k + j) 0 ≡ get_or (f (get_or xs k d)) j 0
  unfolding blocks
  block_number d none [] k j h = sym (none j)
  block_number d none (x ∷ xs) zero j h =
      let e : size * 0 + j ≡ j = omega arith in
      ap (λ (i : ℕ). get_or (f x ++ blocks f xs) i 0) e ∙ get_or-append (f x) (blocks f xs) 0 j (omega (arith, sized x))
  block_number d none (x ∷ xs) (suc k) j h =
      let e : size * suc k + j ≡ length (f x) + (size * k + j) = omega (arith, sized x) in
      ap (λ (i : ℕ). get_or (f x ++ blocks f xs) i 0) e ∙ get_or-append-add (f x) (blocks f xs) (size * k + j) 0 ∙ block_number d none xs k j h

  -- those of one, and what stands behind them
  pub block_parts :
      (d : A) (xs : List A) (k : ℕ) → k < length xs → drop (size * k) (blocks f xs) ≡ f (get_or xs k d) ++ drop (size * k + size) (blocks f xs)
  unfolding blocks
  block_parts d [] k h = absurd (not-suc-le-zero h)
  block_parts d (x ∷ xs) zero h =
      let e : size * 0 ≡ 0 = omega arith in
      let n : size * 0 + size ≡ size = omega arith in
      ap (λ (j : ℕ). drop j (f x ++ blocks f xs)) e
      ∙ ap (λ (l : List ℕ). f x ++ l) (sym (ap (λ (j : ℕ). drop j (f x ++ blocks f xs)) n ∙ drop_at (f x) (blocks f xs) size (sized x)))
  block_parts d (x ∷ xs) (suc k) h =
      let r = blocks f xs in
      let p : size * suc k ≡ length (f x) + size * k = omega (arith, sized x) in
      let q : size * suc k + size ≡ length (f x) + (size * k + size) = omega (arith, sized x) in
      ap (λ (j : ℕ). drop j (f x ++ r)) p ∙ drop-append-add (f x) r (size * k) ∙ block_parts d xs k (le_of_suc-le-suc h)
      ∙ ap (λ (l : List ℕ). f (get_or xs k d) ++ l) (sym (ap (λ (j : ℕ). drop j (f x ++ r)) q ∙ drop-append-add (f x) r (size * k + size)))

  -- the numbers of another thing in one place
  pub block_set :
      (xs : List A) (k : ℕ) (y : A) → k < length xs →
      take (size * k) (blocks f xs) ++ (f y ++ drop (size * k + size) (blocks f xs)) ≡ blocks f (set xs k y)
  unfolding blocks
  block_set [] k y h = absurd (not-suc-le-zero h)
  block_set (x ∷ xs) zero y h =
      let e : size * 0 ≡ 0 = omega arith in
      let n : size * 0 + size ≡ size = omega arith in
      ap (λ (j : ℕ). take j (f x ++ blocks f xs) ++ (f y ++ drop (size * 0 + size) (f x ++ blocks f xs))) e
      ∙ ap (λ (l : List ℕ). f y ++ l) (ap (λ (j : ℕ). drop j (f x ++ blocks f xs)) n ∙ drop_at (f x) (blocks f xs) size (sized x))
  block_set (x ∷ xs) (suc k) y h =
      let r = blocks f xs in
      let p : take (size * suc k) (f x ++ r) ≡ f x ++ take (size * k) r =
      ap (λ (j : ℕ). take j (f x ++ r)) (let q : size * suc k ≡ length (f x) + size * k = omega (arith, sized x) in q) ∙ take-append-add (f x) r (size * k) in
      let s : drop (size * suc k + size) (f x ++ r) ≡ drop (size * k + size) r =
      ap (λ (j : ℕ). drop j (f x ++ r)) (let q : size * suc k + size ≡ length (f x) + (size * k + size) = omega (arith, sized x) in q)
      ∙ drop-append-add (f x) r (size * k + size) in
      (λ i. p i ++ (f y ++ s i)) ∙ append_assoc (f x) (take (size * k) r) (f y ++ drop (size * k + size) r)
      ∙ ap (λ (l : List ℕ). f x ++ l) (block_set xs k y (le_of_suc-le-suc h))
