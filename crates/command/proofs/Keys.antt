-- Numbers in lists: the keys of a match, and tests that every number of a list passes.
-- Assumes nothing.
use Prim.Native.Nat.{ℕ}
use mathlib.Core.Path.{◌≡◌, refl, sym, ap, ◌∙◌}
use mathlib.Core.Logic.{inl, inr, ⊎_elim}
use mathlib.Core.Bool.{Bool, true, false, ◌&&◌, ◌||◌, true≢false, false≢true}
use mathlib.Core.List.{List, [], ◌∷◌}
use types.Run.{OneOf}
use lib.Dec.{eqb}
use borrow.Author.Tests.{ne_eqb}
use Rattle.rules.specs.Checks.{every, some_of, member}
use Rattle.rules.proofs.Laws.{both_left, both_right, either, by_equal}

-- what a definition says of each key of an arm it says of a number that is one of them
abbrev Each : (ℕ → Type 0) → List ℕ → Type 0
Each P [] = Unit {0}
Each P (k ∷ ks) = P k × Each P ks

pub arm : {A : Type 0} (f : ℕ → A) (a : A) (ks : List ℕ) (n : ℕ) → Each (λ k. a ≡ f k) ks → OneOf ks n → a ≡ f n
arm f a [] n w o = absurd o
arm f a (k ∷ []) n w o = w.0 ∙ ap f (sym o)
arm f a (k ∷ j ∷ ks) n w o = ⊎_elim (λ (e : n ≡ k). w.0 ∙ ap f (sym e)) (λ q. arm f a (j ∷ ks) n w.1 q) o

-- a number that an arm's keys have not
pub out_keys : (ks : List ℕ) (n : ℕ) → (OneOf ks n → ⊥) → member n ks ≡ false
unfolding member some_of
out_keys [] n h = refl
out_keys (k ∷ []) n h = ap (λ (b : Bool). b || false) (ne_eqb n k h)
out_keys (k ∷ j ∷ ks) n h = λ i. ne_eqb n k (λ e. h (inl e)) i || out_keys (j ∷ ks) n (λ e. h (inr e)) i

-- what the last arm of a match knows, where each arm before it has one key
abbrev pub Outside : ℕ → List ℕ → Type 0 → Type 0
Outside n [] A = A
Outside n (k ∷ ks) A = Outside n ks (A × (n ≡ k → ⊥))

outside_all : (n : ℕ) (ks : List ℕ) (A : Type 0) → Outside n ks A → A × (member n ks ≡ false)
unfolding member some_of
outside_all n [] A w = (w, refl)
outside_all n (k ∷ ks) A w =
    let r = outside_all n ks (A × (n ≡ k → ⊥)) w in
    (r.0.0, λ i. ne_eqb n k r.0.1 i || r.1 i)

pub outside : (n : ℕ) (ks : List ℕ) → Outside n ks (Unit {0}) → member n ks ≡ false
outside n ks w = (outside_all n ks (Unit {0}) w).1

-- a test that every number of a list passes
module _ (f : ℕ → Bool) (n : ℕ) where
  pub every_member : (xs : List ℕ) → every f xs ≡ true → member n xs ≡ true → f n ≡ true
  unfolding every member some_of
  every_member [] e m = absurd (false≢true m)
  every_member (x ∷ xs) e m =
      ⊎_elim (λ q. by_equal (λ (k : ℕ). f k ≡ true) n x q (both_left (f x) (every f xs) e)) (λ q. every_member xs (both_right (f x) (every f xs) e) q)
      (either (eqb n x) (member n xs) m)

  pub no_member : (xs : List ℕ) → every f xs ≡ true → f n ≡ false → member n xs ≡ false
  no_member xs e h = by (member n xs) refl
    where
      by : (b : Bool) → member n xs ≡ b → member n xs ≡ false
      by true m = absurd (true≢false (sym (every_member xs e m) ∙ h))
      by false m = m

-- what holds of every number of a list holds of each of a list within it
pub every_within : (f : ℕ → Bool) (xs ys : List ℕ) → every (λ n. member n xs) ys ≡ true → every f xs ≡ true → every f ys ≡ true
unfolding every
every_within f xs [] w e = refl
every_within f xs (y ∷ ys) w e =
    λ i.
    every_member f y xs e (both_left (member y xs) (every (λ n. member n xs) ys) w) i &&
    every_within f xs ys (both_right (member y xs) (every (λ n. member n xs) ys) w) e i

-- two lists within each other pass the same tests
pub every_alike :
    (f : ℕ → Bool) (xs ys : List ℕ) → every (λ n. member n xs) ys ≡ true → every (λ n. member n ys) xs ≡ true → every f xs ≡ every f ys
every_alike f xs ys v w = by (every f xs) (every f ys) refl refl
  where
    by : (a b : Bool) → every f xs ≡ a → every f ys ≡ b → every f xs ≡ every f ys
    by true b p q = p ∙ sym (every_within f xs ys v p)
    by false true p q = every_within f ys xs w q ∙ sym q
    by false false p q = p ∙ sym q

-- tests in a row, and what is known where all of them pass
abbrev pub All : List Bool → Type 0
All [] = Unit {0}
All (b ∷ bs) = (b ≡ true) × All bs

pub all_true : (bs : List Bool) → every (λ (b : Bool). b) bs ≡ true → All bs
unfolding every
all_true [] e = tt
all_true (b ∷ bs) e = (both_left b (every (λ (x : Bool). x) bs) e, all_true bs (both_right b (every (λ (x : Bool). x) bs) e))
