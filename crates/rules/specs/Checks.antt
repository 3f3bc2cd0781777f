-- How a rule is written: an order of checks, one line each, and plain tests on lists.
use Rattle.std.specs.Prelude.{ℕ, suc, Bool, true, false, ◌&&◌, ◌||◌, List, [], ◌∷◌, eqb}

infixr 5 ◌⇒◌else◌
-- test ⇒ what it gives else the lines below
unfoldable pub ◌⇒◌else◌ : {A : Type 0} → Bool → A → A → A
true ⇒ a else b = a
false ⇒ a else b = b

-- the list has no element
unfoldable pub is_empty : {A : Type 0} → List A → Bool
is_empty [] = true
is_empty (x ∷ xs) = false

-- every element passes the test
unfoldable pub every : {A : Type 0} → (A → Bool) → List A → Bool
every f [] = true
every f (x ∷ xs) = f x && every f xs

-- some element passes the test
unfoldable pub some_of : {A : Type 0} → (A → Bool) → List A → Bool
some_of f [] = false
some_of f (x ∷ xs) = f x || some_of f xs

-- how often the number stands in the list
unfoldable pub occurrences : ℕ → List ℕ → ℕ
occurrences n [] = 0
occurrences n (x ∷ xs) = let k = occurrences n xs in eqb n x ⇒ suc k else k

-- the number stands in the list
unfoldable pub member : ℕ → List ℕ → Bool
member n = some_of (eqb n)

-- the two lists are the same
unfoldable pub same : List ℕ → List ℕ → Bool
same [] [] = true
same [] (y ∷ ys) = false
same (x ∷ xs) [] = false
same (x ∷ xs) (y ∷ ys) = eqb x y && same xs ys
