-- The walk, one object at a time.
-- Assumes nothing.
use Prim.Native.Nat.{ℕ, zero, suc, ◌≤◌}
use mathlib.Core.Path.{◌≡◌, refl, ap, subst, ◌∙◌}
use mathlib.Core.Bool.{Bool}
use mathlib.Core.List.{List, [], ◌∷◌}
use native.Mathlib.Omega.{arith}
use native.Mathlib.Nat.{le_of_suc-le-suc, not-suc-le-zero}
use lib.ListN.{length, length-drop}
use Rattle.rules.specs.declared.Ending.{Ending}
use Rattle.rules.specs.declared.Ending.TheVariants.{End}
use Rattle.rules.specs.Frames.{LengthRead, len, no_length, long_length, length_at, ObjectRead, object, faulty, Object, Walk, TagRead, long_tag, tag_at, value_after, after_tag, object_at, onward, walk_up_to, walk}
use Rattle.rules.proofs.Laws.{branch}

-- what is left after a length, and after an object, is shorter than what was there
abbrev LengthLeaves : ℕ → LengthRead → Type 0
LengthLeaves k no_length = Unit {0}
LengthLeaves k (len n s) = length s ≤ k

abbrev pub ObjectLeaves : ℕ → ObjectRead → Type 0
ObjectLeaves k (faulty e) = Unit {0}
ObjectLeaves k (object o s) = length s ≤ k

long_leaves : (s : List ℕ) → LengthLeaves (length s) (long_length s)
unfolding long_length
long_leaves [] = tt
long_leaves (b ∷ s) = branch (LengthLeaves (suc (length s))) _ _ _ (λ _. omega arith) (λ _. tt)

weaken : (j k : ℕ) (l : LengthRead) → j ≤ k → LengthLeaves j l → LengthLeaves k l
weaken j k no_length h x = tt
weaken j k (len n s) h x = omega arith

length_leaves : (s : List ℕ) → LengthLeaves (length s) (length_at s)
unfolding length_at
length_leaves [] = tt
length_leaves (b ∷ s) =
    branch (LengthLeaves (suc (length s))) _ _ _ (λ _. omega arith) (λ _.
    branch (LengthLeaves (suc (length s))) _ _ _ (λ _. weaken (length s) (suc (length s)) (long_length s) (omega arith) (long_leaves s)) (λ _. tt))

value_leaves : (t : ℕ) (f : Bool) (k : ℕ) (l : LengthRead) → LengthLeaves k l → ObjectLeaves k (value_after t f l)
unfolding value_after
value_leaves t f k no_length h = tt
value_leaves t f k (len n s) h = branch (ObjectLeaves k) _ _ _ (λ _. tt) (λ _. let e = length-drop n s in omega arith)

-- so is what is left after a tag of three bytes
tag_leaves : (s : List ℕ) → ObjectLeaves (length s) (after_tag (long_tag s))
unfolding long_tag after_tag
tag_leaves [] = tt
tag_leaves (b ∷ []) = tt
tag_leaves (b ∷ c ∷ s) =
    branch (λ (r : TagRead). ObjectLeaves (suc (suc (length s))) (after_tag r)) _ _ _ (λ _. tt)
    (λ _. value_leaves _ _ _ (length_at s) (weaken (length s) (suc (suc (length s))) (length_at s) (omega arith) (length_leaves s)))

pub object_leaves : (t : ℕ) (s : List ℕ) → ObjectLeaves (length s) (object_at (t ∷ s))
unfolding object_at tag_at after_tag
object_leaves t s =
    branch (λ (r : TagRead). ObjectLeaves (length s) (after_tag r)) _ _ _ (λ _. tag_leaves s)
    (λ _. branch (λ (r : TagRead). ObjectLeaves (length s) (after_tag r)) _ _ _ (λ _. tt) (λ _. value_leaves _ _ (length s) (length_at s) (length_leaves s)))

-- a walk goes on the same with any fuel that is enough
onward_same :
    (b : List ℕ) (k : ℕ) (r : ObjectRead) (f g : List ℕ → Walk) → ObjectLeaves k r → ((s : List ℕ) → length s ≤ k → f s ≡ g s) → onward b r f ≡ onward b r g
unfolding onward
onward_same b k (faulty e) f g h same = refl
onward_same b k (object o s) f g h same =
    ap (λ (w : Walk). record { objects = o ∷ w.objects; ending = w.ending; rest = w.rest }) (same s h)

fuel : (n m : ℕ) (s : List ℕ) → length s ≤ n → length s ≤ m → walk_up_to n s ≡ walk_up_to m s
unfolding walk_up_to
fuel zero zero s h k = refl
fuel zero (suc m) [] h k = refl
fuel zero (suc m) (b ∷ s) h k = absurd (not-suc-le-zero h)
fuel (suc n) zero [] h k = refl
fuel (suc n) zero (b ∷ s) h k = absurd (not-suc-le-zero k)
fuel (suc n) (suc m) [] h k = refl
fuel (suc n) (suc m) (b ∷ s) h k =
    onward_same (b ∷ s) (length s) (object_at (b ∷ s)) (walk_up_to n) (walk_up_to m) (object_leaves b s)
    (λ t l. fuel n m t (omega (arith, le_of_suc-le-suc h)) (omega (arith, le_of_suc-le-suc k)))

-- the walk of no bytes
pub walk_end : walk [] ≡ record { objects = []; ending = End; rest = [] }
unfolding walk walk_up_to
walk_end = refl

-- the walk of bytes that begin with a fault
pub walk_fault : (b : ℕ) (s : List ℕ) (e : Ending) → object_at (b ∷ s) ≡ faulty e → walk (b ∷ s) ≡ record { objects = []; ending = e; rest = b ∷ s }
unfolding walk walk_up_to onward
walk_fault b s e f = ap (λ (r : ObjectRead). onward (b ∷ s) r (walk_up_to (length s))) f

-- the walk of bytes that begin with an object
pub walk_object :
    (b : ℕ) (s : List ℕ) (o : Object) (r : List ℕ) → object_at (b ∷ s) ≡ object o r →
    walk (b ∷ s) ≡ record { objects = o ∷ (walk r).objects; ending = (walk r).ending; rest = (walk r).rest }
unfolding walk walk_up_to onward
walk_object b s o r f =
    let l : length r ≤ length s = subst (ObjectLeaves (length s)) f (object_leaves b s) in
    ap (λ (x : ObjectRead). onward (b ∷ s) x (walk_up_to (length s))) f
    ∙ ap (λ (w : Walk). record { objects = o ∷ w.objects; ending = w.ending; rest = w.rest }) (fuel (length s) (length r) r l (omega arith))
