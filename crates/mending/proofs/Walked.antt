-- The mending of objects, one at a time, and what holds of all of it.
-- Assumes nothing.
use Prim.Native.Nat.{ℕ, zero, suc, ◌+◌, ◌*◌, ◌≤◌}
use mathlib.Core.Path.{◌≡◌, refl, sym, ap, subst, ◌∙◌}
use mathlib.Core.Bool.{Bool, true, false}
use mathlib.Core.List.{List, [], ◌∷◌, ◌++◌}
use native.Mathlib.Omega.{arith}
use native.Mathlib.Nat.{le_of_suc-le-suc, not-suc-le-zero}
use lib.ListN.{length, length-append}
use Rattle.rules.specs.declared.Ending.TheVariants.{End}
use Rattle.rules.specs.Checks.{◌⇒◌else◌, is_empty}
use Rattle.rules.specs.Frames.{length_bytes, Object, Walk, walk}
use Rattle.rules.proofs.Laws.{branch}
use Rattle.rules.proofs.Walks.{walk_end}
use Rattle.rules.proofs.TagForms.{walk_met}
use Rattle.mending.specs.Mends.{Change, shortened, is_overlong, LooseRead, loose, fault, loose_at, Mended, none_left, cut_from, with_object, mend_on, mend_up_to, mend_from}
use Rattle.mending.proofs.Parts.{LooseParts, LooseIs, loose_parts}

-- an object has bytes, so what is left behind it is shorter
pub shorter : {b : ℕ} {s t l : List ℕ} {o : Object} {r : List ℕ} → LooseParts (b ∷ s) t l o r → length r ≤ length s
shorter {b} {s} {t} {l} {o} {r} h =
    let e = ap length h.parts ∙ length-append (t ++ (l ++ o.value)) r in
    let f = length-append t (l ++ o.value) in
    omega (arith, e, f, h.some)

on_same :
    (place b : ℕ) (s : List ℕ) (x : LooseRead) (f g : ℕ → List ℕ → Mended) → LooseIs (b ∷ s) x → ((p : ℕ) (r : List ℕ) → length r ≤ length s → f p r ≡ g p r) →
    mend_on place x f ≡ mend_on place x g
unfolding mend_on
on_same place b s fault f g h e = refl
on_same place b s (loose t l o r) f g h e = ap (with_object place t l o) (e _ r (shorter h))

fuel : (n m place : ℕ) (s : List ℕ) → length s ≤ n → length s ≤ m → mend_up_to n place s ≡ mend_up_to m place s
unfolding mend_up_to
fuel zero zero place s h k = refl
fuel zero (suc m) place [] h k = refl
fuel zero (suc m) place (b ∷ s) h k = absurd (not-suc-le-zero h)
fuel (suc n) zero place [] h k = refl
fuel (suc n) zero place (b ∷ s) h k = absurd (not-suc-le-zero k)
fuel (suc n) (suc m) place [] h k = refl
fuel (suc n) (suc m) place (b ∷ s) h k =
    on_same place b s (loose_at (b ∷ s)) (mend_up_to n) (mend_up_to m) (loose_parts (b ∷ s))
    (λ p r l. fuel n m p r (omega (arith, le_of_suc-le-suc h)) (omega (arith, le_of_suc-le-suc k)))

-- at the end, at a fault, at an object
pub mend_end : (place : ℕ) → mend_from place [] ≡ none_left
unfolding mend_from mend_up_to
mend_end place = refl

pub mend_fault : (place b : ℕ) (s : List ℕ) → loose_at (b ∷ s) ≡ fault → mend_from place (b ∷ s) ≡ cut_from place
unfolding mend_from mend_up_to mend_on
mend_fault place b s e = ap (λ (x : LooseRead). mend_on place x (mend_up_to (length s))) e

pub mend_object :
    (place b : ℕ) (s t l : List ℕ) (o : Object) (r : List ℕ) → loose_at (b ∷ s) ≡ loose t l o r →
    mend_from place (b ∷ s) ≡ with_object place t l o (mend_from (place + length (t ++ (l ++ o.value))) r)
unfolding mend_from mend_up_to mend_on
mend_object place b s t l o r e =
    let few = shorter (subst (LooseIs (b ∷ s)) e (loose_parts (b ∷ s))) in
    ap (λ (x : LooseRead). mend_on place x (mend_up_to (length s))) e
    ∙ ap (with_object place t l o) (fuel (length s) (length r) (place + length (t ++ (l ++ o.value))) r few (omega arith))

-- what holds at the end and at a cut, and in front of what it holds of, holds of all that comes out
module _
    (P : ℕ → List ℕ → Mended → Type 0)
    (ends : (place : ℕ) → P place [] none_left)
    (cuts : (place b : ℕ) (s : List ℕ) → P place (b ∷ s) (cut_from place))
    (more : (place : ℕ) (s t l : List ℕ) (o : Object) (r : List ℕ) (m : Mended) → LooseParts s t l o r → P (place + length (t ++ (l ++ o.value))) r m → P place s (with_object place t l o m)) where
  on_holds :
      (place b : ℕ) (s : List ℕ) (x : LooseRead) (k : ℕ → List ℕ → Mended) → LooseIs (b ∷ s) x → ((p : ℕ) (r : List ℕ) → length r ≤ length s → P p r (k p r)) →
      P place (b ∷ s) (mend_on place x k)
  unfolding mend_on
  on_holds place b s fault k h f = cuts place b s
  on_holds place b s (loose t l o r) k h f = more place (b ∷ s) t l o r _ h (f _ r (shorter h))

  up_to_holds : (n place : ℕ) (s : List ℕ) → length s ≤ n → P place s (mend_up_to n place s)
  unfolding mend_up_to
  up_to_holds zero place [] h = ends place
  up_to_holds zero place (b ∷ s) h = absurd (not-suc-le-zero h)
  up_to_holds (suc n) place [] h = ends place
  up_to_holds (suc n) place (b ∷ s) h =
      on_holds place b s (loose_at (b ∷ s)) (mend_up_to n) (loose_parts (b ∷ s)) (λ p r l. up_to_holds n p r (omega (arith, le_of_suc-le-suc h)))

  pub holds : (place : ℕ) (s : List ℕ) → P place s (mend_from place s)
  unfolding mend_from
  holds place s = up_to_holds (length s) place s (omega arith)

-- the walk passes what comes out, and meets the objects
pub mend_walks : (place : ℕ) (s : List ℕ) → walk (mend_from place s).bytes ≡ record { objects = (mend_from place s).objects; ending = End; rest = [] }
unfolding with_object
mend_walks =
    holds (λ _ _ m. walk m.bytes ≡ record { objects = m.objects; ending = End; rest = [] }) (λ _. walk_end) (λ _ _ _. walk_end)
    (λ place s t l o r m h e.
    walk_met _ o m.bytes (h.reads m.bytes)
    ∙ ap (λ (w : Walk). record { objects = o ∷ w.objects; ending = w.ending; rest = w.rest }) e)

pub some_length : (n : ℕ) → 1 ≤ length (length_bytes n)
unfolding length_bytes
some_length n = branch (λ (l : List ℕ). 1 ≤ length l) _ _ _ (λ _. omega arith) (λ _. omega arith)

-- how long a length is, as it stands
pub form_size :
    {s t l : List ℕ} {o : Object} {r : List ℕ} → LooseParts s t l o r →
    length l ≡ length {A = ℕ} (is_overlong l ⇒ 0x81 ∷ [] else []) + length (length_bytes (length o.value))
form_size {l = l} {o} h = ap length h.form ∙ length-append (is_overlong l ⇒ 0x81 ∷ [] else []) (length_bytes (length o.value))

one_at_most : (b : Bool) (c : Change) → length (b ⇒ c ∷ [] else []) ≤ 1
unfolding ◌⇒◌else◌
one_at_most true c = omega arith
one_at_most false c = omega arith

-- as many bytes as stood there at most; objects where there are bytes; a change for every two bytes, and the cut
pub record Few (s : List ℕ) (m : Mended) : Type 0 where
  pub fits : length m.bytes ≤ length s
  pub some : is_empty m.objects ≡ is_empty m.bytes
  pub changes : 2 * length m.changes ≤ length m.bytes + 2

few_more : (place : ℕ) (s t l : List ℕ) (o : Object) (r : List ℕ) (m : Mended) → LooseParts s t l o r → Few r m → Few s (with_object place t l o m)
unfolding with_object is_empty
few_more place s t l o r m h f =
    let v = length_bytes (length o.value) ++ o.value in
    let was = ap length h.parts ∙ length-append (t ++ (l ++ o.value)) r in
    let was₂ = length-append t (l ++ o.value) in
    let was₃ = length-append l o.value in
    let was₄ = form_size h in
    let is = length-append (t ++ v) m.bytes in
    let is₂ = length-append t v in
    let is₃ = length-append (length_bytes (length o.value)) o.value in
    let one = one_at_most (is_overlong l) (shortened (place + length t)) in
    let all = length-append (is_overlong l ⇒ shortened (place + length t) ∷ [] else []) m.changes in
    let some = some_length (length o.value) in
    record {
      fits = omega (arith, f.fits);
      some = sym (filled ((t ++ v) ++ m.bytes) (omega (arith, h.some)));
      changes = omega (arith, h.some, f.changes);
    }
  where
    filled : (l : List ℕ) → 1 ≤ length l → is_empty l ≡ false
    filled [] h = absurd (not-suc-le-zero h)
    filled (b ∷ l) h = refl

pub mend_few : (place : ℕ) (s : List ℕ) → Few s (mend_from place s)
unfolding is_empty
mend_few =
    holds (λ _ s m. Few s m) (λ _. record { fits = omega arith; some = refl; changes = omega arith })
    (λ _ _ _. record { fits = omega arith; some = refl; changes = omega arith }) few_more
