-- What the walk passes to its end comes out as it stands.
-- Assumes nothing.
use Prim.Native.Nat.{ℕ, zero, suc, ◌+◌, ◌≤◌}
use mathlib.Core.Path.{◌≡◌, refl, sym, ap, subst, ◌∙◌}
use mathlib.Core.Bool.{Bool, true, false, ◌&&◌}
use mathlib.Core.List.{List, [], ◌∷◌, ◌++◌}
use native.Mathlib.Omega.{arith}
use native.Mathlib.Nat.{le_of_suc-le-suc, not-suc-le-zero}
use lib.ListN.{length, take, drop}
use lib.Seq.{length-take-le}
use lib.Dec.{ltb, eqb}
use borrow.Author.Tests.{le-ltb, ne_eqb, ltb-true, ltb-false, leb-true, eqb-true}
use Rattle.rules.specs.declared.Ending.TheVariants.{End}
use Rattle.rules.specs.Frames.{LengthRead, len, no_length, long_length, length_at, length_bytes, Object, TagRead, tag, no_tag, tag_at, ObjectRead, object, faulty, value_after, after_tag, object_at, Walk, walk}
use Rattle.rules.proofs.Laws.{branch, stop, skip}
use Rattle.rules.proofs.Walks.{walk_end, walk_fault, walk_object}
use Rattle.mending.specs.Mends.{shortened, in_front, any_length, loose_length_at, is_overlong, loose, loose_value, loose_tag, loose_at, Mended, with_object, mend_from}
use Rattle.mending.proofs.Parts.{in_front_lem, LooseIs, loose_parts}
use Rattle.mending.proofs.Walked.{shorter, mend_end, mend_object}

-- the shortest form is not overlong
pub not_overlong : (n : ℕ) → is_overlong (length_bytes n) ≡ false
unfolding length_bytes is_overlong
not_overlong n =
    branch (λ (l : List ℕ). is_overlong l ≡ false) _ _ _
    (λ e. ap (λ (x : Bool). x && ltb 0 0x80) (ne_eqb n 0x81 (let h = ltb-true n 0x80 e in omega arith))) (λ e. e)

-- a length that the rules read stands in its shortest form, and is read alike
abbrev pub StrictLength : List ℕ → LengthRead → Type 0
StrictLength s no_length = Unit {0}
StrictLength s (len n r) = (loose_length_at s ≡ len n r) × (in_front s r ≡ length_bytes n)

strict_long : (b : ℕ) (s : List ℕ) → ltb b 0x80 ≡ false → eqb b 0x81 ≡ true → StrictLength (b ∷ s) (long_length s)
unfolding long_length loose_length_at any_length length_bytes
strict_long b [] e f = tt
strict_long b (c ∷ s) e f =
    branch (StrictLength (b ∷ c ∷ s)) _ _ _
    (λ g. (
      skip _ _ _ e ∙ stop _ _ _ f,
      in_front_lem (b ∷ c ∷ []) s ∙ (λ i. eqb-true b 0x81 f i ∷ c ∷ []) ∙ sym (skip _ _ _ (le-ltb c 0x80 (leb-true 0x80 c g))),
    ))
    (λ _. tt)

pub strict_length : (s : List ℕ) → StrictLength s (length_at s)
unfolding length_at loose_length_at length_bytes
strict_length [] = tt
strict_length (b ∷ s) =
    branch (StrictLength (b ∷ s)) _ _ _ (λ e. (stop _ _ _ e, in_front_lem (b ∷ []) s ∙ sym (stop _ _ _ e)))
    (λ e. branch (StrictLength (b ∷ s)) _ _ _ (strict_long b s e) (λ _. tt))

-- an object that the rules read is read alike, and no fault is the end
abbrev Strict : List ℕ → ObjectRead → Type 0
Strict s (faulty e) = e ≡ End → ⊥
Strict s (object o r) = (t : List ℕ) × (loose_at s ≡ loose t (length_bytes (length o.value)) o r)

strict_value : (s : List ℕ) (number : ℕ) (flag : Bool) (r : List ℕ) (x : LengthRead) → tag_at s ≡ tag number flag r → StrictLength r x → Strict s (value_after number flag x)
unfolding value_after loose_at loose_tag loose_value
strict_value s number flag r no_length e g = λ z. let clash : ◌≡◌ {A = ℕ} 0 1 = cc in omega arith
strict_value s number flag r (len n v) e g =
    branch (Strict s) _ _ _ (λ _ z. let clash : ◌≡◌ {A = ℕ} 0 1 = cc in omega arith)
    (λ f.
    let o : Object = record { number = number; flag = flag; value = take n v } in (
      in_front s r,
      ap (loose_tag s) e ∙ ap (loose_value (in_front s r) number flag r) g.0 ∙ skip _ _ _ f
          ∙ ap (λ (l : List ℕ). loose (in_front s r) l o (drop n v)) (g.1 ∙ ap length_bytes (sym (length-take-le n v (ltb-false (length v) n f)))),
    ))

strict_tag : (s : List ℕ) (x : TagRead) → tag_at s ≡ x → Strict s (after_tag x)
unfolding after_tag
strict_tag s no_tag e = λ z. let clash : ◌≡◌ {A = ℕ} 0 1 = cc in omega arith
strict_tag s (tag number flag r) e = strict_value s number flag r (length_at r) e (strict_length r)

strict : (s : List ℕ) → Strict s (object_at s)
unfolding object_at
strict s = strict_tag s (tag_at s) refl

-- what a walk to the end leaves of its bytes
abbrev as_walked : List ℕ → Mended
as_walked s = record { bytes = s; objects = (walk s).objects; changes = [] }

module _ (n place b : ℕ) (s : List ℕ) (ended : (walk (b ∷ s)).ending ≡ End) (ih : (p : ℕ) (r : List ℕ) → length r ≤ length s → (walk r).ending ≡ End → mend_from p r ≡ as_walked r) where
  kept_on : (x : ObjectRead) → object_at (b ∷ s) ≡ x → Strict (b ∷ s) x → mend_from place (b ∷ s) ≡ as_walked (b ∷ s)
  unfolding with_object
  kept_on (faulty e) q k = absurd (k (sym (ap (λ (w : Walk). w.ending) (walk_fault b s e q)) ∙ ended))
  kept_on (object o r) q k =
      let t = k.0 in
      let l = length_bytes (length o.value) in
      let w = walk_object b s o r q in
      let h = subst (LooseIs (b ∷ s)) k.1 (loose_parts (b ∷ s)) in
      mend_object place b s t l o r k.1
      ∙ ap (with_object place t l o) (ih _ r (shorter h) (sym (ap (λ (x : Walk). x.ending) w) ∙ ended))
      ∙ (λ i.
      record {
        bytes = sym h.parts i;
        objects = (sym w i).objects;
        changes = skip _ (shortened (place + length t) ∷ []) [] (not_overlong (length o.value)) i ++ [];
      })

kept_none : (place : ℕ) → mend_from place [] ≡ as_walked []
kept_none place = mend_end place ∙ (λ i. record { bytes = []; objects = (sym walk_end i).objects; changes = [] })

kept_from : (n place : ℕ) (s : List ℕ) → length s ≤ n → (walk s).ending ≡ End → mend_from place s ≡ as_walked s
kept_from zero place [] h e = kept_none place
kept_from zero place (b ∷ s) h e = absurd (not-suc-le-zero h)
kept_from (suc n) place [] h e = kept_none place
kept_from (suc n) place (b ∷ s) h e =
    kept_on n place b s e (λ p r l w. kept_from n p r (omega (arith, le_of_suc-le-suc h)) w) (object_at (b ∷ s)) refl (strict (b ∷ s))

pub mend_kept : (place : ℕ) (s : List ℕ) → (walk s).ending ≡ End → mend_from place s ≡ as_walked s
mend_kept place s e = kept_from (length s) place s (omega arith) e
