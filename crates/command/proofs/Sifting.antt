-- One object more: what it does to the sifted objects and their survey, to how often a number stands, and to the value of its first object.
-- Assumes nothing.
use Prim.Native.Nat.{ℕ, suc, ◌+◌}
use mathlib.Core.Path.{◌≡◌, refl, sym, ap, ◌∙◌}
use mathlib.Core.Bool.{Bool, true, false, not, ◌&&◌, ◌||◌}
use mathlib.Core.List.{List, [], ◌∷◌, ◌++◌, map}
use native.Mathlib.Omega.{arith}
use lib.ListN.{get_or, set}
use Rattle.std.specs.Prelude.{Some, None}
use lib.Dec.{ltb, eqb}
use borrow.Author.Tests.{eq-eqb, ne_eqb}
use Rattle.rules.specs.Checks.{◌⇒◌else◌, is_empty, every, some_of, occurrences, member}
use Rattle.rules.specs.Frames.{Object}
use Rattle.rules.specs.Table.{Row, Sifted, sift, times, present, value_of, length_fits, measured}
use Rattle.rules.proofs.Laws.{stop, skip}
use Rattle.command.specs.declared.Met.{Met}
use Rattle.command.specs.Surveys.{survey_of, noted, slot_of, met, place_in}

-- the first object in a slot, and one more
module _ (m : Met) (k start : ℕ) where
  pub met_first : get_or m.counts k 0 ≡ 0 → record { counts = set m.counts k (get_or m.counts k 0 + 1); starts = set m.starts k start } ≡ met m k start
  met_first e =
      let q = stop (eqb (get_or m.counts k 0) 0) (set m.starts k start) m.starts (eq-eqb (get_or m.counts k 0) 0 e) in
      λ i. record { counts = set m.counts k (get_or m.counts k 0 + 1); starts = sym q i }

  pub met_more : (get_or m.counts k 0 ≡ 0 → ⊥) → record { counts = set m.counts k (get_or m.counts k 0 + 1); starts = m.starts } ≡ met m k start
  met_more e =
      let q = skip (eqb (get_or m.counts k 0) 0) (set m.starts k start) m.starts (ne_eqb (get_or m.counts k 0) 0 e) in
      λ i. record { counts = set m.counts k (get_or m.counts k 0 + 1); starts = sym q i }

-- no object of a number, and the place of the first
module _ (m : Met) (n : ℕ) {k : ℕ} (e : k ≡ slot_of n) where
  start_is : get_or m.starts k 0 ≡ get_or m.starts (slot_of n) 0
  start_is = ap (λ (j : ℕ). get_or m.starts j 0) e

  pub place_none : get_or m.starts k 0 ≡ 0 → None ≡ place_in m n
  place_none z = sym (stop _ _ _ (eq-eqb (get_or m.starts (slot_of n) 0) 0 (sym start_is ∙ z)))

  pub place_some : {x : ℕ} → x ≡ get_or m.starts k 0 → (get_or m.starts k 0 ≡ 0 → ⊥) → Some x ≡ place_in m n
  place_some w z = ap Some (w ∙ start_is) ∙ sym (skip _ _ _ (ne_eqb (get_or m.starts (slot_of n) 0) 0 (λ q. z (start_is ∙ q))))

abbrev pub numbers : List Object → List ℕ
numbers os = map (λ (o : Object). o.number) os

-- how often a number stands in a list with one more at either end
one_or_none : (b : Bool) (k : ℕ) → (b ⇒ suc k else k) ≡ (b ⇒ 1 else 0) + k
unfolding ◌⇒◌else◌
one_or_none true k = omega arith
one_or_none false k = omega arith

occurs_cons : (n x : ℕ) (xs : List ℕ) → occurrences n (x ∷ xs) ≡ (eqb n x ⇒ 1 else 0) + occurrences n xs
unfolding occurrences
occurs_cons n x xs = one_or_none (eqb n x) (occurrences n xs)

occurs_none : (n : ℕ) → occurrences n [] ≡ 0
unfolding occurrences
occurs_none n = refl

pub occurs_more : (n : ℕ) (os : List Object) (o : Object) → occurrences n (numbers (os ++ (o ∷ []))) ≡ occurrences n (numbers os) + (eqb n o.number ⇒ 1 else 0)
occurs_more n [] o =
    let a = occurs_cons n o.number [] in
    let z = occurs_none n in
    omega arith
occurs_more n (x ∷ os) o =
    let a = occurs_cons n x.number (numbers (os ++ (o ∷ []))) in
    let b = occurs_cons n x.number (numbers os) in
    let ih = occurs_more n os o in
    omega arith

some_eqb : (k : ℕ) → eqb (suc k) 0 ≡ false
some_eqb k = ne_eqb (suc k) 0 (λ e. absurd (omega arith))

-- a number stands among objects where it occurs
pub occurs_present : (n : ℕ) (os : List Object) → eqb (occurrences n (numbers os)) 0 ≡ not (present n os)
unfolding occurrences present member some_of ◌⇒◌else◌
occurs_present n [] = refl
occurs_present n (o ∷ os) = by (eqb n o.number) (occurs_present n os)
  where
    by : (b : Bool) → eqb (occurrences n (numbers os)) 0 ≡ not (present n os) →
        eqb (b ⇒ suc (occurrences n (numbers os)) else occurrences n (numbers os)) 0 ≡ not (b || present n os)
    by true e = some_eqb (occurrences n (numbers os))
    by false e = e

-- the value of the first object of a number: among the first objects where it occurs there, or of the one behind them
pub value_more :
    (n : ℕ) (os : List Object) (o : Object) →
    value_of n (os ++ (o ∷ [])) ≡ (eqb (occurrences n (numbers os)) 0 ⇒ (eqb n o.number ⇒ o.value else []) else value_of n os)
unfolding value_of occurrences ◌⇒◌else◌
value_more n [] o = refl
value_more n (x ∷ os) o = by (eqb n x.number) (value_more n os o)
  where
    by : (b : Bool) →
        value_of n (os ++ (o ∷ [])) ≡ (eqb (occurrences n (numbers os)) 0 ⇒ (eqb n o.number ⇒ o.value else []) else value_of n os) →
        (b ⇒ x.value else value_of n (os ++ (o ∷ []))) ≡
        (eqb (b ⇒ suc (occurrences n (numbers os)) else occurrences n (numbers os)) 0 ⇒ (eqb n o.number ⇒ o.value else []) else
        (b ⇒ x.value else value_of n os))
    by true e = sym (skip _ _ _ (some_eqb (occurrences n (numbers os))))
    by false e = e

pub value_none : (n : ℕ) (os : List Object) → occurrences n (numbers os) ≡ 0 → value_of n os ≡ []
unfolding value_of occurrences ◌⇒◌else◌
value_none n [] e = refl
value_none n (o ∷ os) e = by (eqb n o.number) e (value_none n os)
  where
    by : (b : Bool) → (b ⇒ suc (occurrences n (numbers os)) else occurrences n (numbers os)) ≡ 0 →
        (occurrences n (numbers os) ≡ 0 → value_of n os ≡ []) → (b ⇒ o.value else value_of n os) ≡ []
    by true e ih = absurd (omega arith)
    by false e ih = ih e

-- sifted objects with one object more at the end
abbrev pub more : Sifted → Bool → Object → Sifted
more s b o =
    b ⇒ record { counting = s.counting ++ (o ∷ []); unexpected = s.unexpected } else
    record { counting = s.counting; unexpected = s.unexpected ++ (o ∷ []) }

-- and with one before the others
abbrev before : Bool → Object → Sifted → Sifted
before b o w =
    b ⇒ record { counting = o ∷ w.counting; unexpected = w.unexpected } else record { counting = w.counting; unexpected = o ∷ w.unexpected }

before_more : (s : Sifted) (x o : Object) (b d : Bool) → before b x (more s d o) ≡ more (before b x s) d o
unfolding ◌⇒◌else◌
before_more s x o true true = refl
before_more s x o true false = refl
before_more s x o false true = refl
before_more s x o false false = refl

sift_from :
    (r : Row) (seen : List ℕ) (os : List Object) (o : Object) →
    sift r seen (os ++ (o ∷ [])) ≡ more (sift r seen os) (ltb (occurrences o.number (numbers os) + occurrences o.number seen) (times r o.number)) o
unfolding sift
sift_from r seen [] o =
    let n = o.number in
    let e : occurrences n seen ≡ occurrences n [] + occurrences n seen = let z = occurs_none n in omega arith in
    ap (λ (k : ℕ). more (record { counting = []; unexpected = [] }) (ltb k (times r n)) o) e
sift_from r seen (x ∷ os) o =
    let n = o.number in
    let s = sift r (x.number ∷ seen) os in
    let b = ltb (occurrences x.number seen) (times r x.number) in
    let e : occurrences n (numbers os) + occurrences n (x.number ∷ seen) ≡ occurrences n (numbers (x ∷ os)) + occurrences n seen =
    let u = occurs_cons n x.number seen in let v = occurs_cons n x.number (numbers os) in omega arith in
    ap (before b x) (sift_from r (x.number ∷ seen) os o)
    ∙ before_more s x o b (ltb (occurrences n (numbers os) + occurrences n (x.number ∷ seen)) (times r n))
    ∙ ap (λ (k : ℕ). more (before b x s) (ltb k (times r n)) o) e

pub sift_more :
    (r : Row) (os : List Object) (o : Object) →
    sift r [] (os ++ (o ∷ [])) ≡ more (sift r [] os) (ltb (occurrences o.number (numbers os)) (times r o.number)) o
sift_more r os o =
    let n = o.number in
    let e : occurrences n (numbers os) + occurrences n [] ≡ occurrences n (numbers os) = let z = occurs_none n in omega arith in
    sift_from r [] os o ∙ ap (λ (k : ℕ). more (sift r [] os) (ltb k (times r n)) o) e

-- the survey's three tests on a list with one more at the end
some_more : (f : Object → Bool) (os : List Object) (o : Object) → some_of f os || f o ≡ some_of f (os ++ (o ∷ []))
unfolding some_of
some_more f [] o = or_none (f o)
  where
    or_none : (b : Bool) → b ≡ b || false
    or_none true = refl
    or_none false = refl
some_more f (x ∷ os) o = or_assoc (f x) (some_of f os) (f o) ∙ ap (λ (b : Bool). f x || b) (some_more f os o)
  where
    or_assoc : (a b c : Bool) → a || b || c ≡ a || (b || c)
    or_assoc true b c = refl
    or_assoc false b c = refl

every_more : (f : Object → Bool) (os : List Object) (o : Object) → not (every f os) || not (f o) ≡ not (every f (os ++ (o ∷ [])))
unfolding every
every_more f [] o = and_true (f o)
  where
    and_true : (b : Bool) → not b ≡ not (b && true)
    and_true true = refl
    and_true false = refl
every_more f (x ∷ os) o = by (f x) (every_more f os o)
  where
    by : (b : Bool) → not (every f os) || not (f o) ≡ not (every f (os ++ (o ∷ []))) →
        not (b && every f os) || not (f o) ≡ not (b && every f (os ++ (o ∷ [])))
    by true e = e
    by false e = refl

some_there : (os : List Object) (o : Object) → true ≡ not (is_empty (os ++ (o ∷ [])))
unfolding is_empty
some_there [] o = refl
some_there (x ∷ os) o = refl

pub survey_more : (f : Sifted) (b : Bool) (o : Object) → noted (survey_of f) b (length_fits o.number o.value) o.flag ≡ survey_of (more f b o)
unfolding noted measured ◌⇒◌else◌
survey_more f true o =
    λ i.
    record {
      flagged = some_of (λ (x : Object). x.flag) f.unexpected;
      ignored = not (is_empty f.unexpected);
      misfit = every_more (λ (x : Object). length_fits x.number x.value) f.counting o i;
    }
survey_more f false o =
    λ i.
    record {
      flagged = some_more (λ (x : Object). x.flag) f.unexpected o i;
      ignored = some_there f.unexpected o i;
      misfit = not (measured f.counting);
    }
