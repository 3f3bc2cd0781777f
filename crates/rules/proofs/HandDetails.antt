-- The details that are at hand, of the objects of a frame: those of the walk.
-- Assumes nothing.
use Prim.Native.Nat.{ℕ}
use mathlib.Core.Path.{◌≡◌, refl, sym, ap, ◌∙◌}
use mathlib.Core.Bool.{Bool, true, false, not, ◌&&◌, false≢true}
use mathlib.Core.List.{List, [], ◌∷◌}
use lib.ListN.{length}
use lib.Dec.{eqb}
use borrow.Author.Tests.{eqb-true, eq-eqb}
use Rattle.rules.specs.declared.Details.{Details}
use Rattle.rules.specs.Checks.{is_empty}
use Rattle.rules.specs.Frames.{Object, ObjectRead, object, faulty, tag_at, after_tag, object_at, Walk, walk, framed, contents}
use Rattle.rules.specs.Table.{value_of}
use Rattle.rules.specs.Reading.{Reading, wrong, asked, read_objects, zeros, details_of, details_in, starts_with_details}
use Rattle.rules.specs.AtHand.{front_of, details_first, details_told}
use Rattle.rules.proofs.Laws.{branch, stop, skip, same_kind, both_left, not_not}
use Rattle.rules.proofs.Walks.{walk_end, walk_fault, walk_object}
use Rattle.rules.proofs.Readings.{details_told_lem}

-- objects that do not start with 01 of length 3 tell zeros
first_zero : (os : List Object) → starts_with_details os ≡ false → zeros ≡ details_first os
unfolding details_first
first_zero os e = sym (skip _ _ _ e)

-- the first one alone is looked at
first_same : (o : Object) (os : List Object) → details_first (o ∷ []) ≡ details_first (o ∷ os)
unfolding details_first starts_with_details value_of
first_same o os =
    let starts = eqb o.number 0x01 && eqb (length o.value) 3 in
    same_kind starts starts _ _ _ _ refl
    (λ e.
    let n = eqb-true o.number 0x01 (both_left _ _ e) in
    let q = eq-eqb 0x01 o.number (sym n) in
    ap details_in (stop _ _ _ q ∙ sym (stop _ _ _ q)))
    (λ _. refl)

first_alone : (t : List ℕ) → details_first (front_of (object_at t)) ≡ details_first (walk t).objects
unfolding front_of object_at tag_at after_tag
first_alone [] = ap details_first (sym (ap (λ (w : Walk). w.objects) walk_end))
first_alone (b ∷ s) = by (object_at (b ∷ s)) refl
  where
    by : (x : ObjectRead) → object_at (b ∷ s) ≡ x → details_first (front_of x) ≡ details_first (walk (b ∷ s)).objects
    by (faulty e) q = sym (ap (λ (w : Walk). details_first w.objects) (walk_fault b s e q))
    by (object o r) q = first_same o (walk r).objects ∙ sym (ap (λ (w : Walk). details_first w.objects) (walk_object b s o r q))

-- the details with which a reading ends
abbrev pub read_with : Reading → Details
read_with (wrong d e) = d
read_with (asked c i) = details_of c

no_objects : (t : List ℕ) → is_empty t ≡ true → starts_with_details (walk t).objects ≡ false
unfolding is_empty starts_with_details
no_objects [] e = ap (λ (w : Walk). starts_with_details w.objects) walk_end
no_objects (b ∷ t) e = absurd (false≢true e)

none_first : (os : List Object) → is_empty os ≡ true → starts_with_details os ≡ false
unfolding is_empty starts_with_details
none_first [] e = refl
none_first (o ∷ os) e = absurd (false≢true e)

pub not-true : (b : Bool) → not b ≡ true → b ≡ false
not-true true e = sym e
not-true false e = refl

pub told_first : (os : List Object) → starts_with_details os ≡ true → details_in (value_of 0x01 os) ≡ details_first os
unfolding details_first
told_first os e = sym (stop _ _ _ e)

-- steps 3 to 8 end with the details that the first object tells
pub objects_details : (p t : List ℕ) → read_with (read_objects p t) ≡ details_first (walk t).objects
unfolding read_objects
objects_details p t =
    let os = (walk t).objects in
    let d = details_in (value_of 0x01 os) in
    let Q : Reading → Type 0 = λ (r : Reading). read_with r ≡ details_first os in
    branch Q _ _ _ (λ e. first_zero os (no_objects t e)) (λ _.
    branch Q _ _ _ (λ e. first_zero os (none_first os e)) (λ _.
    branch Q _ _ _ (λ e. first_zero os (not-true (starts_with_details os) e)) (λ e.
    let is : d ≡ details_first os = told_first os (not_not (starts_with_details os) e) in
    branch Q _ _ _ (λ _. is) (λ _.
    branch Q _ _ _ (λ _. is) (λ _.
    branch Q _ _ _ (λ _. is) (λ _.
    branch Q _ _ _ (λ _. is) (λ _.
    branch Q _ _ _ (λ _. is) (λ _.
    branch Q _ _ _ (λ _. is) (λ _.
    branch Q _ _ _ (λ _. is) (λ _. details_told_lem d _ ∙ is))))))))))

-- in a right frame these are the details of the command
pub framed_details : (s : List ℕ) → framed s ≡ true → details_told s ≡ details_first (walk (contents s)).objects
unfolding details_told
framed_details s e = stop _ _ _ e ∙ first_alone (contents s)
