-- M-110, the bytes: where the walk meets the first 36, another value as long leaves every other object as it was.
-- Assumes nothing.
use Prim.Native.Nat.{ℕ, zero, suc, ◌+◌}
use mathlib.Core.Path.{◌≡◌, refl, sym, ap, subst, subst₂, ◌∙◌}
use mathlib.Core.Bool.{Bool, true, false, false≢true}
use mathlib.Core.Option.{Option, some}
use mathlib.Core.List.{List, [], ◌∷◌, ◌++◌, append_assoc}
use native.Mathlib.Omega.{arith}
use lib.ListN.{length, take, drop, length-append, length-take, take-append-drop}
use lib.Dec.{eqb}
use Rattle.rules.specs.declared.ChannelNumber.{ChannelNumber}
use Rattle.rules.specs.Frames.{LengthRead, len, no_length, long_length, length_at, length_bytes, Object, TagRead, tag, no_tag, long_tag, tag_at, ObjectRead, object, faulty, value_after, after_tag, object_at, Walk, walk, fills, following, framed, contents}
use Rattle.rules.specs.Separation.{Asks, Found, or_on, first_up_to, framing, OtherData}
use borrow.Author.Tests.{eq-eqb, eqb-true, ltb-false}
use Rattle.rules.proofs.Laws.{branch, stop, skip}
use Rattle.rules.proofs.Forms.{length_back, value_back}
use Rattle.rules.proofs.TagForms.{walk_met}
use Rattle.rules.proofs.SeparationReading.{OtherValue, LikeFrames}

-- the bytes of two commands' objects, as they stand: the same bytes, object by object, up to the first 36; there the same bytes in front of a value, another value, as long, and the same bytes behind it, whatever they are
pub data OtherBytes : List ℕ → List ℕ → Type 0 where
  here :
      (x v w y : List ℕ) (f : Bool) → object_at (x ++ (v ++ y)) ≡ object (record { number = 0x36; flag = f; value = v }) y → length v ≡ length w →
      OtherBytes (x ++ (v ++ y)) (x ++ (w ++ y))
  behind : (x s t : List ℕ) (o : Object) → eqb 0x36 o.number ≡ false → object_at (x ++ s) ≡ object o s → OtherBytes s t → OtherBytes (x ++ s) (x ++ t)

-- the bytes of an object: a head that is read so in front of any value as long, and of anything behind it

record LengthParts (x : List ℕ) (n : ℕ) (r : List ℕ) : Type 0 where
  head : List ℕ
  parts : x ≡ head ++ r
  anywhere : (t : List ℕ) → length_at (head ++ t) ≡ len n t

record TagParts (x : List ℕ) (k : ℕ) (f : Bool) (r : List ℕ) : Type 0 where
  head : List ℕ
  parts : x ≡ head ++ r
  anywhere : (t : List ℕ) → tag_at (head ++ t) ≡ tag k f t

record ObjectParts (x : List ℕ) (o : Object) (r : List ℕ) : Type 0 where
  head : List ℕ
  parts : x ≡ head ++ (o.value ++ r)
  anywhere : (v t : List ℕ) → length v ≡ length o.value → object_at (head ++ (v ++ t)) ≡ object (record { number = o.number; flag = o.flag; value = v }) t

abbrev LengthOf : List ℕ → LengthRead → Type 0
LengthOf x no_length = Unit {0}
LengthOf x (len n r) = LengthParts x n r

abbrev TagOf : List ℕ → TagRead → Type 0
TagOf x no_tag = Unit {0}
TagOf x (tag k f r) = TagParts x k f r

abbrev ObjectOf : List ℕ → ObjectRead → Type 0
ObjectOf x (faulty e) = Unit {0}
ObjectOf x (object o r) = ObjectParts x o r

-- what is read of a length, of a tag, and of an object
length_parts : (x : List ℕ) → LengthOf x (length_at x)
unfolding length_at long_length
length_parts [] = tt
length_parts (b ∷ []) =
    branch (LengthOf (b ∷ [])) _ _ _ (λ e. record { head = b ∷ []; parts = refl; anywhere = λ t. stop _ _ _ e }) (λ _.
    branch (LengthOf (b ∷ [])) _ _ _ (λ _. tt) (λ _. tt))
length_parts (b ∷ c ∷ s) =
    branch (LengthOf (b ∷ c ∷ s)) _ _ _ (λ e. record { head = b ∷ []; parts = refl; anywhere = λ t. stop _ _ _ e }) (λ e.
    branch (LengthOf (b ∷ c ∷ s)) _ _ _
    (λ f. branch (LengthOf (b ∷ c ∷ s)) _ _ _
    (λ g. record { head = b ∷ c ∷ []; parts = refl; anywhere = λ t. skip _ _ _ e ∙ stop _ _ _ f ∙ stop _ _ _ g }) (λ _. tt)) (λ _. tt))

long_parts : (b : ℕ) (s : List ℕ) → eqb b 0x7F ≡ true → TagOf (b ∷ s) (long_tag s)
unfolding long_tag tag_at
long_parts b [] e = tt
long_parts b (c ∷ []) e = tt
long_parts b (c ∷ d ∷ s) e =
    branch (TagOf (b ∷ c ∷ d ∷ s)) _ _ _ (λ _. tt) (λ f. record { head = b ∷ c ∷ d ∷ []; parts = refl; anywhere = λ t. stop _ _ _ e ∙ skip _ _ _ f })

tag_parts : (x : List ℕ) → TagOf x (tag_at x)
unfolding tag_at
tag_parts [] = tt
tag_parts (b ∷ s) =
    branch (TagOf (b ∷ s)) _ _ _ (λ e. long_parts b s e) (λ e.
    branch (TagOf (b ∷ s)) _ _ _ (λ _. tt) (λ f. record { head = b ∷ []; parts = refl; anywhere = λ t. skip _ _ _ e ∙ skip _ _ _ f }))

value_parts : (x : List ℕ) (k : ℕ) (f : Bool) (s : List ℕ) → TagParts x k f s → (l : LengthRead) → LengthOf s l → ObjectOf x (value_after k f l)
unfolding value_after object_at after_tag
value_parts x k f s p no_length q = tt
value_parts x k f s p (len n y) q =
    branch (ObjectOf x) _ _ _ (λ _. tt)
    (λ e.
    record {
      head = p.head ++ q.head;
      parts =
          p.parts ∙ ap (λ (z : List ℕ). p.head ++ z) (q.parts ∙ ap (λ (z : List ℕ). q.head ++ z) (sym (take-append-drop n y)))
          ∙ sym (append_assoc p.head q.head (take n y ++ drop n y));
      anywhere =
          λ v t l.
          let o : Object = record { number = k; flag = f; value = v } in
          let m : n ≡ length v = omega (arith, l, length-take n y, ltb-false (length y) n e) in
          ap object_at (append_assoc p.head q.head (v ++ t)) ∙ ap after_tag (p.anywhere (q.head ++ (v ++ t))) ∙ ap (value_after k f) (q.anywhere (v ++ t))
          ∙ ap (λ (j : ℕ). value_after k f (len j (v ++ t))) m ∙ value_back o t;
    })

object_parts : (x : List ℕ) → ObjectOf x (object_at x)
unfolding object_at after_tag
object_parts x = by (tag_at x) (tag_parts x)
  where
    by : (z : TagRead) → TagOf x z → ObjectOf x (after_tag z)
    by no_tag p = tt
    by (tag k f s) p = value_parts x k f s p (length_at s) (length_parts s)

-- what stands in front of the same bytes
cancel : (x y s : List ℕ) → x ++ s ≡ y ++ s → x ≡ y
cancel [] [] s e = refl
cancel [] (b ∷ y) s e = absurd (let q = ap (λ (l : List ℕ). length l) e in omega (arith, q, length-append (b ∷ y) s))
cancel (a ∷ x) [] s e = absurd (let q = ap (λ (l : List ℕ). length l) e in omega (arith, q, length-append (a ∷ x) s))
cancel (a ∷ x) (b ∷ y) s e =
    let p : a ≡ b = cc in
    let q : x ++ s ≡ y ++ s = cc in
    let r = cancel x y s q in
    λ i. p i ∷ r i

-- another value, as long, in the place of the value
other_object : (x v w y : List ℕ) (f : Bool) → object_at (x ++ (v ++ y)) ≡ object (record { number = 0x36; flag = f; value = v }) y → length v ≡ length w → object_at (x ++ (w ++ y)) ≡ object (record { number = 0x36; flag = f; value = w }) y
other_object x v w y f e l =
    let p = subst (ObjectOf (x ++ (v ++ y))) e (object_parts (x ++ (v ++ y))) in
    ap (λ (g : List ℕ). object_at (g ++ (w ++ y))) (cancel x p.head (v ++ y) p.parts) ∙ p.anywhere w y (sym l)

-- another rest behind an object
other_rest : (x s t : List ℕ) (o : Object) → object_at (x ++ s) ≡ object o s → object_at (x ++ t) ≡ object o t
other_rest x s t o e =
    let p = subst (ObjectOf (x ++ s)) e (object_parts (x ++ s)) in
    let is = cancel x (p.head ++ o.value) s (p.parts ∙ sym (append_assoc p.head o.value s)) in
    ap (λ (g : List ℕ). object_at (g ++ t)) is ∙ ap object_at (append_assoc p.head o.value t) ∙ p.anywhere o.value t refl

-- what the walks over two such strings of bytes meet
record LikeWalks (s t : List ℕ) : Type 0 where
  objects : OtherValue (walk s).objects (walk t).objects
  ending : (walk s).ending ≡ (walk t).ending
  long : length s ≡ length t

bytes_walked : {s t : List ℕ} → OtherBytes s t → LikeWalks s t
bytes_walked (OtherBytes.here x v w y f e l) =
    let a = walk_met _ _ _ e in
    let b = walk_met _ _ _ (other_object x v w y f e l) in
    record {
      objects = subst₂ OtherValue (ap (λ (z : Walk). z.objects) (sym a)) (ap (λ (z : Walk). z.objects) (sym b)) (OtherValue.here f v w (walk y).objects l);
      ending = ap (λ (z : Walk). z.ending) a ∙ sym (ap (λ (z : Walk). z.ending) b);
      long = omega (arith, l, length-append x (v ++ y), length-append v y, length-append x (w ++ y), length-append w y);
    }
bytes_walked (OtherBytes.behind x s t o e q h) =
    let ih = bytes_walked h in
    let a = walk_met _ _ _ q in
    let b = walk_met _ _ _ (other_rest x s t o q) in
    record {
      objects = subst₂ OtherValue (ap (λ (z : Walk). z.objects) (sym a)) (ap (λ (z : Walk). z.objects) (sym b)) (OtherValue.behind o _ _ e ih.objects);
      ending = ap (λ (z : Walk). z.ending) a ∙ ih.ending ∙ ap (λ (z : Walk). z.ending) (sym b);
      long = omega (arith, ih.long, length-append x s, length-append x t);
    }

-- a right frame is read as one, with its bytes
framing_back : (x : List ℕ) → (framed (framing x) ≡ true) × (contents (framing x) ≡ x)
unfolding framed contents fills following
framing_back x =
    let e = length_back (length x) x in
    (ap fills e ∙ eq-eqb (length x) (length x) refl, ap following e)

-- right frames whose bytes differ in the value of the first 36 alone, of a SEND DATA to n, differ in its data
bytes_data :
    (n : ChannelNumber) (x y : List ℕ) → OtherBytes x y → Asks 0x43 n (framing x) → LikeFrames n (framing x) (framing y)
bytes_data n x y h asks =
    let w = bytes_walked h in
    let a = framing_back x in
    let b = framing_back y in
    record {
      right = (a.0, b.0);
      long =
          ap (λ (l : ℕ). suc l)
          (length-append (length_bytes (length x)) x ∙ (λ i. length (length_bytes (w.long i)) + w.long i) ∙ sym (length-append (length_bytes (length y)) y));
      objects = subst₂ (λ (s t : List ℕ). OtherValue (walk s).objects (walk t).objects) (sym a.1) (sym b.1) w.objects;
      ending = ap (λ (s : List ℕ). (walk s).ending) a.1 ∙ w.ending ∙ ap (λ (s : List ℕ). (walk s).ending) (sym b.1);
      sends = asks;
    }

-- where the walk meets the first 36, the bytes stand so, and with another value, as long, they are other bytes
record Standing (s v y : List ℕ) : Type 0 where
  front : List ℕ
  stands : s ≡ front ++ (v ++ y)
  replace : (w : List ℕ) → length v ≡ length w → OtherBytes s (front ++ (w ++ y))

module _ (n : ℕ) (s v y : List ℕ) (ih : (r : List ℕ) → first_up_to n r ≡ some (record { value = v; behind = y }) → Standing r v y) where
  -- at the first object, and at one behind it
  met : (x : ObjectRead) → object_at s ≡ x → ObjectOf s x → or_on x (first_up_to n) ≡ some (record { value = v; behind = y }) → Standing s v y
  unfolding or_on
  met (faulty e) p o q = absurd (false≢true (cc))
  met (object a r) p o q =
      branch (λ (z : Option Found). z ≡ some (record { value = v; behind = y }) → Standing s v y) (eqb 0x36 a.number) _ _
      (λ e z.
      let f : ◌≡◌ {A = Found} (record { value = a.value; behind = r }) (record { value = v; behind = y }) = cc in
      let stands = o.parts ∙ (λ i. o.head ++ ((f i).value ++ (f i).behind)) in
      let read = ap object_at (sym stands) ∙ p ∙ (λ i. object (record { number = sym (eqb-true 0x36 a.number e) i; flag = a.flag; value = (f i).value }) (f i).behind) in
      record {
        front = o.head;
        stands = stands;
        replace = λ w l. subst (λ (x : List ℕ). OtherBytes x (o.head ++ (w ++ y))) (sym stands) (OtherBytes.here o.head v w y a.flag read l);
      })
      (λ e z.
      let rest = ih r z in
      let g = o.head ++ a.value in
      let whole = o.parts ∙ sym (append_assoc o.head a.value r) in
      record {
        front = g ++ rest.front;
        stands = whole ∙ ap (λ (x : List ℕ). g ++ x) rest.stands ∙ sym (append_assoc g rest.front (v ++ y));
        replace =
            λ w l.
            subst₂ OtherBytes (sym whole) (sym (append_assoc g rest.front (w ++ y)))
            (OtherBytes.behind g r (rest.front ++ (w ++ y)) a e (ap object_at (sym whole) ∙ p) (rest.replace w l));
      })
      q

standing : (n : ℕ) (s v y : List ℕ) → first_up_to n s ≡ some (record { value = v; behind = y }) → Standing s v y
unfolding first_up_to
standing zero s v y e = absurd (false≢true (cc))
standing (suc n) s v y e = met n s v y (λ r q. standing n r v y q) (object_at s) refl (object_parts s) e

-- so SEND DATA that differ in their data are such frames
pub data_frames : (n : ChannelNumber) (s t : List ℕ) → OtherData n s t → LikeFrames n s t
data_frames n s t h =
    let x = h.front ++ (h.value ++ h.behind) in
    let z = standing (length x) x h.value h.behind h.found in
    let same = cancel h.front z.front (h.value ++ h.behind) z.stands in
    let bytes = subst (λ (g : List ℕ). OtherBytes x (g ++ (h.other ++ h.behind))) (sym same) (z.replace h.other h.long) in
    subst₂ (LikeFrames n) (sym h.stands) (sym h.replaced)
    (bytes_data n x (h.front ++ (h.other ++ h.behind)) bytes (subst (Asks 0x43 n) h.stands h.sends))
