-- One tag, one length and one object at a place, case by case.
-- Assumes nothing.
use Prim.Native.Nat.{ℕ, ◌+◌, ◌-◌, ◌*◌, ◌%◌, ◌≤◌, ◌<◌}
use mathlib.Core.Path.{◌≡◌, refl, sym, ap, subst, ◌∙◌}
use mathlib.Core.Bool.{Bool, ◌||◌}
use mathlib.Core.List.{List, [], ◌∷◌}
use native.Mathlib.Omega.{arith}
use native.Mathlib.Numerals.{add-one}
use lib.ListN.{length, take, drop, get_or, length-drop, drop_of_length-le}
use lib.Seq.{drop-cons, drop-drop}
use lib.Dec.{eqb, leb}
use borrow.Author.Tests.{lt-ltb, le-ltb, le-leb, lt-leb, eq-eqb, ne_eqb}
use Rattle.rules.specs.declared.Ending.TheVariants.{BadTag, BadLength, CutValue}
use Rattle.rules.specs.Frames.{long_tag, tag_at, tag, no_tag, len, no_length, long_length, length_at, object, faulty, value_after, after_tag, object_at}
use Rattle.rules.specs.Checks.{◌⇒◌else◌}
use Rattle.rules.proofs.Laws.{stop, skip, or_right}
use Rattle.std.specs.Prelude.{Option, Some, None}
use Rattle.objects.specs.declared.Tag.{Tag}
use Rattle.objects.specs.Places.{LongTagAt, LongTags, TagAt, Tags, LengthAt, Stands}

pub cons_at : (s : List ℕ) (at : ℕ) → at < length s → drop at s ≡ get_or s at 0 ∷ drop (at + 1) s
cons_at s at h = drop-cons s at 0 h ∙ ap (λ (k : ℕ). get_or s at 0 ∷ drop k s) (sym (add-one at))

-- a byte stands at a place
pub record Byte (s : List ℕ) (at b : ℕ) : Type 0 where
  pub within : at < length s
  pub value : get_or s at 0 ≡ b
  pub is : drop at s ≡ b ∷ drop (at + 1) s

pub byte_there : {s : List ℕ} {at b : ℕ} → (at < length s) × ((d : ℕ) → b ≡ get_or s at d) → Byte s at b
byte_there {s} {at} h =
    let v = sym (h.1 0) in record { within = h.0; value = v; is = cons_at s at h.0 ∙ ap (λ (k : ℕ). k ∷ drop (at + 1) s) v }

pub none_there : (s : List ℕ) (at : ℕ) → length s ≤ at → drop at s ≡ []
none_there s at h = drop_of_length-le s h

-- the two bytes behind a 7F
module _ (s : List ℕ) (at : ℕ) where
  pub second_none : length s ≤ at → long_tag (drop at s) ≡ no_tag
  unfolding long_tag
  second_none h = ap long_tag (none_there s at h)

module _ {s : List ℕ} {at : ℕ} where
  module _ {b : ℕ} (x : Byte s at b) where
    pub third_none : length s ≤ at + 1 → long_tag (drop at s) ≡ no_tag
    unfolding long_tag
    third_none h = ap long_tag (x.is ∙ ap (λ (l : List ℕ). b ∷ l) (none_there s (at + 1) h))

    module _ {c : ℕ} (y : Byte s (at + 1) c) {n : ℕ} (e : n ≡ b % 0x80 * 256 + c) where
      number_is : n ≡ 256 * (b % 0x80) + c
      number_is = omega (arith, e)

      both_there : long_tag (drop at s) ≡ (eqb n 0 ⇒ no_tag else tag n (leb 0x80 b) (drop (at + 2) s))
      unfolding long_tag
      both_there =
          let two : at + 1 + 1 ≡ at + 2 = omega arith in
          ap long_tag (x.is ∙ ap (λ (l : List ℕ). b ∷ l) y.is)
          ∙ (λ i. eqb (sym number_is i) 0 ⇒ no_tag else tag (sym number_is i) (leb 0x80 b) (drop (two i) s))

      pub long_zero : n ≡ 0 → long_tag (drop at s) ≡ no_tag
      long_zero z = both_there ∙ stop _ _ _ (eq-eqb n 0 z)

      pub long_read : (n ≡ 0 → ⊥) → LongTagAt s at n (leb 0x80 b) (at + 2)
      long_read z = let w = y.within in record { is = both_there ∙ skip _ _ _ (ne_eqb n 0 z); behind = omega arith; within = omega arith }

-- the tag at a place
module _ (s : List ℕ) (at : ℕ) where
  pub tag_none : length s ≤ at → tag_at (drop at s) ≡ no_tag
  unfolding tag_at
  tag_none h = ap tag_at (none_there s at h)

module _ {s : List ℕ} {at : ℕ} where
  module _ {b : ℕ} (x : Byte s at b) where
    pub tag_long : (r : Option Tag) → b ≡ 0x7F → LongTags r s (at + 1) → Tags r s at
    unfolding tag_at
    tag_long (Some l) e w = record { is = ap tag_at x.is ∙ stop _ _ _ (eq-eqb b 0x7F e) ∙ w.is; behind = omega (arith, w.behind); within = w.within }
    tag_long None e w = ap tag_at x.is ∙ stop _ _ _ (eq-eqb b 0x7F e) ∙ w

    module _ (k : b ≡ 0x7F → ⊥) where
      short : tag_at (drop at s) ≡ (eqb (b % 0x80) 0 || eqb (b % 0x80) 0x7F ⇒ no_tag else tag (b % 0x80) (leb 0x80 b) (drop (at + 1) s))
      unfolding tag_at
      short = ap tag_at x.is ∙ skip _ _ _ (ne_eqb b 0x7F k)

      pub tag_last : b % 0x80 ≡ 0x7F → tag_at (drop at s) ≡ no_tag
      tag_last z = short ∙ stop _ _ _ (or_right (eqb (b % 0x80) 0) _ (eq-eqb (b % 0x80) 0x7F z))

    seven : {k : ℕ} → (b % 0x80 ≡ k) → (0x7F ≡ k → ⊥) → b ≡ 0x7F → ⊥
    seven z k e = k (sym (ap (λ (x : ℕ). x % 0x80) e) ∙ z)

    pub tag_zero : b % 0x80 ≡ 0 → tag_at (drop at s) ≡ no_tag
    tag_zero z = short (seven z (λ e. omega arith)) ∙ stop _ _ _ (ap (λ (c : Bool). c || eqb (b % 0x80) 0x7F) (eq-eqb (b % 0x80) 0 z))

    pub tag_read : {n : ℕ} → n ≡ b % 0x80 → (b % 0x80 ≡ 0 → ⊥) → (b % 0x80 ≡ 0x7F → ⊥) → TagAt s at n (leb 0x80 b) (at + 1)
    tag_read e z l =
        let w = x.within in
        record {
          is =
              short (seven refl (λ e. l (sym e))) ∙ skip _ _ _ (λ i. ne_eqb (b % 0x80) 0 z i || ne_eqb (b % 0x80) 0x7F l i)
              ∙ ap (λ (n : ℕ). tag n (leb 0x80 b) (drop (at + 1) s)) (sym e);
          behind = omega arith;
          within = omega arith;
        }

-- the length at a place
module _ (s : List ℕ) (at : ℕ) where
  pub length_none : length s ≤ at → length_at (drop at s) ≡ no_length
  unfolding length_at
  length_none h = ap length_at (none_there s at h)

module _ {s : List ℕ} {at : ℕ} where
  -- the length that the last of so many bytes tells
  told : (n k : ℕ) → 1 ≤ k → length_at (drop at s) ≡ len n (drop (at + k) s) → Byte s (at + k - 1) n → LengthAt s at n (at + k)
  told n k h e y = let w = y.within in record { is = e; within = omega arith; behind = omega arith; last = y.value }

  module _ {b : ℕ} (x : Byte s at b) where
    pub length_short : b < 0x80 → LengthAt s at b (at + 1)
    unfolding length_at
    length_short h =
        let last : at + 1 - 1 ≡ at = omega arith in
        told b 1 (omega arith) (ap length_at x.is ∙ stop _ _ _ (lt-ltb b 0x80 h)) (subst (λ (k : ℕ). Byte s k b) (sym last) x)

    module _ (h : 0x80 ≤ b) where
      pub length_other : (b ≡ 0x81 → ⊥) → length_at (drop at s) ≡ no_length
      unfolding length_at
      length_other n = ap length_at x.is ∙ skip _ _ _ (le-ltb b 0x80 h) ∙ skip _ _ _ (ne_eqb b 0x81 n)

      module _ (e : b ≡ 0x81) where
        long : length_at (drop at s) ≡ long_length (drop (at + 1) s)
        unfolding length_at
        long = ap length_at x.is ∙ skip _ _ _ (le-ltb b 0x80 h) ∙ stop _ _ _ (eq-eqb b 0x81 e)

        pub long_none : length s ≤ at + 1 → length_at (drop at s) ≡ no_length
        unfolding long_length
        long_none n = long ∙ ap long_length (none_there s (at + 1) n)

        module _ {c : ℕ} (y : Byte s (at + 1) c) where
          pub long_low : c < 0x80 → length_at (drop at s) ≡ no_length
          unfolding long_length
          long_low l = long ∙ ap long_length y.is ∙ skip _ _ _ (lt-leb 0x80 c l)

          pub long_length_lem : 0x80 ≤ c → LengthAt s at c (at + 2)
          unfolding long_length
          long_length_lem l =
              let last : at + 2 - 1 ≡ at + 1 = omega arith in
              let two : at + 1 + 1 ≡ at + 2 = omega arith in
              told c 2 (omega arith) (long ∙ ap long_length y.is ∙ stop _ _ _ (le-leb 0x80 c l) ∙ ap (λ (k : ℕ). len c (drop k s)) two)
              (subst (λ (k : ℕ). Byte s k c) (sym last) y)

-- the object at a place
module _ (s : List ℕ) (at : ℕ) where
  pub object_untagged : tag_at (drop at s) ≡ no_tag → object_at (drop at s) ≡ faulty BadTag
  unfolding object_at after_tag
  object_untagged e = ap after_tag e

  module _ {number : ℕ} {flag : Bool} {sized : ℕ} (t : TagAt s at number flag sized) where
    by_length : object_at (drop at s) ≡ value_after number flag (length_at (drop sized s))
    unfolding object_at after_tag
    by_length = ap after_tag t.is

    pub object_unsized : length_at (drop sized s) ≡ no_length → object_at (drop at s) ≡ faulty BadLength
    unfolding value_after
    object_unsized e = by_length ∙ ap (value_after number flag) e

    module _ {n start : ℕ} (l : LengthAt s sized n start) where
      pub object_cut : length s - start < n → object_at (drop at s) ≡ faulty CutValue
      unfolding value_after
      object_cut k =
          by_length ∙ ap (value_after number flag) l.is
          ∙ stop _ _ _ (lt-ltb (length (drop start s)) n (let e = length-drop start s in omega arith))

      pub object_stands : n ≤ length s - start → Stands s at number flag start n (start + n)
      unfolding value_after
      object_stands k =
          let e : n ≡ start + n - start = omega arith in
          record {
            is =
                by_length ∙ ap (value_after number flag) l.is
                ∙ skip _ _ _ (le-ltb (length (drop start s)) n (let d = length-drop start s in omega arith))
                ∙ (λ i. object (record { number = number; flag = flag; value = take (e i) (drop start s) }) (drop-drop n start s i));
            ends = refl;
            within = omega (arith, l.within);
            behind = omega (arith, l.behind, t.behind);
            last = l.last;
          }
