-- A length and an object at a place, case by case.
-- Assumes nothing.
use Prim.Native.Nat.{ℕ, suc, ◌+◌, ◌-◌, ◌≤◌, ◌<◌}
use mathlib.Core.Path.{◌≡◌, refl, sym, ap, subst, ◌∙◌}
use mathlib.Core.Bool.{Bool, false}
use mathlib.Core.List.{List, [], ◌∷◌, ◌++◌}
use native.Mathlib.Omega.{arith}
use lib.ListN.{length, take, drop, get_or, length-append, length-drop}
use lib.Seq.{drop-drop, take-add}
use lib.Dec.{ltb, leb, eqb}
use Rattle.std.proofs.lemmas.Bool.{false_from_ne_true}
use borrow.Author.Tests.{lt-ltb, le-ltb, eq-eqb, ne_eqb, leb-false}
use Rattle.rules.specs.Checks.{◌⇒◌else◌}
use Rattle.rules.specs.Frames.{LengthRead, len, no_length, long_length, length_at, length_bytes, Object, no_tag, tag_at}
use Rattle.rules.proofs.Laws.{stop, skip, branch}
use Rattle.octets.specs.Parts.{part}
use Rattle.octets.proofs.Copies.{length_part}
use Rattle.objects.specs.Places.{TagAt}
use Rattle.objects.specs.Places as objects
use Rattle.mending.proofs.Kept.{StrictLength, strict_length, not_overlong}
use Rattle.objects.proofs.Reading.{cons_at}
use Rattle.mending.specs.Mends.{shortened, in_front, any_length, loose_length_at, is_overlong, loose, fault, loose_value, loose_tag, loose_at, Mended, cut_from, with_object, mend_from}
use Rattle.mending.specs.Places.{LengthAt, Stands}
use Rattle.mending.proofs.Walked.{mend_fault, mend_object}

-- the bytes between two places
pub front_part : (s : List ℕ) (a e : ℕ) → a ≤ e → e ≤ length s → in_front (drop a s) (drop e s) ≡ part a e s
unfolding in_front
front_part s a e h k =
    let l = length-drop a s in
    let m = length-drop e s in
    let n : length (drop a s) - length (drop e s) ≡ e - a = omega arith in
    ap (λ (x : ℕ). take x (drop a s)) n

-- what the rules read no length from: the other form of it, or none
module _ (b : ℕ) (s : List ℕ) (e : length_at (b ∷ s) ≡ no_length) where
  unread : {n : ℕ} {r : List ℕ} → len n r ≡ no_length → ⊥
  unread h = let z : ◌≡◌ {A = ℕ} 0 1 = cc in omega arith

  many : ltb b 0x80 ≡ false
  unfolding length_at
  many = false_from_ne_true (ltb b 0x80) (λ t. unread (sym (stop _ _ _ t) ∙ e))

  by_second : loose_length_at (b ∷ s) ≡ (eqb b 0x81 ⇒ any_length s else no_length)
  unfolding loose_length_at
  by_second = skip _ _ _ many

  second_few : b ≡ 0x81 → (c : ℕ) (r : List ℕ) → s ≡ c ∷ r → c < 0x80
  unfolding length_at long_length
  second_few k c r is =
      leb-false 0x80 c
      (false_from_ne_true (leb 0x80 c) (λ t. unread (sym (skip _ _ _ many ∙ stop _ _ _ (eq-eqb b 0x81 k) ∙ ap long_length is ∙ stop _ _ _ t) ∙ e)))

pub no_second : (l : List ℕ) → length_at l ≡ no_length → length l < 2 → loose_length_at l ≡ no_length
unfolding loose_length_at any_length
no_second [] e h = refl
no_second (b ∷ []) e h = by_second b [] e ∙ branch (λ (x : LengthRead). x ≡ no_length) (eqb b 0x81) _ _ (λ _. refl) (λ _. refl)
no_second (b ∷ c ∷ s) e h = absurd (let z : suc (suc (length s)) < 2 = h in omega arith)

pub no_other : (l : List ℕ) → length_at l ≡ no_length → (get_or l 0 0 ≡ 0x81 → ⊥) → loose_length_at l ≡ no_length
unfolding loose_length_at
no_other [] e n = refl
no_other (b ∷ s) e n = by_second b s e ∙ skip _ _ _ (ne_eqb b 0x81 n)

-- 81 and a byte below 80
overlong : (l : List ℕ) → length_at l ≡ no_length → 2 ≤ length l → get_or l 0 0 ≡ 0x81 →
    (get_or l 1 0 < 0x80) × (loose_length_at l ≡ len (get_or l 1 0) (drop 2 l)) × (l ≡ 0x81 ∷ get_or l 1 0 ∷ drop 2 l)
unfolding any_length
overlong [] e h k = absurd (omega arith)
overlong (b ∷ []) e h k = absurd (let z : 2 ≤ 1 = h in omega arith)
overlong (b ∷ c ∷ s) e h k = (second_few b (c ∷ s) e k c s refl, by_second b (c ∷ s) e ∙ stop _ _ _ (eq-eqb b 0x81 k), ap (λ (x : ℕ). x ∷ c ∷ s) k)

-- the length at a place
module _ (s : List ℕ) (at : ℕ) where
  -- in its shortest form, as the rules read it
  pub length_strict : {n start : ℕ} → objects.LengthAt s at n start → LengthAt s at n at start
  length_strict {n} {start} t =
      let strict = subst (StrictLength (drop at s)) t.is (strict_length (drop at s)) in
      let shortest : part at start s ≡ length_bytes n = sym (front_part s at start (omega (arith, t.behind)) t.within) ∙ strict.1 in
      record {
        is = strict.0;
        shortest = shortest;
        overlong = ap is_overlong shortest ∙ not_overlong n ∙ sym (le-ltb at at (omega arith));
        from = omega arith;
        behind = t.behind;
        within = t.within;
      }

  -- and in the longer one
  pub length_overlong : (r : List ℕ) → r ≡ drop at s → length_at (drop at s) ≡ no_length → 2 ≤ length r → get_or r 0 0 ≡ 0x81 → LengthAt s at (get_or r 1 0) (at + 1) (at + 2)
  unfolding is_overlong length_bytes
  length_overlong r is e h k =
      let o = overlong r (ap length_at is ∙ e) h k in
      let size = ap length is ∙ length-drop at s in
      let two : drop 2 r ≡ drop (at + 2) s = ap (drop 2) is ∙ drop-drop 2 at s in
      let one : drop (at + 1) s ≡ get_or r 1 0 ∷ drop 2 r = sym (drop-drop 1 at s) ∙ ap (drop 1) (sym is ∙ o.2) in
      let first : at + 2 - (at + 1) ≡ 1 = omega arith in
      let both : at + 2 - at ≡ 2 = omega arith in
      record {
        is = ap loose_length_at (sym is) ∙ o.1 ∙ ap (len (get_or r 1 0)) two;
        shortest = (λ i. take (first i) (one i)) ∙ sym (stop _ _ _ (lt-ltb (get_or r 1 0) 0x80 o.0));
        overlong = ap is_overlong (λ i. take (both i) ((sym is ∙ o.2) i)) ∙ lt-ltb (get_or r 1 0) 0x80 o.0 ∙ sym (lt-ltb at (at + 1) (omega arith));
        from = omega arith;
        behind = omega arith;
        within = omega arith;
      }

part_join : (s : List ℕ) (a b e : ℕ) → a ≤ b → b ≤ e → part a b s ++ part b e s ≡ part a e s
part_join s a b e h k =
    let n : (b - a) + (e - b) ≡ e - a = omega arith in
    let m : a + (b - a) ≡ b = omega arith in
    ap (λ (x : List ℕ). part a b s ++ take (e - b) x) (sym (drop-drop (b - a) a s ∙ ap (λ (x : ℕ). drop x s) m))
    ∙ sym (take-add (b - a) (e - b) (drop a s)) ∙ ap (λ (x : ℕ). take x (drop a s)) n

-- the object at a place
module _ (s : List ℕ) (at : ℕ) where
  at_fault : at < length s → loose_at (drop at s) ≡ fault → mend_from at (drop at s) ≡ cut_from at
  at_fault h e =
      let k = cons_at s at h in
      ap (mend_from at) k ∙ mend_fault at (get_or s at 0) (drop (at + 1) s) (ap loose_at (sym k) ∙ e)

  pub object_untagged : at < length s → tag_at (drop at s) ≡ no_tag → mend_from at (drop at s) ≡ cut_from at
  unfolding loose_at loose_tag
  object_untagged h e = at_fault h (ap (loose_tag (drop at s)) e)

  module _ {number : ℕ} {flag : Bool} {sized : ℕ} (t : TagAt s at number flag sized) where
    here : at < length s
    here = omega (arith, t.behind, t.within)

    by_length : loose_at (drop at s) ≡ loose_value (part at sized s) number flag (drop sized s) (loose_length_at (drop sized s))
    unfolding loose_at loose_tag
    by_length =
        ap (loose_tag (drop at s)) t.is
        ∙ ap (λ (x : List ℕ). loose_value x number flag (drop sized s) (loose_length_at (drop sized s))) (front_part s at sized (omega (arith, t.behind)) t.within)

    pub object_unsized : loose_length_at (drop sized s) ≡ no_length → mend_from at (drop at s) ≡ cut_from at
    unfolding loose_value
    object_unsized e = at_fault here (by_length ∙ ap (loose_value (part at sized s) number flag (drop sized s)) e)

    module _ {n kept start : ℕ} (l : LengthAt s sized n kept start) where
      pub object_cut : length s - start < n → mend_from at (drop at s) ≡ cut_from at
      unfolding loose_value
      object_cut k =
          at_fault here
          (by_length ∙ ap (loose_value (part at sized s) number flag (drop sized s)) l.is
          ∙ stop _ _ _ (lt-ltb (length (drop start s)) n (let e = length-drop start s in omega arith)))

      module _ (k : n ≤ length s - start) where
        abbrev value : List ℕ
        value = part start (start + n) s

        abbrev read : Object
        read = record { number = number; flag = flag; value = value }

        is_loose : loose_at (drop at s) ≡ loose (part at sized s) (part sized start s) read (drop (start + n) s)
        unfolding loose_value
        is_loose =
            let e : n ≡ start + n - start = omega arith in
            let fp = front_part s sized start (omega (arith, l.from, l.behind)) l.within in
            by_length ∙ ap (loose_value (part at sized s) number flag (drop sized s)) l.is
            ∙ skip _ _ _ (le-ltb (length (drop start s)) n (let d = length-drop start s in omega arith))
            ∙ (λ i. loose (part at sized s) (fp i) (record { number = number; flag = flag; value = take (e i) (drop start s) }) (drop-drop n start s i))

        size : length value ≡ n
        size = let p = length_part start (start + n) s (omega (arith, l.within)) in omega arith

        tag_size : at + length (part at sized s) ≡ sized
        tag_size = let p = length_part at sized s t.within in omega (arith, t.behind)

        object_size_lem : at + length (part at sized s ++ (part sized start s ++ value)) ≡ start + n
        object_size_lem =
            let a = length-append (part at sized s) (part sized start s ++ value) in
            let b = length-append (part sized start s) value in
            let p = length_part sized start s l.within in
            let z = size in
            let y = tag_size in
            omega (arith, l.from, l.behind)

        mends_to : mend_from at (drop at s) ≡ with_object at (part at sized s) (part sized start s) read (mend_from (start + n) (drop (start + n) s))
        mends_to =
            let c = cons_at s at here in
            ap (mend_from at) c ∙ mend_object at (get_or s at 0) (drop (at + 1) s) _ _ _ _ (ap loose_at (sym c) ∙ is_loose)
            ∙ ap (λ (x : ℕ). with_object at (part at sized s) (part sized start s) read (mend_from x (drop (start + n) s))) object_size_lem

        pub object_stands : Stands s at sized kept (start + n)
        unfolding with_object
        object_stands =
            record {
              bytes =
                  ap (λ (m : Mended). m.bytes) mends_to
                  ∙ ap (λ (x : List ℕ). (part at sized s ++ x) ++ (mend_from (start + n) (drop (start + n) s)).bytes)
                  (ap (λ (x : List ℕ). x ++ value) (ap length_bytes size ∙ sym l.shortest) ∙ part_join s kept start (start + n) (omega (arith, l.behind)) (omega arith));
              changes =
                  ap (λ (m : Mended). m.changes) mends_to
                  ∙ (λ i. (l.overlong i ⇒ shortened (tag_size i) ∷ [] else []) ++ (mend_from (start + n) (drop (start + n) s)).changes);
              tagged = t.behind;
              from = l.from;
              behind = omega (arith, l.behind);
              within = omega (arith, l.within);
            }
