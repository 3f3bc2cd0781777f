-- Two outcomes that meet one contract are the same.
-- Assumes nothing.
use Prim.Native.Nat.{ℕ, ◌+◌, ◌-◌, ◌≤◌}
use mathlib.Core.Path.{◌≡◌, refl, sym, ap, ◌∙◌}
use mathlib.Core.Bool.{Bool}
use mathlib.Core.List.{List}
use native.Mathlib.Omega.{arith}
use lib.ListN.{length, drop, length-take, length-drop}
use Rattle.rules.specs.Frames as frames
use Rattle.octets.specs.Parts.{part}
use Rattle.std.specs.Prelude.{Option, Some, None, Result, Ok, Err}
use Rattle.rules.specs.declared.Ending.{Ending}
use Rattle.objects.specs.declared.Tag.{Tag}
use Rattle.objects.specs.declared.Length.{Length}
use Rattle.objects.specs.declared.Object.{Object}
use Rattle.objects.specs.Places.{Tags, Measures, object_of, Stands, Meets}

-- places within the bytes, with the same bytes behind them, are one place
pub drop_alike : (s : List ℕ) (a b : ℕ) → a ≤ length s → b ≤ length s → drop a s ≡ drop b s → a ≡ b
drop_alike s a b h k e =
    let l = sym (length-drop a s) ∙ ap length e ∙ length-drop b s in
    omega arith

pub part_size : (s : List ℕ) (a n : ℕ) → a + n ≤ length s → length (part a (a + n) s) ≡ n
part_size s a n h =
    let t = length-take (a + n - a) (drop a s) in
    let d = length-drop a s in
    omega arith

part_alike : (s : List ℕ) (a b n m : ℕ) → a + n ≤ length s → b + m ≤ length s → part a (a + n) s ≡ part b (b + m) s → n ≡ m
part_alike s a b n m h k e = sym (part_size s a n h) ∙ ap length e ∙ part_size s b m k

-- nothing is two things at once
never : ◌≡◌ {A = ℕ} 0 1 → ⊥
never z = omega arith

pub tag_alike : (x y : Option Tag) (s : List ℕ) (at : ℕ) → Tags x s at → Tags y s at → x ≡ y
tag_alike (Some t) (Some u) s at p q =
    let number : t.number ≡ u.number = cc (p.is, q.is) in
    let flag : t.flagged ≡ u.flagged = cc (p.is, q.is) in
    let rest : drop t.sized s ≡ drop u.sized s = cc (p.is, q.is) in
    λ i. Some (record { number = number i; flagged = flag i; sized = drop_alike s t.sized u.sized p.within q.within rest i })
tag_alike (Some t) None s at p q = absurd (never (cc (p.is, q)))
tag_alike None (Some u) s at p q = absurd (never (cc (p, q.is)))
tag_alike None None s at p q = refl

pub length_alike : (x y : Option Length) (s : List ℕ) (at : ℕ) → Measures x s at → Measures y s at → x ≡ y
length_alike (Some l) (Some m) s at p q =
    let count : l.count ≡ m.count = cc (p.is, q.is) in
    let rest : drop l.start s ≡ drop m.start s = cc (p.is, q.is) in
    λ i. Some (record { count = count i; start = drop_alike s l.start m.start p.within q.within rest i })
length_alike (Some l) None s at p q = absurd (never (cc (p.is, q)))
length_alike None (Some m) s at p q = absurd (never (cc (p, q.is)))
length_alike None None s at p q = refl

module _
    {s : List ℕ} {at m : ℕ} {f : Bool} {a n k l : ℕ} {g : Bool} {b o j : ℕ} (p : Stands s at m f a n k) (q : Stands s at l g b o j) where
  same_object : object_of s m f a n ≡ object_of s l g b o
  same_object = cc (p.is, q.is)

  next_alike : k ≡ j
  next_alike = let rest : drop k s ≡ drop j s = cc (p.is, q.is) in drop_alike s k j p.within q.within rest

  size_alike : n ≡ o
  size_alike =
      part_alike s a b n o (omega (arith, p.ends, p.within)) (omega (arith, q.ends, q.within)) (ap (λ (x : frames.Object). x.value) same_object)

  start_alike : a ≡ b
  start_alike = omega (arith, size_alike, next_alike, p.ends, q.ends)

  stands_alike :
      ◌≡◌ {A = Object} (record { number = m; flagged = f; start = a; len = n; next = record { at = k } })
      (record { number = l; flagged = g; start = b; len = o; next = record { at = j } })
  stands_alike =
      λ i. record { number = (same_object i).number; flagged = (same_object i).flag; start = start_alike i; len = size_alike i; next = record { at = next_alike i } }

pub object_alike : (x y : Result Object Ending) (s : List ℕ) (at : ℕ) → Meets x s at → Meets y s at → x ≡ y
object_alike (Ok o) (Ok u) s at p q = λ i. Ok (stands_alike p q i)
object_alike (Ok o) (Err f) s at p q = absurd (never (cc (p.is, q)))
object_alike (Err e) (Ok u) s at p q = absurd (never (cc (p, q.is)))
object_alike (Err e) (Err f) s at p q = let same : e ≡ f = cc (p, q) in λ i. Err (same i)

pub same_place : (a b r n : ℕ) → a + r ≡ n → b + r ≡ n → a ≡ b
same_place a b r n e f = omega arith
