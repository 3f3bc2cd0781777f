-- What came out and the changes tell what stood there.
-- Assumes nothing.
use Prim.Native.Nat.{ℕ, ◌+◌, ◌-◌, ◌≤◌, ◌<◌}
use mathlib.Core.Path.{◌≡◌, refl, sym, ap, subst, ◌∙◌}
use mathlib.Core.Bool.{Bool, true, false, not}
use mathlib.Core.List.{List, [], ◌∷◌, ◌++◌, append_assoc}
use native.Mathlib.Omega.{arith}
use lib.ListN.{length, take, drop, length-append}
use lib.Seq.{take-append_seam, drop-append_seam, take-append-add, drop-append-add}
use Rattle.rules.specs.Checks.{◌⇒◌else◌, is_empty}
use Rattle.rules.specs.Frames.{length_bytes, Object}
use Rattle.rules.specs.Sound.{Each}
use Rattle.rules.proofs.Laws.{each_append}
use Rattle.mending.specs.Mends.{Change, outer_length, shortened, truncated, is_overlong, Mended, none_left, cut_from, with_object, mend_from}
use Rattle.mending.specs.Unmends.{unmended, cut_of, tells_outer, tells_cut}
use Rattle.mending.proofs.Parts.{LooseParts}
use Rattle.mending.proofs.Walked.{holds}

-- a change of objects from a place on; an object's length stands behind its tag
abbrev pub From : ℕ → Change → Type 0
From place outer_length = ⊥
From place (shortened p) = place < p
From place (truncated p) = place ≤ p

earlier : (p q : ℕ) (cs : List Change) → p ≤ q → Each (From q) cs → Each (From p) cs
earlier p q [] h k = tt
earlier p q (outer_length ∷ cs) h k = absurd k.0
earlier p q (shortened c ∷ cs) h k = (omega (arith, k.0), earlier p q cs h k.1)
earlier p q (truncated c ∷ cs) h k = (omega (arith, k.0), earlier p q cs h k.1)

-- bytes in front of all changes stay in front
unmended_front : (p : ℕ) (x y : List ℕ) (cs : List Change) → Each (From (p + length x)) cs → unmended p (x ++ y) cs ≡ x ++ unmended (p + length x) y cs
unfolding unmended
unmended_front p x y [] h = refl
unmended_front p x y (outer_length ∷ cs) h = absurd h.0
unmended_front p x y (truncated q ∷ cs) h = unmended_front p x y cs h.1
unmended_front p x y (shortened q ∷ cs) h =
    let j = q - (p + length x) in
    let e : q - p ≡ length x + j = omega (arith, h.0) in
    (λ i. take (e i) (x ++ y) ++ 0x81 ∷ unmended (q + 1) (drop (e i) (x ++ y)) cs)
    ∙ (λ i. take-append-add x y j i ++ 0x81 ∷ unmended (q + 1) (drop-append-add x y j i) cs)
    ∙ append_assoc x (take j y) (0x81 ∷ unmended (q + 1) (drop j y) cs)

-- the 81 of an overlong length is put back in front of its shortest form
put_back :
    (over : Bool) (place : ℕ) (t l m v y : List ℕ) (cs : List Change) → l ≡ (over ⇒ 0x81 ∷ [] else []) ++ m → Each (From (place + length (t ++ (l ++ v)))) cs →
    unmended place ((t ++ (m ++ v)) ++ y) ((over ⇒ shortened (place + length t) ∷ [] else []) ++ cs) ≡ (t ++ (l ++ v)) ++ unmended (place + length (t ++ (l ++ v))) y cs
unfolding unmended ◌⇒◌else◌
put_back false place t l m v y cs e h =
    ap (λ (x : List ℕ). unmended place ((t ++ (x ++ v)) ++ y) cs) (sym e) ∙ unmended_front place (t ++ (l ++ v)) y cs h
put_back true place t l m v y cs e h =
    let x = m ++ v in
    let k : place + length t - place ≡ length t = omega arith in
    let n = length-append t (l ++ v) in
    let o = ap (λ (z : List ℕ). length (z ++ v)) e in
    let q : place + length (t ++ (l ++ v)) ≡ place + length t + 1 + length x = omega arith in
    (λ i. take (k i) (append_assoc t x y i) ++ 0x81 ∷ unmended (place + length t + 1) (drop (k i) (append_assoc t x y i)) cs)
    ∙ (λ i. take-append_seam t (x ++ y) i ++ 0x81 ∷ unmended (place + length t + 1) (drop-append_seam t (x ++ y) i) cs)
    ∙ ap (λ (z : List ℕ). t ++ 0x81 ∷ z) (unmended_front (place + length t + 1) x y cs (subst (λ (z : ℕ). Each (From z) cs) q h) ∙ ap (λ (z : ℕ). x ++ unmended z y cs) (sym q))
    ∙ sym (append_assoc t (0x81 ∷ x) (unmended (place + length (t ++ (l ++ v))) y cs))
    ∙ ap (λ (z : List ℕ). (t ++ (z ++ v)) ++ unmended (place + length (t ++ (l ++ v))) y cs) (sym e)

-- neither a cut nor the outer length is told by a shortened object
passed : (over : Bool) (p end : ℕ) (cs : List Change) → let ds = (over ⇒ shortened p ∷ [] else []) ++ cs in (cut_of end ds ≡ cut_of end cs) × (tells_cut ds ≡ tells_cut cs) × (tells_outer ds ≡ tells_outer cs)
unfolding ◌⇒◌else◌ cut_of tells_cut tells_outer
passed true p end cs = (refl, refl, refl)
passed false p end cs = (refl, refl, refl)

from_here : (over : Bool) (place p : ℕ) → place < p → Each (From place) (over ⇒ shortened p ∷ [] else [])
unfolding ◌⇒◌else◌
from_here true place p h = (h, tt)
from_here false place p h = tt

-- of objects from a place on: the bytes up to the cut, the place of the cut, that something stood there, and no change but of objects
pub record Told (place : ℕ) (s : List ℕ) (m : Mended) : Type 0 where
  pub rest : List ℕ
  pub back : s ≡ unmended place m.bytes m.changes ++ rest
  pub cut : cut_of (place + length s) m.changes ≡ place + length (unmended place m.bytes m.changes)
  pub told : tells_cut m.changes ≡ not (is_empty rest)
  pub inner : tells_outer m.changes ≡ false
  pub later : Each (From place) m.changes

module _ (place : ℕ) (s t l : List ℕ) (o : Object) (r : List ℕ) (m : Mended) (h : LooseParts s t l o r) (f : Told (place + length (t ++ (l ++ o.value))) r m) where
  abbrev whole : List ℕ
  whole = t ++ (l ++ o.value)

  abbrev behind : List ℕ
  behind = unmended (place + length whole) m.bytes m.changes

  back_more : unmended place ((t ++ (length_bytes (length o.value) ++ o.value)) ++ m.bytes) ((is_overlong l ⇒ shortened (place + length t) ∷ [] else []) ++ m.changes) ≡ whole ++ behind
  back_more = put_back (is_overlong l) place t l (length_bytes (length o.value)) o.value m.bytes m.changes h.form f.later

  pub told_more : Told place s (with_object place t l o m)
  unfolding with_object
  told_more =
      let same = passed (is_overlong l) (place + length t) (place + length s) m.changes in
      let n = ap length h.parts ∙ length-append whole r in
      let e : place + length s ≡ place + length whole + length r = omega arith in
      let a = length-append whole behind in
      let d : place + length whole + length behind ≡ place + length (whole ++ behind) = omega arith in
      record {
        rest = f.rest;
        back = h.parts ∙ ap (λ (x : List ℕ). whole ++ x) f.back ∙ sym (append_assoc whole behind f.rest) ∙ ap (λ (x : List ℕ). x ++ f.rest) (sym back_more);
        cut = same.0 ∙ ap (λ (x : ℕ). cut_of x m.changes) e ∙ f.cut ∙ d ∙ ap (λ (x : List ℕ). place + length x) (sym back_more);
        told = same.1 ∙ f.told;
        inner = same.2 ∙ f.inner;
        later = each_append (From place) (is_overlong l ⇒ shortened (place + length t) ∷ [] else []) m.changes (from_here (is_overlong l) place (place + length t) (omega (arith, h.some))) (earlier place _ m.changes (omega arith) f.later);
      }

pub told_none : (place : ℕ) → Told place [] none_left
unfolding unmended cut_of tells_cut tells_outer is_empty
told_none place = record { rest = []; back = refl; cut = refl; told = refl; inner = refl; later = tt }

pub told_cut : (place b : ℕ) (s : List ℕ) → Told place (b ∷ s) (cut_from place)
unfolding unmended cut_of tells_cut tells_outer is_empty
told_cut place b s = record { rest = b ∷ s; back = refl; cut = omega arith; told = refl; inner = refl; later = (omega arith, tt) }

pub mend_told : (place : ℕ) (s : List ℕ) → Told place s (mend_from place s)
mend_told = holds Told told_none told_cut told_more
