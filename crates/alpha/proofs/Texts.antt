-- Texts: their size, and a unit in front of one.
-- Assumes nothing.
use Prim.Native.Nat.{ℕ, suc, ◌+◌, ◌-◌, ◌≤◌, ◌<◌}
use mathlib.Core.Path.{◌≡◌, refl, sym, ap, ◌∙◌}
use mathlib.Core.Bool.{Bool, true, false, false≢true}
use mathlib.Core.List.{List, [], ◌∷◌}
use mathlib.Core.Option.{Option, none, some}
use native.Mathlib.Omega.{arith}
use native.Mathlib.Numerals.{add-one}
use lib.ListN.{length, get_or, drop, length-drop}
use lib.Seq.{drop-cons}
use lib.Dec.{ltb}
use borrow.Author.Tests.{ltb-true, ltb-false}
use Rattle.std.specs.Prelude.{Option as CodeOption, Some, None}
use Rattle.alpha.specs.Reads.{Text, units, malformed, follow}
use Rattle.alpha.specs.Bodies.{text_told}
use Rattle.alpha.specs.Passes.{told, size_of, units_in, well}

-- a number that is not at least another is below it
pub below : (a b : ℕ) → (b ≤ a → ⊥) → a < b
below a b n = by (ltb a b) refl
  where
    by : (t : Bool) → ltb a b ≡ t → a < b
    by true e = ltb-true a b e
    by false e = absurd (n (ltb-false a b e))

-- what is told of a unit or a code
pub told_some : (o : Option ℕ) (t : CodeOption ℕ) (n : ℕ) → t ≡ told o → t ≡ Some n → o ≡ some n
unfolding told
told_some none t n e f = absurd (let z : ◌≡◌ {A = ℕ} 0 1 = cc in omega arith)
told_some (some m) t n e f = cc

pub told_none : (o : Option ℕ) (t : CodeOption ℕ) → t ≡ told o → t ≡ None → o ≡ none
unfolding told
told_none none t e f = refl
told_none (some m) t e f = absurd (let z : ◌≡◌ {A = ℕ} 0 1 = cc in omega arith)

-- so many units before a text
unfoldable pub plus : ℕ → CodeOption ℕ → CodeOption ℕ
plus n None = None
plus n (Some k) = Some (n + k)

pub plus_none : (x : CodeOption ℕ) → x ≡ plus 0 x
unfolding plus
plus_none None = refl
plus_none (Some k) = ap Some (let e : k ≡ 0 + k = omega arith in e)

pub plus_more : (n : ℕ) (x : CodeOption ℕ) → plus n (plus 1 x) ≡ plus (n + 1) x
unfolding plus
plus_more n None = refl
plus_more n (Some k) = ap Some (let e : n + (1 + k) ≡ n + 1 + k = omega arith in e)

pub follow_size : (u : ℕ) (t : Text) → size_of (follow u t) ≡ plus 1 (size_of t)
unfolding plus follow size_of
follow_size u malformed = refl
follow_size u (units us) = ap Some (let e : suc (length us) ≡ 1 + length us = omega arith in e)

pub follow_well : (u : ℕ) (t : Text) → well (follow u t) ≡ well t
unfolding follow well
follow_well u malformed = refl
follow_well u (units us) = refl

pub follow_units : (u : ℕ) (t : Text) → well t ≡ true → units_in (follow u t) ≡ u ∷ units_in t
unfolding follow well units_in
follow_units u malformed e = absurd (false≢true e)
follow_units u (units us) e = refl

-- a text that is well formed is its units
pub well_units : (t : Text) → well t ≡ true → t ≡ units (units_in t)
unfolding well units_in
well_units malformed e = absurd (false≢true e)
well_units (units us) e = refl

pub ill : (t : Text) → well t ≡ false → t ≡ malformed
unfolding well
ill malformed e = refl
ill (units us) e = absurd (false≢true (sym e))

-- what is told of its units
pub text_none : (t : Text) → t ≡ malformed → None ≡ text_told t
unfolding text_told
text_none t e = sym (ap text_told e)

pub text_some : (t : Text) (us : List ℕ) → t ≡ units us → Some us ≡ text_told t
unfolding text_told
text_some t us e = sym (ap text_told e)

-- a text of which no size is told, and one of which it is
pub size_none : (t : Text) → None ≡ size_of t → t ≡ malformed
unfolding size_of
size_none malformed e = refl
size_none (units us) e = absurd (let z : ◌≡◌ {A = ℕ} 0 1 = cc in omega arith)

pub size_some : (t : Text) (n : ℕ) → Some n ≡ size_of t → t ≡ units (units_in t)
unfolding size_of units_in
size_some malformed n e = absurd (let z : ◌≡◌ {A = ℕ} 0 1 = cc in omega arith)
size_some (units us) n e = refl

pub size_well : (t : Text) (k : ℕ) → size_of t ≡ Some k → (well t ≡ true) × (length (units_in t) ≡ k)
unfolding well units_in size_of
size_well malformed k e = absurd (let z : ◌≡◌ {A = ℕ} 0 1 = cc in omega arith)
size_well (units us) k e = (refl, cc)

-- a unit and the rest of a text that is units
pub record Follows (u : ℕ) (t : Text) (vs : List ℕ) : Type 0 where
  pub ws : List ℕ
  pub rest : t ≡ units ws
  pub is : vs ≡ u ∷ ws

pub follows : (u : ℕ) (t : Text) (vs : List ℕ) → follow u t ≡ units vs → Follows u t vs
unfolding follow units_in
follows u malformed vs e = absurd (let z : ◌≡◌ {A = ℕ} 0 1 = cc in omega arith)
follows u (units ws) vs e = record { ws = ws; rest = refl; is = ap units_in (sym e) }

-- what stands first in the rest of a list
module _ (us : List ℕ) (n : ℕ) (u : ℕ) (ws : List ℕ) (e : drop n us ≡ u ∷ ws) where
  pub head_within : n < length us
  head_within =
      let l : length us - n ≡ suc (length ws) = sym (length-drop n us) ∙ ap length e in
      omega arith

  head_both : get_or us n 0 ∷ drop (suc n) us ≡ u ∷ ws
  head_both = sym (drop-cons us n 0 head_within) ∙ e

  pub head_is : get_or us n 0 ≡ u
  head_is = ap (λ (l : List ℕ). get_or l 0 0) head_both

  pub head_rest : drop (n + 1) us ≡ ws
  head_rest = ap (λ (k : ℕ). drop k us) (add-one n) ∙ ap (λ (l : List ℕ). drop 1 l) head_both

pub rest_none : (us : List ℕ) (n : ℕ) → drop n us ≡ [] → length us ≤ n
rest_none us n e =
    let l : length us - n ≡ 0 = sym (length-drop n us) ∙ ap length e in
    omega arith
