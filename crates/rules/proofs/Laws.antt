-- Laws that every proof over the rules cites: an order of checks, line by line, and lists whose elements share a property.
-- Assumes nothing.
use Prim.Native.Nat.{ℕ, zero, suc}
use mathlib.Core.Path.{◌≡◌, refl, sym, subst, ap, ◌∙◌}
use mathlib.Core.Logic.{◌⊎◌, inl, inr, ⊎_elim}
use mathlib.Core.Bool.{Bool, true, false, not, ◌&&◌, ◌||◌}
use mathlib.Core.List.{List, [], ◌∷◌, ◌++◌}
use native.Mathlib.Omega.{arith}
use lib.ListN.{length, get_or, take, drop, set, replicate}
use borrow.Author.Tests.{lt-ltb, le-ltb, le-leb, lt-leb, eq-eqb, ne_eqb, eqb-true}
use lib.Dec.{eqb}
use Rattle.rules.specs.declared.Way.{Way}
use Rattle.rules.specs.declared.Way.TheVariants.{Receive, Send}
use Rattle.rules.specs.Checks.{◌⇒◌else◌, is_empty, some_of, member}
use Rattle.rules.specs.Sound.{Each}

-- the test is true: its line answers
pub stop : {A : Type 0} (b : Bool) (x y : A) → b ≡ true → b ⇒ x else y ≡ x
unfolding ◌⇒◌else◌
stop b x y e = ap (λ (t : Bool). t ⇒ x else y) e

-- the test is false: the lines below answer
pub skip : {A : Type 0} (b : Bool) (x y : A) → b ≡ false → b ⇒ x else y ≡ y
unfolding ◌⇒◌else◌
skip b x y e = ap (λ (t : Bool). t ⇒ x else y) e

pub ruleset checks = (lt-ltb, le-ltb, le-leb, lt-leb, eq-eqb, ne_eqb, stop, skip, arith)

-- what holds of a line where its test is true, and of the lines below where it is false, holds of both
pub branch : {A : Type 0} (P : A → Type 0) (b : Bool) (x y : A) → (b ≡ true → P x) → (b ≡ false → P y) → P (b ⇒ x else y)
unfolding ◌⇒◌else◌
branch P true x y f g = f refl
branch P false x y f g = g refl

-- two orders of checks with equal tests, line by line
pub branch₂ :
    {A : Type 0} (R : A → A → Type 0) (b d : Bool) (x y u v : A) → b ≡ d → (b ≡ true → R x u) → (b ≡ false → R y v) →
    R (b ⇒ x else y) (d ⇒ u else v)
unfolding ◌⇒◌else◌
branch₂ R b d x y u v e f g = subst (λ (z : Bool). R (b ⇒ x else y) (z ⇒ u else v)) e (by b refl)
  where
    by : (z : Bool) → b ≡ z → R (z ⇒ x else y) (z ⇒ u else v)
    by true q = f q
    by false q = g q

-- a test of two parts
pub both_left : (a b : Bool) → a && b ≡ true → a ≡ true
both_left true b e = refl
both_left false b e = e

pub both_right : (a b : Bool) → a && b ≡ true → b ≡ true
both_right true b e = e
both_right false b e = absurd (mathlib.Core.Bool.false≢true e)

pub both : (a b : Bool) → a ≡ true → b ≡ true → a && b ≡ true
both true b e f = f
both false b e f = e

pub either : (a b : Bool) → a || b ≡ true → (a ≡ true) ⊎ (b ≡ true)
either true b e = inl refl
either false b e = inr e

pub or_right : (a b : Bool) → b ≡ true → a || b ≡ true
or_right true b e = refl
or_right false b e = e

pub either_left : (a b : Bool) → a || b ≡ false → a ≡ false
either_left true b e = e
either_left false b e = refl

pub either_right : (a b : Bool) → a || b ≡ false → b ≡ false
either_right true b e = absurd (mathlib.Core.Bool.true≢false e)
either_right false b e = e

pub and-false : (b : Bool) → b && false ≡ false
and-false true = refl
and-false false = refl

-- two choices by one test, case by case
pub same_kind : {A : Type 0} (b d : Bool) (x y u v : A) → d ≡ b → (b ≡ true → x ≡ u) → (b ≡ false → y ≡ v) → (b ⇒ x else y) ≡ (d ⇒ u else v)
unfolding ◌⇒◌else◌
same_kind true d x y u v e f g = f refl ∙ sym (stop d u v e)
same_kind false d x y u v e f g = g refl ∙ sym (skip d u v e)

-- no bytes, by their count
pub empty_length : (l : List ℕ) → eqb (length l) 0 ≡ is_empty l
unfolding is_empty
empty_length [] = refl
empty_length (x ∷ l) = ne_eqb (length (x ∷ l)) 0 (omega arith)

pub not_not : (b : Bool) → not b ≡ false → b ≡ true
not_not true e = refl
not_not false e = sym e

module _ {A : Type 0} (P : A → Type 0) where
  pub each_append : (s t : List A) → Each P s → Each P t → Each P (s ++ t)
  each_append [] t hs ht = ht
  each_append (x ∷ s) t hs ht = (hs.0, each_append s t hs.1 ht)

  pub each_take : (n : ℕ) (s : List A) → Each P s → Each P (take n s)
  each_take zero s h = tt
  each_take (suc n) [] h = tt
  each_take (suc n) (x ∷ s) h = (h.0, each_take n s h.1)

  pub each_drop : (n : ℕ) (s : List A) → Each P s → Each P (drop n s)
  each_drop zero s h = h
  each_drop (suc n) [] h = tt
  each_drop (suc n) (x ∷ s) h = each_drop n s h.1

  pub each_get : (s : List A) (n : ℕ) (d : A) → P d → Each P s → P (get_or s n d)
  each_get [] n d hd h = hd
  each_get (x ∷ s) zero d hd h = h.0
  each_get (x ∷ s) (suc n) d hd h = each_get s n d hd h.1

  pub each_set : (s : List A) (n : ℕ) (x : A) → P x → Each P s → Each P (set s n x)
  each_set [] n x hx h = tt
  each_set (y ∷ s) zero x hx h = (hx, h.1)
  each_set (y ∷ s) (suc n) x hx h = (h.0, each_set s n x hx h.1)

  pub each_replicate : (n : ℕ) (x : A) → P x → Each P (replicate n x)
  each_replicate zero x hx = tt
  each_replicate (suc n) x hx = (hx, each_replicate n x hx)

-- what holds of a number holds of one that the test finds equal to it
pub by_equal : (P : ℕ → Type 0) (n k : ℕ) → eqb n k ≡ true → P k → P n
by_equal P n k e x = subst P (sym (eqb-true n k e)) x

-- a number that stands in a list has what every element has
pub each_member : (P : ℕ → Type 0) (n : ℕ) (s : List ℕ) → Each P s → member n s ≡ true → P n
unfolding member some_of
each_member P n [] h e = absurd (mathlib.Core.Bool.false≢true e)
each_member P n (x ∷ s) h e =
    ⊎_elim (λ e₁. by_equal P n x e₁ h.0) (λ e₂. each_member P n s h.1 e₂) (either (eqb n x) (member n s) e)

-- what holds of each of the two ways
pub by_way : (P : Way → Type 0) → P Receive → P Send → (w : Way) → P w
by_way P x y Receive = x
by_way P x y Send = y
