-- The bytes behind a head of 81 or 82: whether each has a unit, and which.
-- Assumes nothing.
use Prim.Native.Nat.{ℕ, zero, suc, ◌+◌, ◌-◌, ◌≤◌, ◌<◌}
use mathlib.Core.Path.{◌≡◌, refl, sym, ap, ◌∙◌}
use mathlib.Core.Bool.{Bool, true, false, not, ◌&&◌, false≢true}
use mathlib.Core.List.{List, [], ◌∷◌}
use mathlib.Core.Option.{Option, none, some}
use native.Mathlib.Omega.{arith}
use lib.ListN.{length, get_or, take, drop, set}
use lib.Dec.{ltb, eqb}
use borrow.Author.Tests.{lt-ltb, le-ltb, eq-eqb, ne_eqb, ltb-false}
use Rattle.std.specs.Prelude.{Option as CodeOption, Some, None, SomeIff, is_some}
use Rattle.std.specs.List.{IsSplitAt}
use Rattle.rules.specs.Checks.{◌⇒◌else◌, every}
use Rattle.rules.proofs.Laws.{stop, skip, both_left, both_right}
use Rattle.octets.specs.Parts.{overlaid}
use Rattle.alpha.specs.Alphabet.{escape, unit_of}
use Rattle.alpha.specs.Reads.{Text, units, malformed, follow, follow_if, padding, based_unit, based_from, based}
use Rattle.alpha.specs.Passes.{is_there, told, units_in, well, Fills}
use Rattle.alpha.proofs.Fronts.{Front, front_none, front_room, front_more, front_all}
use Rattle.alpha.proofs.Texts.{below, follow_well, follow_units, ill, well_units}

-- a byte, by what it is
pub based_escape : (p b : ℕ) → b ≡ 27 → based_unit p b ≡ none
unfolding based_unit
based_escape p b e = stop _ _ _ (eq-eqb b escape e)

pub based_code : (p b : ℕ) → (b ≡ 27 → ⊥) → b < 128 → based_unit p b ≡ some (unit_of b)
unfolding based_unit
based_code p b n h = skip _ _ _ (ne_eqb b escape n) ∙ stop _ _ _ (lt-ltb b 128 h)

high : (p b : ℕ) → 128 ≤ b → based_unit p b ≡ (ltb 65535 (p + (b - 128)) ⇒ none else some (p + (b - 128)))
unfolding based_unit
high p b h = skip _ _ _ (ne_eqb b escape (λ e. omega (arith, e))) ∙ skip _ _ _ (le-ltb b 128 h)

-- what is told of its unit
module _ (p b : ℕ) where
  pub told_escape : b ≡ 27 → None ≡ told (based_unit p b)
  unfolding told
  told_escape e = sym (ap told (based_escape p b e))

  pub told_code : (v : ℕ) → (b ≡ 27 → ⊥) → b < 128 → v ≡ unit_of b → Some v ≡ told (based_unit p b)
  unfolding told
  told_code v n h e = ap Some e ∙ sym (ap told (based_code p b n h))

  pub told_high : (q : ℕ) (r : CodeOption ℕ) → q ≡ b - 128 → 128 ≤ b → SomeIff r (p + q < 65536) (p + q) → r ≡ told (based_unit p b)
  unfolding told
  told_high q None e h n = sym (ap told (high p b h ∙ stop _ _ _ (lt-ltb 65535 (p + (b - 128)) (below 65535 (p + (b - 128)) (λ k. n (omega arith))))))
  told_high q (Some v) e h w = ap Some (w.1 ∙ ap (λ (k : ℕ). p + k) e) ∙ sym (ap told (high p b h ∙ skip _ _ _ (le-ltb 65535 (p + (b - 128)) (omega (arith, w.0)))))

-- a byte that has a unit
module _ (p b : ℕ) (e : is_there (based_unit p b) ≡ true) where
  there_other : b ≡ 27 → ⊥
  unfolding is_there
  there_other f = false≢true (sym (ap is_there (based_escape p b f)) ∙ e)

  pub there_small : 128 ≤ b → p + (b - 128) ≤ 65535
  unfolding is_there
  there_small h = by (ltb 65535 (p + (b - 128))) refl
    where
      by : (t : Bool) → ltb 65535 (p + (b - 128)) ≡ t → p + (b - 128) ≤ 65535
      by true f = absurd (false≢true (sym (ap is_there (high p b h ∙ stop _ _ _ f)) ∙ e))
      by false f = ltb-false 65535 (p + (b - 128)) f

  pub based_low : (v : ℕ) → b < 128 → v ≡ unit_of b → based_unit p b ≡ some v
  based_low v h f = based_code p b there_other h ∙ ap some (sym f)

  pub based_over : (q v : ℕ) → q ≡ b - 128 → 128 ≤ b → v ≡ p + q → based_unit p b ≡ some v
  based_over q v f h g =
      let k : p + (b - 128) ≡ v = omega arith in
      high p b h ∙ skip _ _ _ (le-ltb 65535 _ (there_small h)) ∙ ap some k

-- every byte has a unit
abbrev pub has : ℕ → ℕ → Bool
has p b = is_some (told (based_unit p b))

follow_there : (o : Option ℕ) (t : Text) → well (follow_if o t) ≡ is_some (told o) && well t
unfolding follow_if told well follow
follow_there none t = refl
follow_there (some u) t = follow_well u t

pub based_well : (p : ℕ) (s : List ℕ) → well (based_from p s) ≡ every (has p) s
unfolding based_from every well
based_well p [] = refl
based_well p (b ∷ s) = follow_there (based_unit p b) (based_from p s) ∙ ap (λ (t : Bool). has p b && t) (based_well p s)

-- the unit of a byte
unfoldable or_zero : Option ℕ → ℕ
or_zero none = 0
or_zero (some u) = u

zero_told : (o : Option ℕ) (v : ℕ) → told o ≡ Some v → v ≡ or_zero o
unfolding told or_zero
zero_told none v e = absurd (let z : ◌≡◌ {A = ℕ} 0 1 = cc in omega arith)
zero_told (some u) v e = cc

there_told : (o : Option ℕ) → is_some (told o) ≡ true → is_there o ≡ true
unfolding told is_there
there_told none e = absurd (false≢true e)
there_told (some u) e = refl

front : (o : Option ℕ) (t : Text) → is_some (told o) ≡ true → well t ≡ true → units_in (follow_if o t) ≡ or_zero o ∷ units_in t
unfolding follow_if told or_zero
front none t e w = absurd (false≢true e)
front (some u) t e w = follow_units u t w

next_units : (p b : ℕ) (s : List ℕ) → every (has p) (b ∷ s) ≡ true → units_in (based_from p (b ∷ s)) ≡ or_zero (based_unit p b) ∷ units_in (based_from p s)
unfolding based_from every
next_units p b s e = front (based_unit p b) (based_from p s) (both_left (has p b) (every (has p) s) e) (based_well p s ∙ both_right (has p b) (every (has p) s) e)

pub based_few : (p : ℕ) (s : List ℕ) → every (has p) s ≡ true → length (units_in (based_from p s)) ≡ length s
unfolding based_from every units_in
based_few p [] e = refl
based_few p (b ∷ s) e = ap length (next_units p b s e) ∙ ap suc (based_few p s (both_right (has p b) (every (has p) s) e))

pub has_at : (p : ℕ) (s : List ℕ) (i : ℕ) → every (has p) s ≡ true → i < length s → has p (get_or s i 0) ≡ true
unfolding every
has_at p [] i e h = absurd (let z : i < 0 = h in omega arith)
has_at p (b ∷ s) zero e h = both_left (has p b) (every (has p) s) e
has_at p (b ∷ s) (suc i) e h = has_at p s i (both_right (has p b) (every (has p) s) e) (let z : suc i < suc (length s) = h in omega arith)

based_at : (p : ℕ) (s : List ℕ) (i : ℕ) → every (has p) s ≡ true → i < length s → get_or (units_in (based_from p s)) i 0 ≡ or_zero (based_unit p (get_or s i 0))
unfolding based_from every
based_at p [] i e h = absurd (let z : i < 0 = h in omega arith)
based_at p (b ∷ s) zero e h = ap (λ (l : List ℕ). get_or l 0 0) (next_units p b s e)
based_at p (b ∷ s) (suc i) e h =
    ap (λ (l : List ℕ). get_or l (suc i) 0) (next_units p b s e)
    ∙ based_at p s i (both_right (has p b) (every (has p) s) e) (let z : suc i < suc (length s) = h in omega arith)

-- the first i units stand in the buffer
pub record Placed (p : ℕ) (s before : List ℕ) (i : ℕ) (after : List ℕ) : Type 0 where
  pub all : every (has p) s ≡ true
  pub front : Front (units_in (based_from p s)) before i after

pub placed_none : (p : ℕ) (s before : List ℕ) → Fills (based_from p s) before → Placed p s before 0 before
placed_none p s before f = record { all = sym (based_well p s) ∙ f.formed; front = front_none _ before f.fits }

module _ (p : ℕ) (s before : List ℕ) (i : ℕ) (after : List ℕ) (c : Placed p s before i after) where
  pub placed_has : i < length s → has p (get_or s i 0) ≡ true
  placed_has h = has_at p s i c.all h

  pub placed_there : i < length s → is_there (based_unit p (get_or s i 0)) ≡ true
  placed_there h = there_told _ (placed_has h)

  pub placed_room : i < length s → i < length after
  placed_room h = let l = based_few p s c.all in front_room _ before i after c.front (omega arith)

  pub placed_more : (v : ℕ) → i < length s → told (based_unit p (get_or s i 0)) ≡ Some v → Placed p s before (i + 1) (set after i v)
  placed_more v h e =
      let l = based_few p s c.all in
      record { all = c.all; front = front_more _ before i after c.front v (omega arith) (zero_told _ v e ∙ sym (based_at p s i c.all h)) }

  pub placed_all : length s ≤ i → after ≡ overlaid (units_in (based_from p s)) before
  placed_all h = let l = based_few p s c.all in front_all _ before i after c.front (omega arith)

-- behind a head: fewer bytes than the count, another byte over, a byte without a unit, or as many units as the count says
module _ (count p : ℕ) (s : List ℕ) (k : ℕ) (e : k ≡ count) where
  pub counted_short : length s < k → based count p s ≡ malformed
  unfolding based
  counted_short h = stop _ _ _ (lt-ltb (length s) count (omega arith))

  module _ (coded over : List ℕ) (w : IsSplitAt s k coded over) where
    enough : based count p s ≡ (not (every (eqb padding) over) ⇒ malformed else based_from p coded)
    unfolding based
    enough =
        skip _ _ _ (le-ltb (length s) count (omega (arith, w.0)))
        ∙ (λ i. not (every (eqb padding) ((ap (λ (n : ℕ). drop n s) (sym e) ∙ sym w.2) i)) ⇒ malformed else based_from p ((ap (λ (n : ℕ). take n s) (sym e) ∙ sym w.1) i))

    pub counted_over : false ≡ every (eqb padding) over → based count p s ≡ malformed
    counted_over f = enough ∙ stop _ _ _ (ap not (sym f))

    module _ (f : true ≡ every (eqb padding) over) where
      pub counted_ill : false ≡ well (based_from p coded) → based count p s ≡ malformed
      counted_ill g = enough ∙ skip _ _ _ (ap not (sym f)) ∙ ill _ (sym g)

      pub counted_units : true ≡ well (based_from p coded) → based count p s ≡ units (units_in (based_from p coded))
      counted_units g = enough ∙ skip _ _ _ (ap not (sym f)) ∙ well_units _ (sym g)
