-- The default alphabet, byte by byte: how many units it has, and the units written one by one.
-- Assumes nothing.
use Prim.Native.Nat.{ℕ, zero, suc, ◌+◌, ◌≤◌, ◌<◌}
use mathlib.Core.Path.{◌≡◌, refl, sym, ap, subst, ◌∙◌}
use mathlib.Core.Bool.{Bool, true, false, not, ◌&&◌}
use mathlib.Core.List.{List, [], ◌∷◌, map}
use mathlib.Core.Option.{Option}
use native.Mathlib.Omega.{arith}
use lib.ListN.{length, get_or, drop, set}
use lib.Dec.{ltb, eqb}
use borrow.Author.Tests.{lt-ltb, le-ltb, eq-eqb, ne_eqb, ltb-true, ltb-false, eqb-true, eqb-false, not-true}
use Rattle.std.specs.Prelude.{Option as CodeOption, Some, None}
use denote.Ref.{Bor}
use Rattle.std.specs.Bool.{then_some}
use Rattle.rules.specs.Checks.{◌⇒◌else◌, every}
use Rattle.rules.proofs.Laws.{stop, skip, both_left, both_right}
use Rattle.octets.specs.Parts.{overlaid}
use Rattle.alpha.specs.Alphabet.{escape, unit_of, extension_unit}
use Rattle.alpha.specs.Reads.{Text, units, malformed, follow, follow_if, padding, default_from}
use Rattle.alpha.specs.Passes.{told, size_of, units_in, Fills, is_plain, ended, Splits}
use Rattle.alpha.proofs.Scans.{and_true}
use Rattle.alpha.proofs.Fronts.{Front, front_none, front_room, front_more, front_all}
use Rattle.alpha.proofs.Texts.{told_some, told_none, plus, plus_none, plus_more, follow_size, well_units, Follows, follows, head_within, head_is, head_rest, rest_none}

-- a plain code, by its parts
pub plain_below : (b : ℕ) → is_plain b ≡ true → b < 128
unfolding is_plain
plain_below b e = ltb-true b 128 (both_left (ltb b 128) (not (eqb b escape)) e)

plain_other : (b : ℕ) → is_plain b ≡ true → b ≡ escape → ⊥
unfolding is_plain
plain_other b e = eqb-false b escape (not-true (eqb b escape) (both_right (ltb b 128) (not (eqb b escape)) e))

-- a byte in front, by what it is
module _ (b : ℕ) (s : List ℕ) where
  pub default_padding : b ≡ padding → default_from false (b ∷ s) ≡ units []
  unfolding default_from ◌⇒◌else◌
  default_padding e = stop _ _ _ (eq-eqb b padding e)

  pub default_escape : b ≡ escape → default_from false (b ∷ s) ≡ default_from true s
  unfolding default_from ◌⇒◌else◌
  default_escape e = skip _ _ _ (ne_eqb b padding (λ f. omega (arith, e, f))) ∙ stop _ _ _ (eq-eqb b escape e)

  pub default_code : b < 128 → (b ≡ escape → ⊥) → default_from false (b ∷ s) ≡ follow (unit_of b) (default_from false s)
  unfolding default_from ◌⇒◌else◌
  default_code h n = skip _ _ _ (ne_eqb b padding (λ f. omega (arith, f))) ∙ skip _ _ _ (ne_eqb b escape n) ∙ stop _ _ _ (lt-ltb b 128 h)

  pub default_other : (b ≡ padding → ⊥) → 128 ≤ b → default_from false (b ∷ s) ≡ malformed
  unfolding default_from ◌⇒◌else◌
  default_other n h = skip _ _ _ (ne_eqb b padding n) ∙ skip _ _ _ (ne_eqb b escape (λ f. omega (arith, f))) ∙ skip _ _ _ (le-ltb b 128 h)

  pub default_extended_lem : default_from true (b ∷ s) ≡ follow_if (extension_unit b) (default_from false s)
  unfolding default_from ◌⇒◌else◌
  default_extended_lem = refl

-- plain codes alone
pub plain_units : (s : List ℕ) → every is_plain s ≡ true → default_from false s ≡ units (map unit_of s)
unfolding every default_from follow ◌⇒◌else◌
plain_units [] e = refl
plain_units (b ∷ s) e =
    let p = both_left (is_plain b) (every is_plain s) e in
    default_code b s (plain_below b p) (plain_other b p) ∙ ap (follow (unit_of b)) (plain_units s (both_right (is_plain b) (every is_plain s) e))

-- whether it has ended
pub ended_none : (s : List ℕ) → length s ≡ 0 → true ≡ ended s
unfolding ended
ended_none [] e = refl
ended_none (b ∷ s) e = absurd (let z : suc (length s) ≡ 0 = e in omega arith)

pub ended_some : (s : List ℕ) → 0 < length s → eqb (get_or s 0 0) 255 ≡ ended s
unfolding ended
ended_some [] h = absurd (let z : 0 < 0 = h in omega arith)
ended_some (b ∷ s) h = refl

-- what stands first in a text: nothing, a lone escape, an escape before a code that is none, a byte that ends it or is malformed, or a unit
module _ (s : List ℕ) where
  abbrev pub Stops : Type 0
  Stops = default_from false s ≡ (ended s ⇒ units [] else malformed)

  abbrev pub Goes : ℕ → List ℕ → Type 0
  Goes u r = (default_from false s ≡ follow u (default_from false r)) × (length r < length s)

  pub splits_none : (r : CodeOption (ℕ × Bor (List ℕ))) → r ≡ None → Stops → Splits s r
  splits_none r e h = subst (λ (x : CodeOption (ℕ × Bor (List ℕ))). Splits s x) (sym e) h

pub stops_empty : (s : List ℕ) → length s ≡ 0 → Stops s
unfolding default_from ended ◌⇒◌else◌
stops_empty [] e = refl
stops_empty (b ∷ s) e = absurd (let z : suc (length s) ≡ 0 = e in omega arith)

module _ (s : List ℕ) (b : ℕ) (r : List ℕ) (e : s ≡ b ∷ r) where
  at_escape : b ≡ 27 → default_from false s ≡ default_from true r
  at_escape f = ap (default_from false) e ∙ default_escape b r f

  going_on : b ≡ 27 → (ended s ⇒ units [] else malformed) ≡ malformed
  unfolding ended
  going_on f = skip _ _ _ (ap ended e ∙ ne_eqb b padding (λ g. omega (arith, f, g)))

  pub stops_dangling : b ≡ 27 → length r ≡ 0 → Stops s
  unfolding default_from ◌⇒◌else◌
  stops_dangling f n = at_escape f ∙ by r n ∙ sym (going_on f)
    where
      by : (t : List ℕ) → length t ≡ 0 → default_from true t ≡ malformed
      by [] m = refl
      by (c ∷ t) m = absurd (let z : suc (length t) ≡ 0 = m in omega arith)

  module _ (f : b ≡ 27) (c : ℕ) (t : List ℕ) (g : r ≡ c ∷ t) where
    behind_escape : default_from false s ≡ follow_if (extension_unit c) (default_from false t)
    behind_escape = at_escape f ∙ ap (default_from true) g ∙ default_extended_lem c t

    pub stops_unassigned : None ≡ told (extension_unit c) → Stops s
    unfolding follow_if
    stops_unassigned h = behind_escape ∙ ap (λ (o : Option ℕ). follow_if o (default_from false t)) (told_none _ _ h refl) ∙ sym (going_on f)

    pub goes_extended : (u : ℕ) → Some u ≡ told (extension_unit c) → Goes s u t
    unfolding follow_if
    goes_extended u h =
        let l = ap length e in
        let m = ap length g in
        (behind_escape ∙ ap (λ (o : Option ℕ). follow_if o (default_from false t)) (told_some _ _ u h refl), omega arith)

  pub stops_other : (b ≡ 27 → ⊥) → is_plain b ≡ false → Stops s
  unfolding is_plain ended
  stops_other n f = by (eqb b padding) refl
    where
      high : 128 ≤ b
      high = ltb-false b 128 (sym (and_true (ltb b 128)) ∙ ap (λ (t : Bool). ltb b 128 && not t) (sym (ne_eqb b escape n)) ∙ f)

      by : (t : Bool) → eqb b padding ≡ t → Stops s
      by true p = ap (default_from false) e ∙ default_padding b r (eqb-true b padding p) ∙ sym (stop _ _ _ (ap ended e ∙ p))
      by false p = ap (default_from false) e ∙ default_other b r (eqb-false b padding p) high ∙ sym (skip _ _ _ (ap ended e ∙ p))

  pub goes_plain : (v : ℕ) → is_plain b ≡ true → v ≡ unit_of b → Goes s v r
  goes_plain v p is =
      let l = ap length e in
      (ap (default_from false) e ∙ default_code b r (plain_below b p) (plain_other b p) ∙ ap (λ (u : ℕ). follow u (default_from false r)) (sym is), omega arith)

-- n units stood before the rest of a text
pub record Counting (s : List ℕ) (n : ℕ) (rest : List ℕ) : Type 0 where
  pub few : n + length rest ≤ length s
  pub same : size_of (default_from false s) ≡ plus n (size_of (default_from false rest))

pub counting_none : (s : List ℕ) → Counting s 0 s
counting_none s = record { few = omega arith; same = plus_none (size_of (default_from false s)) }

module _ (s : List ℕ) (n : ℕ) (rest : List ℕ) (m : Counting s n rest) where
  pub counting_more : (u : ℕ) (r : List ℕ) → Goes rest u r → Counting s (n + 1) r
  counting_more u r g =
      record {
        few = omega (arith, m.few, g.1);
        same = m.same ∙ ap (λ (t : Text). plus n (size_of t)) g.0 ∙ ap (plus n) (follow_size u (default_from false r)) ∙ plus_more n _;
      }

  pub counting_told : (b : Bool) → Stops rest → b ≡ ended rest → then_some b n ≡ size_of (default_from false s)
  unfolding plus size_of
  counting_told true h e =
      sym (m.same ∙ ap (λ (t : Text). plus n (size_of t)) (h ∙ stop _ _ _ (sym e)) ∙ ap Some (let z : n + 0 ≡ n = omega arith in z))
  counting_told false h e = sym (m.same ∙ ap (λ (t : Text). plus n (size_of t)) (h ∙ skip _ _ _ (sym e)))

-- the first n units of a text that is well formed stand in the buffer, and the rest of the text gives the others
pub record Filling (s before : List ℕ) (n : ℕ) (rest after : List ℕ) : Type 0 where
  pub left : default_from false rest ≡ units (drop n (units_in (default_from false s)))
  pub front : Front (units_in (default_from false s)) before n after

pub filling_none : (s before : List ℕ) → Fills (default_from false s) before → Filling s before 0 s before
filling_none s before f = record { left = well_units (default_from false s) f.formed; front = front_none _ before f.fits }

module _ (s before : List ℕ) (n : ℕ) (rest after : List ℕ) (f : Filling s before n rest after) where
  module _ (u : ℕ) (r : List ℕ) (g : Goes rest u r) where
    first_left : Follows u (default_from false r) (drop n (units_in (default_from false s)))
    first_left = follows u (default_from false r) (drop n (units_in (default_from false s))) (sym g.0 ∙ f.left)

    pub filling_room : n < length after
    filling_room = front_room _ before n after f.front (head_within _ n u first_left.ws first_left.is)

    pub filling_more : Filling s before (n + 1) r (set after n u)
    filling_more =
        let us = units_in (default_from false s) in
        let w = first_left in
        record {
          left = w.rest ∙ ap units (sym (head_rest us n u w.ws w.is));
          front = front_more us before n after f.front u (head_within us n u w.ws w.is) (sym (head_is us n u w.ws w.is));
        }

  pub filling_end : Stops rest → after ≡ overlaid (units_in (default_from false s)) before
  unfolding units_in
  filling_end h = front_all _ before n after f.front (rest_none _ n (by (ended rest) refl))
    where
      by : (t : Bool) → ended rest ≡ t → drop n (units_in (default_from false s)) ≡ []
      by true e = ap units_in (sym f.left ∙ h ∙ stop _ _ _ e)
      by false e = absurd (let z : units (drop n (units_in (default_from false s))) ≡ malformed = sym f.left ∙ h ∙ skip _ _ _ e in let o : ◌≡◌ {A = ℕ} 0 1 = cc in omega arith)

-- a plain code at a place
pub every_at : (s : List ℕ) (i : ℕ) → every is_plain s ≡ true → i < length s → is_plain (get_or s i 0) ≡ true
unfolding every
every_at [] i e h = absurd (let z : i < 0 = h in omega arith)
every_at (b ∷ s) zero e h = both_left (is_plain b) (every is_plain s) e
every_at (b ∷ s) (suc i) e h = every_at s i (both_right (is_plain b) (every is_plain s) e) (let z : suc i < suc (length s) = h in omega arith)
