-- The look-up of a unit's code, and the rule of the two tables.
-- Assumes nothing.
use Prim.Native.Nat.{ℕ, zero, suc, ◌+◌, ◌-◌, ◌≤◌, ◌<◌}
use mathlib.Core.Path.{◌≡◌, refl, sym, ap, subst, ◌∙◌}
use mathlib.Core.Bool.{Bool, true, false, ◌&&◌, ◌||◌, false≢true}
use mathlib.Core.List.{List, [], ◌∷◌}
use mathlib.Core.Option.{Option, none, some}
use native.Mathlib.Omega.{arith}
use native.Mathlib.Numerals.{add-one}
use lib.ListN.{length, get_or}
use lib.Dec.{eqb, leb}
use borrow.Author.Tests.{eq-eqb, ne_eqb, eqb-true, eqb-false, leb-true}
use Rattle.std.specs.Prelude.{Some, None}
use Rattle.std.specs.List.{position, position_from}
use Rattle.std.proofs.lemmas.Iterator.Adapters.{position_from-zero}
use Rattle.rules.specs.Checks.{◌⇒◌else◌, every}
use Rattle.rules.proofs.Laws.{stop, skip, both_left, both_right}
use Rattle.alpha.specs.Alphabet.{escape, table, unit_of, Extended, extensions, extension_among, extension_unit, code_among, code_of, extension_code_among, extension_code_of}
use Rattle.alpha.specs.Writes.{is_none}
use Rattle.alpha.specs.Passes.{told}

table_size : length table ≡ 128
unfolding table
table_size = refl

-- the place of a unit in the table is its code
position_among : (u k : ℕ) (xs : List ℕ) → position_from (λ x. eqb x u) k xs ≡ told (code_among u k xs)
unfolding code_among told ◌⇒◌else◌
position_among u k [] = refl
position_among u k (x ∷ xs) = by (eqb u x) refl (position_among u (suc k) xs)
  where
    by : (t : Bool) → eqb u x ≡ t → position_from (λ y. eqb y u) (suc k) xs ≡ told (code_among u (suc k) xs) → position_from (λ y. eqb y u) k (x ∷ xs) ≡ told (code_among u k (x ∷ xs))
    by true e r = let f : eqb x u ≡ true = eq-eqb x u (sym (eqb-true u x e)) in rw (e, f)
    by false e r = let f : eqb x u ≡ false = ne_eqb x u (λ y. eqb-false u x e (sym y)) in rw (e, f) (rw add-one r)

pub position_code : (u : ℕ) → position (λ x. eqb x u) table ≡ told (code_of u)
unfolding code_of
position_code u = position_from-zero (λ x. eqb x u) table ∙ position_among u 0 table

-- "which code a unit has, no unit twice, 1B none": one computed test for the base table
same_code : Option ℕ → ℕ → Bool
same_code none c = false
same_code (some d) c = eqb d c

obeys : ℕ → Bool
obeys c = eqb c escape || same_code (code_of (unit_of c)) c

-- the codes from k on, n of them
codes : ℕ → ℕ → List ℕ
codes zero k = []
codes (suc n) k = k ∷ codes n (suc k)

table_test : every obeys (codes 128 0) ≡ true
unfolding every obeys codes same_code code_of code_among unit_of table ◌⇒◌else◌
table_test = refl

codes_every : (f : ℕ → Bool) (n k c : ℕ) → every f (codes n k) ≡ true → k ≤ c → c < k + n → f c ≡ true
unfolding every codes
codes_every f zero k c e h l = absurd (let z : c < k + 0 = l in omega arith)
codes_every f (suc n) k c e h l = by (eqb k c) refl (λ m. codes_every f n (suc k) c (both_right (f k) (every f (codes n (suc k))) e) m (omega arith))
  where
    by : (t : Bool) → eqb k c ≡ t → (suc k ≤ c → f c ≡ true) → f c ≡ true
    by true q rest = subst (λ (x : ℕ). f x ≡ true) (eqb-true k c q) (both_left (f k) (every f (codes n (suc k))) e)
    by false q rest = let ne = eqb-false k c q in rest (omega (arith, ne))

same_code_is : (o : Option ℕ) (c : ℕ) → same_code o c ≡ true → o ≡ some c
unfolding same_code
same_code_is none c e = absurd (false≢true e)
same_code_is (some d) c e = ap some (eqb-true d c e)

-- each code but the escape is the code of its unit, so that no unit stands twice
pub code_of_unit : (c : ℕ) → c < 128 → (c ≡ escape → ⊥) → code_of (unit_of c) ≡ some c
unfolding obeys
code_of_unit c h n =
    let t = codes_every obeys 128 0 c table_test (omega arith) (omega arith) in
    same_code_is (code_of (unit_of c)) c (sym (ap (λ (b : Bool). b || same_code (code_of (unit_of c)) c) (ne_eqb c escape n)) ∙ t)

-- a code that was found is below the end, and stands for the unit
among : (u k : ℕ) (xs : List ℕ) (c : ℕ) → code_among u k xs ≡ some c → (k ≤ c) × (c < k + length xs) × (get_or xs (c - k) 0 ≡ u)
unfolding code_among
among u k [] c e = absurd (let z : ◌≡◌ {A = ℕ} 0 1 = cc in omega arith)
among u k (x ∷ xs) c e = by (eqb u x) refl (λ q. among u (suc k) xs c q)
  where
    by :
        (t : Bool) → eqb u x ≡ t → (code_among u (suc k) xs ≡ some c → (suc k ≤ c) × (c < suc k + length xs) × (get_or xs (c - suc k) 0 ≡ u)) →
        (k ≤ c) × (c < k + suc (length xs)) × (get_or (x ∷ xs) (c - k) 0 ≡ u)
    by true q rest =
        let f : some k ≡ some c = sym (stop _ _ _ q) ∙ e in
        let g : k ≡ c = cc in
        let z : c - k ≡ 0 = omega arith in
        (omega arith, omega arith, ap (λ (j : ℕ). get_or (x ∷ xs) j 0) z ∙ sym (eqb-true u x q))
    by false q rest =
        let w = rest (sym (skip _ _ _ q) ∙ e) in
        let z : c - k ≡ suc (c - suc k) = omega arith in
        (omega arith, omega arith, ap (λ (j : ℕ). get_or (x ∷ xs) j 0) z ∙ w.2)

pub unit_of_code : (u c : ℕ) → code_of u ≡ some c → (c < 128) × (unit_of c ≡ u)
unfolding code_of unit_of
unit_of_code u c e =
    let w = among u 0 table c e in
    let n = table_size in
    let z : c - 0 ≡ c = omega arith in
    (omega arith, sym (ap (λ (j : ℕ). get_or table j 0) z) ∙ w.2)

escape_first : code_of (unit_of escape) ≡ some 0
unfolding code_of code_among unit_of table ◌⇒◌else◌
escape_first = refl

-- 1B is no unit's code
pub escape_none : (u c : ℕ) → code_of u ≡ some c → c ≡ escape → ⊥
escape_none u c e f =
    let w = unit_of_code u c e in
    let v : u ≡ unit_of escape = sym w.1 ∙ ap unit_of f in
    let z : some 0 ≡ some c = sym escape_first ∙ sym (ap code_of v) ∙ e in
    let y : 0 ≡ c = cc in
    omega arith

-- the extension table: one computed test of its ten
inverse : Extended → Bool
inverse x = same_code (extension_unit x.code) x.unit && same_code (extension_code_of x.unit) x.code && is_none (code_of x.unit)

extension_test : every inverse extensions ≡ true
unfolding every inverse same_code extensions extension_unit extension_among extension_code_of extension_code_among is_none code_of code_among table ◌⇒◌else◌
extension_test = refl

-- what holds of each of them holds of the code and the unit that were found
found_code : (P : ℕ → ℕ → Bool) (u c : ℕ) (xs : List Extended) → every (λ (x : Extended). P x.code x.unit) xs ≡ true → extension_code_among u xs ≡ some c → P c u ≡ true
unfolding every extension_code_among
found_code P u c [] h e = absurd (let z : ◌≡◌ {A = ℕ} 0 1 = cc in omega arith)
found_code P u c (x ∷ xs) h e = by (eqb u x.unit) refl (λ q. found_code P u c xs (both_right (P x.code x.unit) (every (λ (y : Extended). P y.code y.unit) xs) h) q)
  where
    by : (t : Bool) → eqb u x.unit ≡ t → (extension_code_among u xs ≡ some c → P c u ≡ true) → P c u ≡ true
    by true q rest =
        let f : some x.code ≡ some c = sym (stop _ _ _ q) ∙ e in
        let g : x.code ≡ c = cc in
        (λ i. P (sym g i) (eqb-true u x.unit q i)) ∙ both_left (P x.code x.unit) (every (λ (y : Extended). P y.code y.unit) xs) h
    by false q rest = rest (sym (skip _ _ _ q) ∙ e)

pair_inverse : ℕ → ℕ → Bool
pair_inverse c u = same_code (extension_unit c) u && same_code (extension_code_of u) c && is_none (code_of u)

none_is : (o : Option ℕ) → is_none o ≡ true → o ≡ none
unfolding is_none
none_is none e = refl
none_is (some c) e = absurd (false≢true e)

-- the two ways through the extension table are inverse, and none of its units has a code of the base table
pub extension_back : (u c : ℕ) → extension_code_of u ≡ some c → (extension_unit c ≡ some u) × (code_of u ≡ none)
unfolding extension_code_of inverse pair_inverse
extension_back u c e =
    let t = found_code pair_inverse u c extensions extension_test e in
    let a = both_left (same_code (extension_unit c) u && same_code (extension_code_of u) c) (is_none (code_of u)) t in (
      same_code_is (extension_unit c) u (both_left (same_code (extension_unit c) u) (same_code (extension_code_of u) c) a),
      none_is (code_of u) (both_right (same_code (extension_unit c) u && same_code (extension_code_of u) c) (is_none (code_of u)) t),
    )

found_unit : (P : ℕ → ℕ → Bool) (u c : ℕ) (xs : List Extended) → every (λ (x : Extended). P x.code x.unit) xs ≡ true → extension_among c xs ≡ some u → P c u ≡ true
unfolding every extension_among
found_unit P u c [] h e = absurd (let z : ◌≡◌ {A = ℕ} 0 1 = cc in omega arith)
found_unit P u c (x ∷ xs) h e = by (eqb c x.code) refl (λ q. found_unit P u c xs (both_right (P x.code x.unit) (every (λ (y : Extended). P y.code y.unit) xs) h) q)
  where
    by : (t : Bool) → eqb c x.code ≡ t → (extension_among c xs ≡ some u → P c u ≡ true) → P c u ≡ true
    by true q rest =
        let f : some x.unit ≡ some u = sym (stop _ _ _ q) ∙ e in
        let g : x.unit ≡ u = cc in
        (λ i. P (eqb-true c x.code q i) (sym g i)) ∙ both_left (P x.code x.unit) (every (λ (y : Extended). P y.code y.unit) xs) h
    by false q rest = rest (sym (skip _ _ _ q) ∙ e)

pub extension_forth : (u c : ℕ) → extension_unit c ≡ some u → extension_code_of u ≡ some c
unfolding extension_unit inverse pair_inverse
extension_forth u c e =
    let t = found_unit pair_inverse u c extensions extension_test e in
    let a = both_left (same_code (extension_unit c) u && same_code (extension_code_of u) c) (is_none (code_of u)) t in
    same_code_is (extension_code_of u) c (both_right (same_code (extension_unit c) u) (same_code (extension_code_of u) c) a)

-- no unit of the base table is above its last
last_test : every (λ (x : ℕ). leb x 0x3A9) table ≡ true
unfolding every table
last_test = refl

above_none : (m u k : ℕ) (xs : List ℕ) → every (λ (x : ℕ). leb x m) xs ≡ true → m < u → code_among u k xs ≡ none
unfolding every code_among
above_none m u k [] e h = refl
above_none m u k (x ∷ xs) e h =
    let l = leb-true x m (both_left (leb x m) (every (λ (y : ℕ). leb y m) xs) e) in
    skip _ _ _ (ne_eqb u x (λ q. omega (arith, q))) ∙ above_none m u (suc k) xs (both_right (leb x m) (every (λ (y : ℕ). leb y m) xs) e) h

pub code_above : (u : ℕ) → 0x3A9 < u → None ≡ told (code_of u)
unfolding code_of told
code_above u h = sym (ap told (above_none 0x3A9 u 0 table last_test h))

-- a unit that stands at its own place has that code
escape_unit : unit_of escape ≡ 0x40
unfolding unit_of table
escape_unit = refl

pub code_own : (u : ℕ) → u < 128 → get_or table u 0 ≡ u → Some u ≡ told (code_of u)
unfolding unit_of told
code_own u h e = sym (ap told (ap code_of (sym e) ∙ code_of_unit u h other))
  where
    other : u ≡ escape → ⊥
    other f = let z = sym escape_unit ∙ ap unit_of (sym f) ∙ e in omega arith
