-- A count and the decimal of a number: without a zero in front the digits of a number are those of its decimal.
-- Assumes nothing.
use Prim.Native.Nat.{ℕ, suc, ◌+◌, ◌-◌, ◌*◌, ◌/◌, ◌%◌, ◌≤◌, ◌<◌}
use mathlib.Core.Path.{◌≡◌, sym, ap, subst, ◌∙◌}
use mathlib.Core.Logic.{⊎_elim}
use mathlib.Core.Bool.{Bool, true, false, ◌&&◌}
use mathlib.Core.List.{List, [], ◌∷◌}
use native.Mathlib.Omega.{arith}
use lib.ListN.{length, get_or, drop}
use lib.Dec.{eqb, ltb, leb}
use borrow.Author.Tests.{lt-ltb, le-ltb, leb-true, eqb-true, eqb-false, eq-eqb, ne_eqb}
use Rattle.rules.specs.Sound.{Each}
use Rattle.rules.specs.Lines.{last_digit, zeros_before, decimal}
use Rattle.rules.proofs.Laws.{stop, skip, both_left, both_right, and-false}
use Rattle.csim.specs.Records.{is_decimal, leading_zero, value_from, count_is}
use Rattle.csim.specs.Proper.{Proper}
use Rattle.std.specs.Cmp.Lexicographic.{pointwise}
use Rattle.std.proofs.lemmas.Bool.{cases_lt}
use Rattle.std.proofs.lemmas.Bool.Decides.{same_from_decides}
use Rattle.std.proofs.lemmas.Slice.Eq.{bytes_eq-Decides}
use Rattle.csim.proofs.Scans.{decimal_within}

-- a zero in front: not of one digit, and of more by the first
pub bare_short : (ds : List ℕ) → length ds ≤ 1 → false ≡ leading_zero ds
unfolding leading_zero
bare_short ds h = sym (ap (λ (b : Bool). b && eqb (get_or ds 0 0) 48) (le-ltb 1 (length ds) h))

pub padded_long : (ds : List ℕ) → 1 < length ds → eqb (get_or ds 0 0) 48 ≡ leading_zero ds
unfolding leading_zero
padded_long ds h = sym (ap (λ (b : Bool). b && eqb (get_or ds 0 0) 48) (lt-ltb 1 (length ds) h))

-- a digit's range
pub decimal_range : (c : ℕ) → is_decimal c ≡ true → (48 ≤ c) × (c ≤ 57)
unfolding is_decimal
decimal_range c e = (leb-true 48 c (both_left _ _ e), leb-true c 57 (both_right (leb 48 c) _ e))

last_decimal : (n : ℕ) → is_decimal (last_digit n) ≡ true
last_decimal n = decimal_within (last_digit n) (omega arith) (omega arith)

-- the decimal of a number, by how many digits it has
module _ (n : ℕ) where
  from : ℕ → List ℕ
  from z = drop z (last_digit (n / 1000) ∷ last_digit (n / 100) ∷ last_digit (n / 10) ∷ last_digit n ∷ [])

  one_digit : n < 10 → decimal n ≡ last_digit n ∷ []
  unfolding decimal zeros_before from
  one_digit h = ap from (stop _ _ _ (lt-ltb n 10 h))

  two_digits : 10 ≤ n → n < 100 → decimal n ≡ last_digit (n / 10) ∷ last_digit n ∷ []
  unfolding decimal zeros_before from
  two_digits h k = ap from (skip _ _ _ (le-ltb n 10 h) ∙ stop _ _ _ (lt-ltb n 100 k))

  three_digits : 100 ≤ n → n < 1000 → decimal n ≡ last_digit (n / 100) ∷ last_digit (n / 10) ∷ last_digit n ∷ []
  unfolding decimal zeros_before from
  three_digits h k = ap from (skip _ _ _ (le-ltb n 10 (omega arith)) ∙ skip _ _ _ (le-ltb n 100 h) ∙ stop _ _ _ (lt-ltb n 1000 k))

  four_digits_lem : 1000 ≤ n → decimal n ≡ last_digit (n / 1000) ∷ last_digit (n / 100) ∷ last_digit (n / 10) ∷ last_digit n ∷ []
  unfolding decimal zeros_before from
  four_digits_lem h = ap from (skip _ _ _ (le-ltb n 10 (omega arith)) ∙ skip _ _ _ (le-ltb n 100 (omega arith)) ∙ skip _ _ _ (le-ltb n 1000 h))

-- what the decimal of a number is: digits without a zero in front, which give the number
pub record Gives (ds : List ℕ) (n : ℕ) : Type 0 where
  pub proper : Proper ds
  pub value : value_from 0 ds ≡ n

first_counts : (a : ℕ) (ds : List ℕ) → (a ≡ 48 → ⊥) → leading_zero (a ∷ ds) ≡ false
unfolding leading_zero
first_counts a ds n = ap (λ (b : Bool). ltb 1 (length (a ∷ ds)) && b) (ne_eqb a 48 n) ∙ and-false (ltb 1 (length (a ∷ ds)))

-- four digits of a number, and three
four_value : (n : ℕ) → n < 10000 → value_from 0 (last_digit (n / 1000) ∷ last_digit (n / 100) ∷ last_digit (n / 10) ∷ last_digit n ∷ []) ≡ n
unfolding value_from
four_value n h =
    let a : n ≡ 10 * (n / 10) + n % 10 = omega arith in
    let b : n / 10 ≡ 10 * (n / 100) + n / 10 % 10 = omega arith in
    let c : n / 100 ≡ 10 * (n / 1000) + n / 100 % 10 = omega arith in
    let d : n / 1000 % 10 ≡ n / 1000 = omega arith in
    omega arith

three_value : (n : ℕ) → n < 1000 → value_from 0 (last_digit (n / 100) ∷ last_digit (n / 10) ∷ last_digit n ∷ []) ≡ n
unfolding value_from
three_value n h =
    let a : n ≡ 10 * (n / 10) + n % 10 = omega arith in
    let b : n / 10 ≡ 10 * (n / 100) + n / 10 % 10 = omega arith in
    let c : n / 100 % 10 ≡ n / 100 = omega arith in
    omega arith

from_digits :
    {a n : ℕ} {ds : List ℕ} → Each (λ (c : ℕ). is_decimal c ≡ true) (a ∷ ds) → leading_zero (a ∷ ds) ≡ false → value_from 0 (a ∷ ds) ≡ n → Gives (a ∷ ds) n
from_digits h b v = record { proper = record { counting = record { digits = h; some = omega arith }; bare = b }; value = v }

pub decimal_gives : (n : ℕ) → n < 10000 → Gives (decimal n) n
unfolding value_from
decimal_gives n h = ⊎_elim one (λ k. ⊎_elim (two k) (λ l. ⊎_elim (three l) four (cases_lt n 1000)) (cases_lt n 100)) (cases_lt n 10)
  where
    G : List ℕ → Type 0
    G ds = Gives ds n

    one : n < 10 → G (decimal n)
    one k = subst G (sym (one_digit n k)) (from_digits (last_decimal n, tt) (sym (bare_short (last_digit n ∷ []) (omega arith))) (omega arith))

    two : 10 ≤ n → n < 100 → G (decimal n)
    two k l =
        subst G (sym (two_digits n k l)) (from_digits (last_decimal (n / 10), (last_decimal n, tt)) (first_counts (last_digit (n / 10)) _ (λ e. omega (arith, e))) (omega arith))

    three : 100 ≤ n → n < 1000 → G (decimal n)
    three k l =
        subst G (sym (three_digits n k l))
        (from_digits (last_decimal (n / 100), (last_decimal (n / 10), (last_decimal n, tt))) (first_counts (last_digit (n / 100)) _ (λ e. omega (arith, e))) (three_value n l))

    four : 1000 ≤ n → G (decimal n)
    four k =
        subst G (sym (four_digits_lem n k))
        (from_digits (last_decimal (n / 1000), (last_decimal (n / 100), (last_decimal (n / 10), (last_decimal n, tt))))
        (first_counts (last_digit (n / 1000)) _ (λ e. omega (arith, e))) (four_value n h))

-- and no other digits do
value_grows : (n : ℕ) (ds : List ℕ) → n ≤ value_from n ds
unfolding value_from
value_grows n [] = omega arith
value_grows n (c ∷ ds) = let h = value_grows (10 * n + (c - 48)) ds in omega arith

not_zero : (a b : ℕ) (ds : List ℕ) → leading_zero (a ∷ b ∷ ds) ≡ false → a ≡ 48 → ⊥
not_zero a b ds e = eqb-false a 48 (padded_long (a ∷ b ∷ ds) (let z : 1 < suc (suc (length ds)) = omega arith in z) ∙ e)

-- five digits and more, of which the first is not 0
many : (a b c d e : ℕ) (ds : List ℕ) → 49 ≤ a → 10000 ≤ value_from 0 (a ∷ b ∷ c ∷ d ∷ e ∷ ds)
unfolding value_from
many a b c d e ds h = through (times _ (e - 48) _ (times _ (d - 48) _ (times _ (c - 48) _ (times (10 * 0 + (a - 48)) (b - 48) 1 (omega arith))))) (value_grows _ ds)
  where
    times : (n x k : ℕ) → k ≤ n → 10 * k ≤ 10 * n + x
    times n x k p = omega arith

    through : {x y z : ℕ} → x ≤ y → y ≤ z → x ≤ z
    through p q = omega arith

pub decimal_only : (ds : List ℕ) (n : ℕ) → n < 10000 → Gives ds n → ds ≡ decimal n
unfolding value_from
decimal_only [] n h g = absurd (let z : 0 < 0 = g.proper.counting.some in omega arith)
decimal_only (a ∷ []) n h g =
    let p = decimal_range a g.proper.counting.digits.0 in
    let v = g.value in
    let e : a ≡ last_digit n = omega arith in
    ap (λ (x : ℕ). x ∷ []) e ∙ sym (one_digit n (omega arith))
decimal_only (a ∷ b ∷ []) n h g =
    let p = decimal_range a g.proper.counting.digits.0 in
    let q = decimal_range b g.proper.counting.digits.1.0 in
    let v = g.value in
    let z = not_zero a b [] g.proper.bare in
    let d : a ≡ last_digit (n / 10) = omega arith in
    let e : b ≡ last_digit n = omega arith in
    (λ i. d i ∷ e i ∷ []) ∙ sym (two_digits n (omega (arith, z)) (omega arith))
decimal_only (a ∷ b ∷ c ∷ []) n h g =
    let p = decimal_range a g.proper.counting.digits.0 in
    let q = decimal_range b g.proper.counting.digits.1.0 in
    let r = decimal_range c g.proper.counting.digits.1.1.0 in
    let v = g.value in
    let z = not_zero a b (c ∷ []) g.proper.bare in
    let d : a ≡ last_digit (n / 100) = omega arith in
    let e : b ≡ last_digit (n / 10) = omega arith in
    let f : c ≡ last_digit n = omega arith in
    (λ i. d i ∷ e i ∷ f i ∷ []) ∙ sym (three_digits n (omega (arith, z)) (omega arith))
decimal_only (a ∷ b ∷ c ∷ d ∷ []) n h g =
    let p = decimal_range a g.proper.counting.digits.0 in
    let q = decimal_range b g.proper.counting.digits.1.0 in
    let r = decimal_range c g.proper.counting.digits.1.1.0 in
    let s = decimal_range d g.proper.counting.digits.1.1.1.0 in
    let v = g.value in
    let z = not_zero a b (c ∷ d ∷ []) g.proper.bare in
    let w : a ≡ last_digit (n / 1000) = omega arith in
    let x : b ≡ last_digit (n / 100) = omega arith in
    let y : c ≡ last_digit (n / 10) = omega arith in
    let u : d ≡ last_digit n = omega arith in
    (λ i. w i ∷ x i ∷ y i ∷ u i ∷ []) ∙ sym (four_digits_lem n (omega (arith, z)))
decimal_only (a ∷ b ∷ c ∷ d ∷ e ∷ ds) n h g =
    absurd (over g.value h (many a b c d e ds (counts (decimal_range a g.proper.counting.digits.0).0 (not_zero a b (c ∷ d ∷ e ∷ ds) g.proper.bare))))
  where
    over : {v m : ℕ} → v ≡ m → m < 10000 → 10000 ≤ v → ⊥
    over p q r = omega arith

    counts : {x : ℕ} → 48 ≤ x → (x ≡ 48 → ⊥) → 49 ≤ x
    counts p q = omega (arith, q)

-- whether a count is a number, by the decimal of the number
module _ (ds : List ℕ) (n : ℕ) (p : Proper ds) (h : n < 10000) where
  is_decimal_lem : count_is ds n ≡ true → ds ≡ decimal n
  unfolding count_is
  is_decimal_lem e = decimal_only ds n h (record { proper = p; value = eqb-true (value_from 0 ds) n e })

  decimal_is : ds ≡ decimal n → count_is ds n ≡ true
  unfolding count_is
  decimal_is e = eq-eqb (value_from 0 ds) n (ap (value_from 0) e ∙ (decimal_gives n h).value)

  -- as the code compares them
  pub same_decimal : pointwise eqb ds (decimal n) ≡ count_is ds n
  same_decimal = same_from_decides (pointwise eqb ds (decimal n)) (count_is ds n) (bytes_eq-Decides ds (decimal n)) (is_decimal_lem, decimal_is)
