-- Digits in either case: where they stand, and what they stand for.
-- Assumes nothing.
use Prim.Native.Nat.{ℕ, ◌≤◌}
use mathlib.Core.Path.{◌≡◌}
use mathlib.Core.Logic.{◌⊎◌}
use mathlib.Core.Bool.{true}
use native.Mathlib.Omega.{arith}
use Rattle.std.proofs.lemmas.Bool.Decides.{nat_tests}
use Rattle.rules.specs.Lines.{is_digit, digit_value}
use Rattle.rules.proofs.Laws.{checks}

-- the three ranges of the digits
pub digit_ranges : (c : ℕ) → is_digit c ≡ true → (((48 ≤ c) × (c ≤ 57)) ⊎ ((65 ≤ c) × (c ≤ 70))) ⊎ ((97 ≤ c) × (c ≤ 102))
unfolding is_digit
digit_ranges c e = grind (arith, nat_tests)

pub low_digit : (c : ℕ) → 48 ≤ c → c ≤ 57 → true ≡ is_digit c
unfolding is_digit
low_digit c h k = grind (arith, nat_tests)

pub capital_digit : (c : ℕ) → 65 ≤ c → c ≤ 70 → true ≡ is_digit c
unfolding is_digit
capital_digit c h k = grind (arith, nat_tests)

-- a digit stands for a number below 16
pub digit_small : (c : ℕ) → is_digit c ≡ true → digit_value c ≤ 15
unfolding digit_value
digit_small c e = grind (arith, checks, digit_ranges)
