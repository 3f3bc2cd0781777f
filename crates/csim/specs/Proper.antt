-- What is known of a count: its digits, and that it has no zero in front.
use Rattle.std.specs.Prelude.{ℕ, ◌<◌, ◌≡◌, true, false, List, length}
use Rattle.rules.specs.Sound.{Each}
use Rattle.csim.specs.Records.{is_decimal, leading_zero}

-- decimal digits, of which there are some
pub record Counting (ds : List ℕ) : Type 0 where
  pub digits : Each (λ (c : ℕ). is_decimal c ≡ true) ds
  pub some : 0 < length ds

-- and no zero in front
pub record Proper (ds : List ℕ) : Type 0 where
  pub counting : Counting ds
  pub bare : leading_zero ds ≡ false
