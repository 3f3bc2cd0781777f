-- The profile is the front of the numbers that are lent: every place lies in it.
-- Assumes nothing.
use Prim.Native.Nat.{ℕ, ◌-◌, ◌/◌, ◌%◌, ◌^◌, ◌≤◌}
use mathlib.Core.Path.{◌≡◌, ap}
use mathlib.Core.Bool.{true, false}
use mathlib.Core.List.{List}
use native.Mathlib.Omega.{arith}
use lib.ListN.{take}
use lib.Seq.{get_or-take}
use lib.Dec.{eqb}
use Rattle.rules.specs.Checks.{◌⇒◌else◌}
use Rattle.rules.specs.Profile.{profile_size, bit, allows_event, allows_bearer, channels}

-- a bit of the front is that of the whole
module _ (t : List ℕ) where
  abbrev p : List ℕ
  p = take profile_size t

  pub front_bit : (byte n : ℕ) → 1 ≤ byte → byte ≤ profile_size → bit p byte n ≡ bit t byte n
  unfolding bit
  front_bit byte n l h = ap (λ (b : ℕ). eqb (b / 2 ^ (n - 1) % 2) 1) (get_or-take profile_size t (byte - 1) 0 (omega arith))

  pub front_event : (e : ℕ) → allows_event p e ≡ allows_event t e
  unfolding allows_event
  front_event e = λ i. eqb e 0x09 ⇒ front_bit 6 3 (omega arith) (omega arith) i else eqb e 0x0A ⇒ front_bit 6 4 (omega arith) (omega arith) i else false

  pub front_bearer : (b : ℕ) → allows_bearer p b ≡ allows_bearer t b
  unfolding allows_bearer
  front_bearer b = λ i. eqb b 0x03 ⇒ true else eqb b 0x02 ⇒ front_bit 13 2 (omega arith) (omega arith) i else false

  pub front_channels : channels p ≡ channels t
  unfolding channels
  front_channels = ap (λ (b : ℕ). b / 32 % 8) (get_or-take profile_size t 12 0 (omega arith))
