-- Step 8, check by check.
-- Assumes nothing.
use Prim.Native.Nat.{ℕ, ◌≤◌, ◌<◌}
use mathlib.Core.Path.{◌≡◌, sym, ◌∙◌}
use mathlib.Core.Bool.{Bool, true, false}
use lib.Dec.{leb, eqb}
use borrow.Author.Tests.{le-leb, lt-leb, ne_eqb}
use Rattle.rules.specs.declared.DeviceIdentity.{DeviceIdentity}
use Rattle.rules.specs.Checks.{◌⇒◌else◌}
use Rattle.rules.specs.Reading.{to_modem, addressed}

module _ (t : ℕ) (from to : DeviceIdentity) where
  pub not_card : (from.0 ≡ 0x81 → ⊥) → false ≡ addressed t from to
  unfolding addressed
  not_card h = simp (ne_eqb from.0 0x81 h)

  module _ (h : from.0 ≡ 0x81) (modem : Bool) (m : modem ≡ to_modem t) where
    pub for_modem : modem ≡ true → eqb to.0 0x82 ≡ addressed t from to
    unfolding addressed ◌⇒◌else◌
    for_modem e = rw (h, sym m ∙ e)

    pub below_channels : modem ≡ false → to.0 < 0x21 → false ≡ addressed t from to
    unfolding addressed ◌⇒◌else◌
    below_channels e k = rw (h, sym m ∙ e, lt-leb 0x21 to.0 k)

    pub from_channels : modem ≡ false → 0x21 ≤ to.0 → leb to.0 0x27 ≡ addressed t from to
    unfolding addressed ◌⇒◌else◌
    from_channels e k = rw (h, sym m ∙ e, le-leb 0x21 to.0 k)
