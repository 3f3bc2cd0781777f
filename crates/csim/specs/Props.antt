-- That a count is proper has one proof at most.
use Rattle.std.specs.Prelude.{ℕ, ◌≡◌, true, List, [], ◌∷◌}
use denote.Struct.Props.{props}
use mathlib.Core.HLevel.{×_prop, Unit-prop}
use Rattle.rules.specs.Sound.{Each}
use Rattle.csim.specs.Records.{is_decimal}
use Rattle.csim.specs.Proper.{Proper}

Digits-prop : (s : List ℕ) → IsProp (Each (λ (c : ℕ). is_decimal c ≡ true) s)
Digits-prop [] = Unit-prop
Digits-prop (c ∷ s) = let here : IsProp (is_decimal c ≡ true) = hlevel props in ×_prop here (Digits-prop s)

pub Proper-prop : (s : List ℕ) → IsProp (Proper s)
Proper-prop s = let digits = Digits-prop s in hlevel (props, digits)
