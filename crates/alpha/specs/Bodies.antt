-- What stands behind the head of an alpha identifier that is well formed, and the units that it gives.
use Rattle.std.specs.Prelude.{ℕ, ◌+◌, ◌*◌, ◌≡◌, true, false, List, map, get_or, Option as CodeOption, Some, None}
use Rattle.rules.specs.Checks.{every}
use Rattle.alpha.specs.declared.Body.{Body}
use Rattle.alpha.specs.declared.Body.TheVariants.{Plain, Escaped, Pairs, Based}
use Rattle.alpha.specs.Alphabet.{unit_of}
use Rattle.alpha.specs.Reads.{Text, units, malformed, default_from, based_from}
use Rattle.alpha.specs.Passes.{is_plain, size_of, units_in, well}

-- the unit of a pair, high byte first
unfoldable pub pair_unit : List ℕ → ℕ
pair_unit p = 256 * get_or p 0 0 + get_or p 1 0

unfoldable pub units_behind : Body → List ℕ
units_behind (Plain s) = map unit_of s.now
units_behind (Escaped s count) = units_in (default_from false s.now)
units_behind (Pairs pairs) = map pair_unit pairs.now
units_behind (Based pointer s) = units_in (based_from pointer s.now)

-- what makes it well formed, and the number of units right
unfoldable pub IsBody : Body → Type 0
IsBody (Plain s) = every is_plain s.now ≡ true
IsBody (Escaped s count) = size_of (default_from false s.now) ≡ Some count
IsBody (Pairs pairs) = Unit {0}
IsBody (Based pointer s) = well (based_from pointer s.now) ≡ true

-- the units of a text as the code tells them; a malformed one has none
unfoldable pub text_told : Text → CodeOption (List ℕ)
text_told malformed = None
text_told (units us) = Some us
