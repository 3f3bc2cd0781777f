-- The two tools: a value in hex to its units, and units to a value.
use Rattle.std.specs.Prelude.{ℕ, ◌+◌, ◌*◌, ◌/◌, ◌%◌, Bool, true, false, ◌&&◌, List, [], ◌∷◌, ◌++◌, length, ltb, eqb}
use Rattle.std.proofs.Math.Option.{Option, none, some}
use Rattle.rules.specs.declared.Refusal.TheVariants.{Unreadable, Malformed}
use Rattle.rules.specs.Checks.{◌⇒◌else◌, same}
use Rattle.rules.specs.Command.{wrote, refused}
use Rattle.rules.specs.Lines.{is_digit, digit_value, frame_of, hex}
use Rattle.text.specs.Prints.{line_of}
use Rattle.alpha.specs.Reads.{Text, units, malformed, reads}
use Rattle.alpha.specs.Writes.{writes}

-- two dashes stand for none
abbrev pub dashes : List ℕ
dashes = 45 ∷ 45 ∷ []

-- four capital digits of a unit
unfoldable pub unit_text : ℕ → List ℕ
unit_text u = hex ((u / 256) ∷ (u % 256) ∷ [])

-- units behind the first, a blank in front of each
unfoldable pub further_text : List ℕ → List ℕ
further_text [] = []
further_text (u ∷ us) = 32 ∷ unit_text u ++ further_text us

-- units with a blank between, "--" for none
unfoldable pub units_text : List ℕ → List ℕ
units_text [] = dashes
units_text (u ∷ us) = unit_text u ++ further_text us

-- what is printed for a text, or R13
unfoldable pub text_line : Text → List ℕ
text_line malformed = line_of (refused Malformed)
text_line (units us) = units_text us ++ 10 ∷ []

-- a value in hex; a blank line is the empty value, an unreadable one R9
unfoldable pub value_line : Option (List ℕ) → List ℕ
value_line none = line_of (refused Unreadable)
value_line (some s) = text_line (reads s)

unfoldable pub alpha_read_line : List ℕ → List ℕ
alpha_read_line l = value_line (frame_of l)

-- a unit in front of units that may not be there
unfoldable pub with_unit : Bool → ℕ → Option (List ℕ) → Option (List ℕ)
with_unit false u us = none
with_unit true u none = none
with_unit true u (some us) = some (u ∷ us)

-- the unit of four digits
unfoldable pub four_digits : ℕ → ℕ → ℕ → ℕ → ℕ
four_digits a b c d = 4096 * digit_value a + 256 * digit_value b + 16 * digit_value c + digit_value d

unfoldable pub are_digits : ℕ → ℕ → ℕ → ℕ → Bool
are_digits a b c d = is_digit a && is_digit b && is_digit c && is_digit d

-- units of four digits each, in either case, with a blank between
unfoldable pub units_from : List ℕ → Option (List ℕ)
units_from [] = none
units_from (a ∷ []) = none
units_from (a ∷ b ∷ []) = none
units_from (a ∷ b ∷ c ∷ []) = none
units_from (a ∷ b ∷ c ∷ d ∷ []) = with_unit (are_digits a b c d) (four_digits a b c d) (some [])
units_from (a ∷ b ∷ c ∷ d ∷ e ∷ l) =
    let rest = units_from l in
    with_unit (are_digits a b c d && eqb e 32) (four_digits a b c d) rest

-- the most characters of a line of units: 1600 of them
abbrev pub units_cap : ℕ
units_cap = 7999

-- a line of units; a blank line and "--" are none of them
unfoldable pub units_of : List ℕ → Option (List ℕ)
units_of l =
    eqb (length l) 0 ⇒ some [] else
    same l dashes ⇒ some [] else
    ltb units_cap (length l) ⇒ none else
    units_from l

-- the bytes in capitals, "--" for none, or R9
unfoldable pub coded_line : Option (List ℕ) → List ℕ
coded_line none = line_of (refused Unreadable)
coded_line (some us) = line_of (wrote (writes us))

unfoldable pub alpha_write_line : List ℕ → List ℕ
alpha_write_line l = coded_line (units_of l)
