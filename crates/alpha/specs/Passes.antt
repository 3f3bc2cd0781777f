-- What the passes of the code tell: the size of a text, whether it is well formed, and what the choice of a coding looks at.
use Rattle.std.specs.Prelude.{ℕ, ◌+◌, ◌-◌, ◌/◌, ◌≤◌, min, max, ◌≡◌, Bool, true, false, not, ◌&&◌, List, [], ◌∷◌, length, get_or, ltb, leb, eqb, ◌<◌, Option as CodeOption, Some, None, MatchOption, option_map, unwrap_or}
use denote.Ref.{Bor}
use Rattle.std.proofs.Math.Option.{Option, none, some}
use Rattle.rules.specs.Checks.{◌⇒◌else◌}
use Rattle.alpha.specs.declared.Coding.{Coding}
use Rattle.alpha.specs.declared.Coding.TheVariants.{Default, Pairs, Block, Base}
use Rattle.alpha.specs.declared.Survey.{Survey}
use Rattle.text.specs.Frames.{readable, frame_bytes}
use Rattle.alpha.specs.Alphabet.{escape, extension_code_of}
use Rattle.alpha.specs.Writes.{needs, count_cap, default_coding, pair_coding, block_with, block_serves, base_with, base_serves}
use Rattle.rules.specs.Words.{Ended}
use Rattle.alpha.specs.Reads.{Text, units, malformed, follow, padding, default_from}
use Rattle.alpha.specs.Calls.{fitted, laid}
use Rattle.alpha.specs.Printed.{are_digits, four_digits}

-- something is there
unfoldable pub is_there : Option ℕ → Bool
is_there none = false
is_there (some u) = true

-- a unit or a code that may be missing, as the code tells it
unfoldable pub told : Option ℕ → CodeOption ℕ
told none = None
told (some n) = Some n

-- how many units a text has; a malformed one has no number of them
unfoldable pub size_of : Text → CodeOption ℕ
size_of malformed = None
size_of (units us) = Some (length us)

-- its units; a malformed one has none
unfoldable pub units_in : Text → List ℕ
units_in malformed = []
units_in (units us) = us

-- it is not malformed
unfoldable pub well : Text → Bool
well malformed = false
well (units us) = true

-- a text that is well formed, and a buffer that holds its units
pub record Fills (t : Text) (out : List ℕ) : Type 0 where
  pub formed : well t ≡ true
  pub fits : length (units_in t) ≤ length out

-- a code of the base table
unfoldable pub is_plain : ℕ → Bool
is_plain b = ltb b 0x80 && not (eqb b escape)

-- a text of the default alphabet ends where no byte is left, and where FF stands
unfoldable pub ended : List ℕ → Bool
ended [] = true
ended (b ∷ s) = eqb b padding

-- its first unit and the bytes behind it; none where it has ended, and where it is malformed
abbrev pub Splits : List ℕ → CodeOption (ℕ × Bor (List ℕ)) → Type 0
Splits s r =
    MatchOption r (default_from false s ≡ (ended s ⇒ units [] else malformed))
    (λ p. (default_from false s ≡ follow p.0 (default_from false p.1.now)) × (length p.1.now < length s))

-- a number below it has a next one of 64 bits
abbrev pub length_cap : ℕ
length_cap = 0xFFFFFFFFFFFFFFFF

-- what the choice of a coding looks at: before the first unit, behind a unit that needs the pointer, behind any, and behind all
abbrev pub survey_none : Survey
survey_none = record { extras = Some 0; lowest = 0xFFFF; highest = 0 }

unfoldable pub survey_needing : Survey → ℕ → Option ℕ → Survey
survey_needing s u none = record { extras = None; lowest = min s.lowest u; highest = max s.highest u }
survey_needing s u (some code) = record { extras = option_map (λ n. n + 1) s.extras; lowest = min s.lowest u; highest = max s.highest u }

unfoldable pub survey_step : Survey → ℕ → Survey
survey_step s u = needs u ⇒ survey_needing s u (extension_code_of u) else s

unfoldable pub survey_from : Survey → List ℕ → Survey
survey_from s [] = s
survey_from s (u ∷ us) = survey_from (survey_step s u) us

-- the default alphabet where it serves, else pairs; and by how many bytes it is longer than the units
unfoldable pub form_with : CodeOption ℕ → Coding
form_with None = Pairs
form_with (Some extras) = Default extras

unfoldable pub first_form : Survey → Coding
first_form s = form_with s.extras

unfoldable pub excess_of : Survey → ℕ → ℕ
excess_of s n = unwrap_or s.extras (n + 1)

-- the lowest and the highest unit that need a block lie in one that can be named, and which
unfoldable pub block_fits : Survey → Bool
block_fits s = eqb (s.highest / 128) (s.lowest / 128) && ltb (s.lowest / 128) 256

unfoldable pub block_told : Survey → CodeOption ℕ
block_told s = block_fits s ⇒ Some (s.lowest / 128) else None

-- the coding of n units: a head has 3 bytes in 81, and 4 in 82
unfoldable pub chosen : Survey → ℕ → Coding
chosen s n =
    ltb count_cap n ⇒ first_form s else
    leb (excess_of s n) 3 ⇒ first_form s else
    block_fits s ⇒ Block (s.lowest / 128) else
    leb (excess_of s n) 4 ⇒ first_form s else
    leb (s.highest - 127) s.lowest ⇒ Base (s.highest - 127) else
    first_form s

-- the bytes of a coding, and what makes it one
unfoldable pub bytes_of : Coding → List ℕ → List ℕ
bytes_of (Default extras) us = frame_bytes (default_coding us)
bytes_of Pairs us = pair_coding us
bytes_of (Block block) us = block_with block us
bytes_of (Base base) us = base_with base us

-- the default alphabet serves, with so many extension characters
pub record CodedBy (extras : ℕ) (us : List ℕ) : Type 0 where
  pub there : readable (default_coding us) ≡ true
  pub size : length (frame_bytes (default_coding us)) ≡ extras + length us

unfoldable pub Serves : Coding → List ℕ → Type 0
Serves (Default extras) us = CodedBy extras us
Serves Pairs us = Unit {0}
Serves (Block block) us = block_serves block us ≡ true
Serves (Base base) us = base_serves base us ≡ true

-- so many bytes are told, and stand at the front of the buffer, where they fit; else R14, and the buffer is as it was
pub record Ends (s : List ℕ) (r : Ended) (before after : List ℕ) : Type 0 where
  pub told : r ≡ fitted s (length before)
  pub left : after ≡ laid s before

-- the most characters that are printed for a line: 1600 units of four digits, each with a blank or the line feed behind it
abbrev pub room : ℕ
room = 8004

-- four digits at a place of a line, and their unit
unfoldable pub digits_at : List ℕ → ℕ → Bool
digits_at l i = are_digits (get_or l i 0) (get_or l (i + 1) 0) (get_or l (i + 2) 0) (get_or l (i + 3) 0)

unfoldable pub unit_at : List ℕ → ℕ → ℕ
unit_at l i = four_digits (get_or l i 0) (get_or l (i + 1) 0) (get_or l (i + 2) 0) (get_or l (i + 3) 0)

-- four digits and nothing else
unfoldable pub is_word : List ℕ → Bool
is_word w = eqb (length w) 4 && digits_at w 0

-- how many units a line has, if it is one of units
unfoldable pub size_told : Option (List ℕ) → CodeOption ℕ
size_told none = None
size_told (some us) = Some (length us)
