-- The numbers of lines.
use Rattle.std.specs.Prelude.{ℕ}

-- the most bytes of a frame, and their digits
abbrev pub frame_cap : ℕ
frame_cap = 1600

abbrev pub digit_cap : ℕ
digit_cap = 3200

-- the print of a value without bytes
abbrev pub least_value : ℕ
least_value = 2

-- the longest printed line without bytes, R and two digits, and the longest of all
abbrev pub short_line : ℕ
short_line = 4

abbrev pub line_cap : ℕ
line_cap = 3004

-- numbers below it have a decimal
abbrev pub decimal_cap : ℕ
decimal_cap = 10000
