-- The worked examples, from bytes to units and from units to bytes, through the definitions and through both tools.
use Rattle.std.specs.Prelude.{◌≡◌, refl, List, [], ◌∷◌, ◌++◌, map, ℕ}
use Prim.Native.String.{String}
use Rattle.rules.specs.Checks.{◌⇒◌else◌, is_empty, every, same}
use Rattle.rules.specs.Lines.{is_digit, digit_value, with_byte, bytes_of, frame_of, digit_of, hex, zeros_before, decimal, printed}
use Rattle.rules.specs.Numbers.{chars}
use Rattle.alpha.specs.Alphabet.{table, unit_of, extensions, extension_among, extension_unit, code_among, code_of, extension_code_among, extension_code_of}
use Rattle.alpha.specs.Reads.{follow, follow_if, default_from, pairs, based_unit, based_from, based, block_pointer, base_pointer, reads}
use Rattle.alpha.specs.Writes.{before, default_extended, default_bytes, default_before, default_coding, pair_bytes, pair_coding, is_none, needs, serves, based_byte, based_bytes, block_with, block_serves, block_of, block_coding, base_with, base_serves, highest, base_of, base_coding, shorter, first_or, writes}
use Rattle.alpha.specs.Printed.{unit_text, further_text, units_text, text_line, value_line, alpha_read_line, with_unit, four_digits, are_digits, units_from, units_of, coded_line, alpha_write_line}

-- a line, and the line that is printed for it
pub record Example : Type 0 where
  pub line : String
  pub answer : String

abbrev gives : String → String → Example
gives l a = record { line = l; answer = a }

-- bytes to units
pub readings : List Example
readings =
    gives "8105135395A680FF" "0053 0995 09A6 0980 09FF" ∷
    gives "8105135395A680FFFF" "0053 0995 09A6 0980 09FF" ∷
    gives "8105135395A680FF00" "R13" ∷
    gives "800041FF" "0041" ∷
    gives "80004100" "R13" ∷
    gives "4869" "0048 0069" ∷
    gives "1B651B3C" "20AC 005B" ∷
    gives "41FF42" "0041" ∷
    gives "1BFF" "R13" ∷
    gives "1B" "R13" ∷
    gives "1B0D" "R13" ∷
    gives "1B1B" "R13" ∷
    gives "09" "00C7" ∷
    gives "4180" "R13" ∷
    gives "800041FFFF" "0041 FFFF" ∷
    gives "8102084190" "0041 0410" ∷
    gives "8101009B" "001B" ∷
    gives "810200801B" "R13" ∷
    gives "8103004141" "R13" ∷
    gives "8202FF8041FF" "0041 FFFF" ∷
    gives "8201FF81FF" "R13" ∷
    gives "8100" "R13" ∷
    gives "810000" "--" ∷
    gives "820000" "R13" ∷
    gives "80" "--" ∷
    gives "" "--" ∷
    gives "4" "R9" ∷
    gives "4X" "R9" ∷
    []

-- units to bytes
pub writings : List Example
writings =
    gives "" "--" ∷
    gives "--" "--" ∷
    gives "0041 20AC" "411B65" ∷
    gives "005B 005B 005B" "1B3C1B3C1B3C" ∷
    gives "005B 005B 005B 005B" "810400DBDBDBDB" ∷
    gives "00E7" "8000E7" ∷
    gives "0410 0042 0411" "810308904291" ∷
    gives "03F0 0410 0042" "8003F004100042" ∷
    gives "03F0 0410 0042 0043" "82040391DFFF4243" ∷
    gives "0041 FFFF FFFE FFFD" "8204FF8041FFFEFD" ∷
    gives "0041 20ac" "411B65" ∷
    gives "R13" "R9" ∷
    gives "0041 " "R9" ∷
    gives "004" "R9" ∷
    gives "00410042" "R9" ∷
    []

-- a text and its line feed
pub fed : String → List ℕ
fed s = chars s ++ 10 ∷ []

pub read_by_hand : map (λ (e : Example). alpha_read_line (chars e.line)) readings ≡ map (λ (e : Example). fed e.answer) readings
unfolding readings fed chars ◌⇒◌else◌ is_empty every is_digit digit_value with_byte bytes_of frame_of digit_of hex zeros_before decimal printed table unit_of extensions extension_among extension_unit follow follow_if default_from pairs based_unit based_from based block_pointer base_pointer reads unit_text further_text units_text text_line value_line alpha_read_line
read_by_hand = refl

pub written_by_hand : map (λ (e : Example). alpha_write_line (chars e.line)) writings ≡ map (λ (e : Example). fed e.answer) writings
unfolding writings fed chars ◌⇒◌else◌ is_empty same is_digit digit_value digit_of hex zeros_before decimal printed table extensions code_among code_of extension_code_among extension_code_of before default_extended default_bytes default_before default_coding pair_bytes pair_coding is_none needs serves based_byte based_bytes block_with block_serves block_of block_coding base_with base_serves highest base_of base_coding shorter first_or writes with_unit four_digits are_digits units_from units_of coded_line alpha_write_line
written_by_hand = refl
