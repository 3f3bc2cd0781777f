-- Lines worked out by hand, through both tools.
use Rattle.std.specs.Prelude.{◌≡◌, refl, List, [], ◌∷◌, ◌++◌, map, ℕ}
use Prim.Native.String.{String}
use Rattle.rules.specs.Checks.{◌⇒◌else◌, is_empty}
use Rattle.rules.specs.Lines.{is_digit, digit_value, with_byte, bytes_of, digit_of, hex, zeros_before, decimal, printed}
use Rattle.rules.specs.Numbers.{chars}
use Rattle.csim.specs.Kinds.{leads, by_kind}
use Rattle.csim.specs.Records.{capital, cleaned, is_decimal, digits_in, shape_behind, shape_of, leading_zero, value_from, count_is, checked, framed, counted, shaped, record_in, imports}
use Rattle.csim.specs.Exports.{export_of, export_in, export_behind, exports}
use Rattle.csim.specs.Printed.{record_line, import_line, csim_line, export_line}

-- lines of a log
pub logged : List String
logged =
    "AT+CSIM=14,\"8010000002FFA5\"" ∷
    "at+csim=14,\"8010000002ffa5\"" ∷
    " AT + CSIM = 1 4 , \"80 10 00 00 02 FF A5\" " ∷
    "AT+CSIM=36,\"80C200000DD60B19010A8202828138020105\"" ∷
    "AT+CSIM=34,\"801400000C810301020082028281830100\"" ∷
    "AT+CSIM=10,\"8010000002\"" ∷
    "AT+CSIM=014,\"8010000002FFA5\"" ∷
    "AT+CSIM=0,\"8010000002FFA5\"" ∷
    "AT+CSIM=13,\"8010000002FFA\"" ∷
    "AT+CSIM=16,\"80C2000002FFA500\"" ∷
    "AT+CSIM=7,\"8010000002FFA5\"" ∷
    "AT+CSIM=14,\"8010000003FFA5\"" ∷
    "AT+CSIM=14,\"8012000002FFA5\"" ∷
    "AT+CSIM=99999999999999999999999999,\"8010000002FFA5\"" ∷
    "AT+CSIM=14,\"8010000002FFA5\"," ∷
    "AT+CSIM=14,\"" ∷
    []

-- what import prints for them
pub records : List String
records =
    "profile FFA5" ∷
    "profile FFA5" ∷
    "profile FFA5" ∷
    "envelope D60B19010A8202828138020105" ∷
    "response 810301020082028281830100" ∷
    "R17" ∷
    "R17" ∷
    "R18" ∷
    "R17" ∷
    "R18" ∷
    "R18" ∷
    "R18" ∷
    "R17" ∷
    "R18" ∷
    "R17" ∷
    "R17" ∷
    []

-- lines of ours, and what export prints for them
pub asked : List String
asked =
    "profile FFA5" ∷
    "response ffa5" ∷
    "envelope D60B19010A8202828138020105" ∷
    "profile " ∷
    "profile" ∷
    "profile  FFA5" ∷
    "Profile FFA5" ∷
    "profile FFA" ∷
    "profiles FFA5" ∷
    []

pub csim_lines : List String
csim_lines =
    "AT+CSIM=14,\"8010000002FFA5\"" ∷
    "AT+CSIM=14,\"8014000002FFA5\"" ∷
    "AT+CSIM=36,\"80C200000DD60B19010A8202828138020105\"" ∷
    "R17" ∷
    "R17" ∷
    "R17" ∷
    "R17" ∷
    "R17" ∷
    "R17" ∷
    []

-- a text and its line feed
pub fed : String → List ℕ
fed s = chars s ++ 10 ∷ []

pub by_hand :
    (map (λ (s : String). import_line (chars s)) logged ≡ map fed records) × (map (λ (s : String). export_line (chars s)) asked ≡ map fed csim_lines)
unfolding logged records asked csim_lines fed chars ◌⇒◌else◌ is_empty leads by_kind capital cleaned is_decimal digits_in shape_behind shape_of leading_zero value_from count_is checked framed counted shaped record_in imports export_of export_in export_behind exports record_line import_line csim_line export_line is_digit digit_value with_byte bytes_of digit_of hex zeros_before decimal printed
by_hand = (refl, refl)
