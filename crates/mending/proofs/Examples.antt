-- Lines, and what is printed for them.
-- Assumes nothing.
use Prim.Native.Nat.{ℕ}
use Prim.Native.String.{String}
use mathlib.Core.Path.{◌≡◌, refl}
use mathlib.Core.List.{List, [], ◌∷◌, ◌++◌, map}
use lib.ListN.{replicate}
use Rattle.rules.specs.Checks.{◌⇒◌else◌, is_empty, same}
use Rattle.rules.specs.Frames.{length_bytes, long_tag, tag_at}
use Rattle.rules.specs.Lines.{is_digit, digit_value, with_byte, bytes_of, frame_of, digit_of, hex, zeros_before, decimal, printed}
use Rattle.rules.specs.Numbers.{chars}
use Rattle.mending.specs.Mends.{in_front, any_length, loose_length_at, is_overlong, loose_value, loose_tag, loose_at, with_object, mend_on, mend_up_to, mend_from, head_of, outer_head, framing, outer_change, mends_behind, mends}
use Rattle.mending.specs.Printed.{change_text, changes_text, mending_line, frame_line, mend_line}

pub record Example : Type 0 where
  pub line : List ℕ
  pub answer : List ℕ

-- a line and its answer; and the same with zeros behind the digits of both
row : String → String → Example
row l a = record { line = chars l; answer = chars a ++ 10 ∷ [] }

zeros : ℕ → String → String → String → Example
zeros n l a more = record { line = chars l ++ replicate n 48; answer = chars a ++ replicate n 48 ++ chars more ++ 10 ∷ [] }

refuses : List ℕ → String → Example
refuses l a = record { line = l; answer = chars a ++ 10 ∷ [] }

pub examples : List Example
examples =
    row "D00C810301020082028182050141" "D00C810301020082028182050141" ∷
    row "D00A810301020082028182050141" "D00C810301020082028182050141 L1" ∷
    row "D0810C810301020082028182050141" "D00C810301020082028182050141 L1" ∷
    row "D00E818103010200828102818205810141" "D00C810301020082028182050141 L1 S3 S9 S14" ∷
    row "D006010141058105AA" "D003010141 L1 T5" ∷
    row "D0087F00010141FF0100" "D0057F00010141 L1 T7" ∷
    row "D0077F8001810141" "D0057F80010141 L1 S5" ∷
    zeros 500 "D0003681FA" "D081FD3681FA" " L1" ∷
    row "d0020100" "D0020100" ∷
    row "D0020100" "D0020100" ∷
    row "D00381" "R16" ∷
    row "D003018105AA" "R16" ∷
    row "D1020100" "R16" ∷
    row "D0820100" "R16" ∷
    row "D0" "R16" ∷
    row "D081" "R16" ∷
    row "D000" "R16" ∷
    refuses (chars "D0003681FB" ++ replicate 502 48) "R16" ∷
    row "" "R9" ∷
    row "D" "R9" ∷
    row "D0 0" "R9" ∷
    row "D00G" "R9" ∷
    refuses (replicate 3202 48) "R9" ∷
    []

pub examples_printed : map (λ (e : Example). mend_line e.line) examples ≡ map (λ (e : Example). e.answer) examples
unfolding row zeros refuses examples chars ◌⇒◌else◌ is_empty same length_bytes long_tag tag_at is_digit digit_value with_byte bytes_of frame_of digit_of hex zeros_before decimal printed in_front any_length loose_length_at is_overlong loose_value loose_tag loose_at with_object mend_on mend_up_to mend_from head_of outer_head framing outer_change mends_behind mends change_text changes_text mending_line frame_line mend_line
examples_printed = refl
