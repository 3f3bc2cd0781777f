-- Reading an alpha identifier, the value of object 05: the default alphabet, and the codings 80, 81 and 82 of TS 102 221 annex A.
use Rattle.std.specs.Prelude.{ℕ, ◌+◌, ◌-◌, ◌*◌, Bool, true, false, not, List, [], ◌∷◌, length, get_or, take, drop, ltb, eqb}
use Rattle.std.proofs.Math.Option.{Option, none, some}
use Rattle.rules.specs.Checks.{◌⇒◌else◌, is_empty, every}
use Rattle.alpha.specs.Alphabet.{escape, unit_of, extension_unit}

-- a text is its 16-bit units, or malformed: R13
pub data Text : Type 0 where
  units : List ℕ → Text
  malformed : Text

-- a unit in front of a text
unfoldable pub follow : ℕ → Text → Text
follow u malformed = malformed
follow u (units us) = units (u ∷ us)

-- a unit that may be missing in front of a text
unfoldable pub follow_if : Option ℕ → Text → Text
follow_if none t = malformed
follow_if (some u) t = follow u t

-- the padding of annex A, and the mark of each of its codings
abbrev pub padding : ℕ
padding = 0xFF

abbrev pub pairs_mark : ℕ
pairs_mark = 0x80

abbrev pub block_mark : ℕ
block_mark = 0x81

abbrev pub base_mark : ℕ
base_mark = 0x82

-- the default alphabet, a character a byte: FF ends the text, and behind an escape stands a code of the extension table
unfoldable pub default_from : Bool → List ℕ → Text
default_from escaped [] = escaped ⇒ malformed else units []
default_from escaped (b ∷ s) =
    let rest = default_from false s in
    let behind = default_from true s in
    escaped ⇒ follow_if (extension_unit b) rest else
    eqb b padding ⇒ units [] else
    eqb b escape ⇒ behind else
    ltb b 0x80 ⇒ follow (unit_of b) rest else
    malformed

-- 80: pairs, high byte first; an odd byte over is the unusable last byte where it is FF
unfoldable pub pairs : List ℕ → Text
pairs [] = units []
pairs (b ∷ []) = eqb b padding ⇒ units [] else malformed
pairs (b ∷ c ∷ s) = let rest = pairs s in follow (256 * b + c) rest

-- in 81 and 82 a byte under 80 is a code of the base table, but not the escape; one from 80 on is the pointer plus its low seven bits
unfoldable pub based_unit : ℕ → ℕ → Option ℕ
based_unit pointer b =
    eqb b escape ⇒ none else
    ltb b 0x80 ⇒ some (unit_of b) else
    ltb 0xFFFF (pointer + (b - 0x80)) ⇒ none else
    some (pointer + (b - 0x80))

unfoldable pub based_from : ℕ → List ℕ → Text
based_from pointer [] = units []
based_from pointer (b ∷ s) = let rest = based_from pointer s in follow_if (based_unit pointer b) rest

-- as many bytes as the count says, and behind them nothing but padding
unfoldable pub based : ℕ → ℕ → List ℕ → Text
based count pointer s =
    ltb (length s) count ⇒ malformed else
    not (every (eqb padding) (drop count s)) ⇒ malformed else
    based_from pointer (take count s)

-- the pointer of 81 has one byte, its bits 15 to 8 behind a top bit 0; that of 82 has two, high byte first
unfoldable pub block_pointer : List ℕ → ℕ
block_pointer s = 128 * get_or s 2 0

unfoldable pub base_pointer : List ℕ → ℕ
base_pointer s = 256 * get_or s 2 0 + get_or s 3 0

-- an alpha identifier; a head that is cut short is malformed
unfoldable pub reads : List ℕ → Text
reads s =
    let mark = get_or s 0 0 in
    let count = get_or s 1 0 in
    is_empty s ⇒ units [] else
    eqb mark pairs_mark ⇒ pairs (drop 1 s) else
    eqb mark block_mark ⇒ (ltb (length s) 3 ⇒ malformed else based count (block_pointer s) (drop 3 s)) else
    eqb mark base_mark ⇒ (ltb (length s) 4 ⇒ malformed else based count (base_pointer s) (drop 4 s)) else
    default_from false s
