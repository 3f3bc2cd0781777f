-- Writing an alpha identifier: each of the four codings where it serves, and the shortest of them.
use Rattle.std.specs.Prelude.{ℕ, ◌+◌, ◌-◌, ◌*◌, ◌/◌, ◌%◌, max, ◌≡◌, Bool, true, false, ◌&&◌, List, [], ◌∷◌, ◌++◌, length, ltb, leb}
use Rattle.std.proofs.Math.Option.{Option, none, some}
use Rattle.rules.specs.Checks.{◌⇒◌else◌}
use Rattle.alpha.specs.Alphabet.{escape, code_of, extension_code_of}
use Rattle.alpha.specs.Reads.{pairs_mark, block_mark, base_mark}

-- bytes in front of a coding that may not be there
unfoldable pub before : List ℕ → Option (List ℕ) → Option (List ℕ)
before s none = none
before s (some t) = some (s ++ t)

-- a unit in the default alphabet: its code, or the escape and its code of the extension table; any other unit has none
unfoldable pub default_extended : Option ℕ → Option (List ℕ)
default_extended none = none
default_extended (some code) = some (escape ∷ code ∷ [])

unfoldable pub default_bytes : Option ℕ → Option ℕ → Option (List ℕ)
default_bytes (some code) extension = some (code ∷ [])
default_bytes none extension = default_extended extension

-- a text in the default alphabet: every unit has a code
unfoldable pub default_before : Option (List ℕ) → Option (List ℕ) → Option (List ℕ)
default_before none t = none
default_before (some s) t = before s t

unfoldable pub default_coding : List ℕ → Option (List ℕ)
default_coding [] = some []
default_coding (u ∷ us) = let rest = default_coding us in default_before (default_bytes (code_of u) (extension_code_of u)) rest

-- 80: every text, a pair for each unit
unfoldable pub pair_bytes : List ℕ → List ℕ
pair_bytes [] = []
pair_bytes (u ∷ us) = (u / 256) ∷ (u % 256) ∷ pair_bytes us

unfoldable pub pair_coding : List ℕ → List ℕ
pair_coding us = pairs_mark ∷ pair_bytes us

-- a unit has no code of the base table, so that it needs the pointer
unfoldable pub is_none : Option ℕ → Bool
is_none none = true
is_none (some code) = false

unfoldable pub needs : ℕ → Bool
needs u = is_none (code_of u)

-- every unit that needs it lies within 128 of the pointer
unfoldable pub serves : ℕ → List ℕ → Bool
serves pointer [] = true
serves pointer (u ∷ us) =
    let rest = serves pointer us in
    needs u ⇒ leb pointer u && ltb u (pointer + 128) && rest else rest

-- a unit by its code, or by how far it lies behind the pointer
unfoldable pub based_byte : ℕ → ℕ → Option ℕ → ℕ
based_byte pointer u none = 0x80 + (u - pointer)
based_byte pointer u (some code) = code

unfoldable pub based_bytes : ℕ → List ℕ → List ℕ
based_bytes pointer [] = []
based_bytes pointer (u ∷ us) = based_byte pointer u (code_of u) ∷ based_bytes pointer us

-- the most units that a count of one byte tells
abbrev pub count_cap : ℕ
count_cap = 255

-- 81 with a block: it begins at a multiple of 80 below 8000
unfoldable pub block_with : ℕ → List ℕ → List ℕ
block_with block us = block_mark ∷ length us ∷ block ∷ based_bytes (128 * block) us

unfoldable pub block_serves : ℕ → List ℕ → Bool
block_serves block us = leb (length us) count_cap && ltb block 256 && serves (128 * block) us

-- the block of the first unit that needs one; 00 where none is needed
unfoldable pub block_of : List ℕ → ℕ
block_of [] = 0
block_of (u ∷ us) = let rest = block_of us in needs u ⇒ u / 128 else rest

unfoldable pub block_coding : List ℕ → Option (List ℕ)
block_coding us = block_serves (block_of us) us ⇒ some (block_with (block_of us) us) else none

-- 82 with a base
unfoldable pub base_with : ℕ → List ℕ → List ℕ
base_with base us = base_mark ∷ length us ∷ (base / 256) ∷ (base % 256) ∷ based_bytes base us

unfoldable pub base_serves : ℕ → List ℕ → Bool
base_serves base us = leb (length us) count_cap && ltb base 65536 && serves base us

-- the lowest that serves: the highest unit that needs it less 7F, and 0 at least
unfoldable pub highest : List ℕ → ℕ
highest [] = 0
highest (u ∷ us) = let rest = highest us in needs u ⇒ max u rest else rest

unfoldable pub base_of : List ℕ → ℕ
base_of us = highest us - 0x7F

unfoldable pub base_coding : List ℕ → Option (List ℕ)
base_coding us = base_serves (base_of us) us ⇒ some (base_with (base_of us) us) else none

-- of two codings the shorter, on a tie the first; one that is not there is not chosen
unfoldable pub shorter : List ℕ → Option (List ℕ) → List ℕ
shorter s none = s
shorter s (some t) = ltb (length t) (length s) ⇒ t else s

unfoldable pub first_or : Option (List ℕ) → List ℕ → List ℕ
first_or none t = t
first_or (some s) t = ltb (length t) (length s) ⇒ t else s

-- the shortest, on a tie the first of default, 80, 81, 82
unfoldable pub writes : List ℕ → List ℕ
writes us = shorter (shorter (first_or (default_coding us) (pair_coding us)) (block_coding us)) (base_coding us)

-- the four forms, in their order
pub data Form : Type 0 where
  by_default : Form
  by_pairs : Form
  by_block : ℕ → Form
  by_base : ℕ → Form

-- the place of a form in that order
unfoldable pub order : Form → ℕ
order by_default = 0
order by_pairs = 1
order (by_block block) = 2
order (by_base base) = 3

-- the bytes are a coding of the units in that form, by the writer's rules, with whatever block or base serves
abbrev pub Codes : Form → List ℕ → List ℕ → Type 0
Codes by_default us s = default_coding us ≡ some s
Codes by_pairs us s = pair_coding us ≡ s
Codes (by_block block) us s = (block_serves block us ≡ true) × (block_with block us ≡ s)
Codes (by_base base) us s = (base_serves base us ≡ true) × (base_with base us ≡ s)
