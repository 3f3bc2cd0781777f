-- A line of hexadecimal digits as a frame, as the code tells it.
use Rattle.std.specs.Prelude.{ℕ, Bool, true, false, List, [], length, Option as CodeOption, Some, None}
use Rattle.std.proofs.Math.Option.{Option, none, some}

-- whether a line could be read
unfoldable pub readable : Option (List ℕ) → Bool
readable none = false
readable (some s) = true

-- the count of bytes; an unreadable line has none
unfoldable pub frame_told : Option (List ℕ) → CodeOption ℕ
frame_told none = None
frame_told (some s) = Some (length s)

-- the bytes of a frame; an unreadable line has none
unfoldable pub frame_bytes : Option (List ℕ) → List ℕ
frame_bytes none = []
frame_bytes (some s) = s
