-- A mended frame and its changes, as a line.
use Rattle.std.specs.Prelude.{ℕ, List, [], ◌∷◌, ◌++◌}
use Rattle.std.proofs.Math.Option.{Option, none, some}
use Rattle.rules.specs.declared.Refusal.TheVariants.{Unreadable, Unmendable}
use Rattle.rules.specs.Checks.{◌⇒◌else◌, is_empty}
use Rattle.rules.specs.Command.{refused}
use Rattle.rules.specs.Lines.{frame_of, hex, decimal}
use Rattle.text.specs.Prints.{line_of}
use Rattle.mending.specs.Mends.{Change, outer_length, shortened, truncated, Mending, mended, unmendable, mends}

-- the most bytes of objects in a command of 256 bytes
abbrev pub objects_cap : ℕ
objects_cap = 253

-- the most characters of a frame, of a change, and of a line: a frame, 128 changes and the line feed
abbrev pub frame_room : ℕ
frame_room = 512

abbrev pub change_cap : ℕ
change_cap = 6

abbrev pub room : ℕ
room = 1281

-- a blank, the letter of the change, and its place
unfoldable pub change_text : Change → List ℕ
change_text outer_length = 32 ∷ 76 ∷ decimal 1
change_text (shortened place) = 32 ∷ 83 ∷ decimal place
change_text (truncated place) = 32 ∷ 84 ∷ decimal place

unfoldable pub changes_text : List Change → List ℕ
changes_text [] = []
changes_text (c ∷ cs) = change_text c ++ changes_text cs

-- the frame in capitals and its changes, or R16
unfoldable pub mending_line : Mending → List ℕ
mending_line unmendable = line_of (refused Unmendable)
mending_line (mended s cs) = (hex s ++ changes_text cs) ++ 10 ∷ []

-- an unreadable line and a blank one are R9
unfoldable pub frame_line : Option (List ℕ) → List ℕ
frame_line none = line_of (refused Unreadable)
frame_line (some s) = is_empty s ⇒ line_of (refused Unreadable) else mending_line (mends s)

-- what is printed for a line
unfoldable pub mend_line : List ℕ → List ℕ
mend_line l = frame_line (frame_of l)
