-- What command is at hand, as a line.
use Rattle.std.specs.Prelude.{ℕ, ◌||◌, List, length, ltb}
use Rattle.std.proofs.Math.Option.{Option, none, some}
use Rattle.rules.specs.declared.Refusal.TheVariants.{CommandSize, Unreadable}
use Rattle.rules.specs.Checks.{◌⇒◌else◌, is_empty}
use Rattle.rules.specs.Written.{details_bytes}
use Rattle.rules.specs.Command.{wrote, refused}
use Rattle.rules.specs.AtHand.{details_told}
use Rattle.rules.specs.Lines.{frame_of}
use Rattle.text.specs.Prints.{line_of}

-- the most characters of a line: three bytes, and what every line may have
abbrev pub room : ℕ
room = 10

-- number, type and qualifier of the command in a frame; R2 where it has no bytes or over 256; an unreadable line is R9
unfoldable pub hand_line : Option (List ℕ) → List ℕ
hand_line none = line_of (refused Unreadable)
hand_line (some s) =
    is_empty s || ltb 256 (length s) ⇒ line_of (refused CommandSize) else
    line_of (wrote (details_bytes (details_told s)))

-- what is printed for a line
unfoldable pub details_line : List ℕ → List ℕ
details_line l = hand_line (frame_of l)
