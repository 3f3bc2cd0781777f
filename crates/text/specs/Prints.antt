-- How a call ended, read back from what it left in the lent buffer, and the line that is printed.
use Rattle.std.specs.Prelude.{ℕ, ◌+◌, ◌≡◌, List, [], ◌∷◌, ◌++◌, length, take}
use Rattle.rules.specs.Command.{Outcome, wrote, refused}
use Rattle.rules.specs.Lines.{printed}
use Rattle.octets.specs.Parts.{pasted}
use Rattle.rules.specs.Words.{Ended}
use Rattle.std.specs.Prelude.{Ok, Err}

-- the count of bytes that were written
unfoldable pub count_of : Ended → ℕ
count_of (Ok k) = k
count_of (Err r) = 0

-- the bytes written stand at the front of the buffer
unfoldable pub outcome_of : Ended → List ℕ → Outcome
outcome_of (Ok k) s = wrote (take k s)
outcome_of (Err r) s = refused r

-- the printed line, and its line feed
abbrev pub line_of : Outcome → List ℕ
line_of o = printed o ++ 10 ∷ []

-- what is printed stands in the output from its place on, and the place behind it is told
pub record Prints (s : List ℕ) (end : ℕ) (before : List ℕ) (at : ℕ) (after : List ℕ) : Type 0 where
  pub stands : after ≡ pasted before at s
  pub place : end ≡ at + length s
