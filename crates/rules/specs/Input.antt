-- "The line program", from the bytes of its input: its lines, and what each comes to.
use Rattle.std.specs.Prelude.{ℕ, ◌≡◌, refl, Bool, List, [], ◌∷◌, ◌++◌, eqb}
use Rattle.std.proofs.Math.Option.{Option, none, some}
use Rattle.rules.specs.declared.Refusal.TheVariants.{Unreadable}
use Rattle.rules.specs.Checks.{◌⇒◌else◌}
use Rattle.rules.specs.State.{State, start}
use Rattle.rules.specs.Command.{refused}
use Rattle.rules.specs.Lines.{printed, frame_of, line_step}

-- the lines of an input: each ends with a line feed, the last one perhaps with the input
unfoldable pub on_first : ℕ → List (List ℕ) → List (List ℕ)
on_first c [] = (c ∷ []) ∷ []
on_first c (l ∷ ls) = (c ∷ l) ∷ ls

unfoldable pub lines_of : List ℕ → List (List ℕ)
lines_of [] = []
lines_of (c ∷ s) = let rest = lines_of s in eqb c 10 ⇒ [] ∷ rest else on_first c rest

-- an input without a line, one whose last line ends with the input, and one whose only line ends with a line feed
pub no_line : lines_of [] ≡ []
unfolding lines_of
no_line = refl

pub two_lines : lines_of (65 ∷ 10 ∷ 66 ∷ []) ≡ (65 ∷ []) ∷ (66 ∷ []) ∷ []
unfolding lines_of on_first ◌⇒◌else◌
two_lines = refl

pub one_line : lines_of (65 ∷ 10 ∷ []) ≡ (65 ∷ []) ∷ []
unfolding lines_of on_first ◌⇒◌else◌
one_line = refl

-- a printed line and its line feed
abbrev pub line_bytes : List ℕ → List ℕ
line_bytes l = l ++ 10 ∷ []

-- printed lines, one after the other
unfoldable pub output_of : List (List ℕ) → List ℕ
output_of [] = []
output_of (l ∷ ls) = line_bytes l ++ output_of ls

-- what a line comes to: what is kept behind it, and what is printed
pub record Said (K : Type 0) : Type 0 where
  pub kept : K
  pub out : List ℕ

-- the first line is the profile; an unreadable one prints R9 and counts as blank
unfoldable pub begins : Option (List ℕ) → Said State
begins none = record { kept = start []; out = line_bytes (printed (refused Unreadable)) }
begins (some p) = record { kept = start p; out = [] }

-- a line after the first
unfoldable pub goes : State → List ℕ → Said State
goes a l = let p = line_step a l in record { kept = p.state; out = line_bytes p.line }

-- a line that is whole, by whether it is the first
unfoldable pub line_ends : Bool → State → List ℕ → Said State
line_ends begun a l =
    begun ⇒ goes a l else
    begins (frame_of l)
