-- A line as a burst: what it comes to, and what it leaves behind.
use Rattle.std.specs.Prelude.{ℕ, ◌≡◌, Bool, List, [], ◌∷◌, ◌++◌, length}
use Rattle.std.proofs.Math.Option.{Option, none, some}
use Rattle.rules.specs.declared.Refusal.TheVariants.{Unreadable}
use Rattle.rules.specs.Checks.{◌⇒◌else◌}
use Rattle.rules.specs.State.{State}
use Rattle.rules.specs.Command.{refused, lending}
use Rattle.rules.specs.Fetch.{fetch}
use Rattle.rules.specs.Lines.{printed, decimal, frame_of}
use Rattle.rules.specs.Input.{Said, line_bytes, begins}
use Rattle.session.specs.Picture.{GoodIn, shown}
use Rattle.rules.specs.Results.{response_cap}
use Rattle.text.specs.Prints.{Prints}
use Rattle.fetch.specs.Gathers.{gathered_in, Gathers}

-- what is kept between two lines: the session's state, and the bytes gathered of a command
pub record Awaits : Type 0 where
  pub state : State
  pub gathered : List ℕ

abbrev pub awaits_in : List ℕ → List ℕ → List ℕ → Awaits
awaits_in t p g = record { state = shown t p; gathered = gathered_in g }

-- a burst: how it ended, a blank, and how many of its bytes are left
unfoldable pub burst_said : Awaits → List ℕ → Said Awaits
burst_said k s =
    let f = fetch k.state (lending response_cap) k.gathered s in
    record {
      kept = record { state = f.answer.state; gathered = f.gathered };
      out = printed f.answer.outcome ++ 32 ∷ (decimal (length f.left) ++ 10 ∷ []);
    }

-- by the frame of a line; R9 where it is unreadable
unfoldable pub burst_of : Awaits → Option (List ℕ) → Said Awaits
burst_of k none = record { kept = k; out = line_bytes (printed (refused Unreadable)) }
burst_of k (some s) = burst_said k s

-- the first line is the profile
abbrev pub profile_said : Awaits → Said State → Said Awaits
profile_said k f = record { kept = record { state = f.kept; gathered = k.gathered }; out = f.out }

unfoldable pub burst_ends : Bool → Awaits → List ℕ → Said Awaits
burst_ends begun k l =
    begun ⇒ burst_of k (frame_of l) else
    profile_said k (begins (frame_of l))

-- a line ended so: session and gathered record are good and show what is kept behind it, and what is printed stands in the output from its place on
pub record Tells (f : Said Awaits) (t p g : List ℕ) (end : ℕ) (before : List ℕ) (at : ℕ) (after : List ℕ) : Type 0 where
  pub good : GoodIn t p
  pub gathers : Gathers g
  pub kept : awaits_in t p g ≡ f.kept
  pub prints : Prints f.out end before at after
