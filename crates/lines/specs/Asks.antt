-- The tool over the calls: the line program's lines, and beside them A3, a second that passes, and A4, the envelope of a timer.
use Rattle.std.specs.Prelude.{ℕ, zero, suc, Bool, List, [], length, get_or, drop, eqb}
use Rattle.rules.specs.declared.Refusal.TheVariants.{Unreadable}
use Rattle.rules.specs.Checks.{◌⇒◌else◌}
use Rattle.rules.specs.Results.{envelope_cap}
use Rattle.rules.specs.State.{State}
use Rattle.rules.specs.Reading.{pair_in}
use Rattle.rules.specs.Command.{Answer, answered, refusal}
use Rattle.rules.specs.TimerCalls.{envelope, passing}
use Rattle.rules.specs.Run.{timing, step}
use Rattle.rules.specs.Lines.{frame_of, call_of}
use Rattle.rules.specs.Input.{Said, begins}
use Rattle.lines.specs.Says.{answer_to}
use Rattle.lines.specs.Acts.{goes_by}

-- so many seconds pass
unfoldable pub later : ℕ → State → State
later zero a = a
later (suc n) a = later n (passing a).state

-- A3: one second, or as many as the two bytes behind it count, high byte first
unfoldable pub seconds_for : State → List ℕ → Answer
seconds_for a s =
    eqb (length s) 1 ⇒ answered (later 1 a) [] else
    eqb (length s) 3 ⇒ answered (later (pair_in (drop 1 s)) a) [] else
    refusal a Unreadable

-- A4: with a buffer of 14, or of as many bytes as the byte behind it says
unfoldable pub envelope_for : State → List ℕ → Answer
envelope_for a s =
    eqb (length s) 1 ⇒ step a (timing (envelope envelope_cap)) else
    eqb (length s) 2 ⇒ step a (timing (envelope (get_or s 1 0))) else
    refusal a Unreadable

-- how a frame ends; those with another first byte are the line program's
unfoldable pub frame_for : State → List ℕ → Answer
frame_for a s =
    eqb (get_or s 0 0) 0xA3 ⇒ seconds_for a s else
    eqb (get_or s 0 0) 0xA4 ⇒ envelope_for a s else
    answer_to a (call_of s)

-- the first line is the profile
unfoldable pub calls_ends : Bool → State → List ℕ → Said State
calls_ends begun a l =
    begun ⇒ goes_by frame_for a l else
    begins (frame_of l)
