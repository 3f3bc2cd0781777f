-- The command call: R1, R2, the reading, and the response.
use Rattle.std.specs.Prelude.{ℕ, ◌||◌, List, [], length, ltb}
use Rattle.rules.specs.Words.{Ended}
use Rattle.std.specs.Prelude.{Ok, Err}
use Rattle.rules.specs.declared.Refusal.{Refusal}
use Rattle.rules.specs.declared.Refusal.TheVariants.{ShortBuffer, CommandSize}
use Rattle.rules.specs.Checks.{◌⇒◌else◌, is_empty}
use Rattle.rules.specs.Results.{response_cap, command_cap}
use Rattle.rules.specs.State.{State}
use Rattle.rules.specs.Reading.{Reading, wrong, asked, reading, details_of}
use Rattle.rules.specs.Own.{error, own}
use Rattle.rules.specs.Written.{Response, response_bytes}

-- how a call ends: with the bytes written, or with a refusal
pub data Outcome : Type 0 where
  wrote : List ℕ → Outcome
  refused : Refusal → Outcome

-- how a call ended, as the code tells it: the count of bytes written, or the refusal
unfoldable pub ended_of : Outcome → Ended
ended_of (wrote s) = Ok (length s)
ended_of (refused r) = Err r

-- the bytes that a call wrote; a refusal writes none
unfoldable pub written_by : Outcome → List ℕ
written_by (wrote s) = s
written_by (refused r) = []

-- the state after a call, and how the call ended
pub record Answer : Type 0 where
  pub state : State
  pub outcome : Outcome

abbrev pub answered : State → List ℕ → Answer
answered a s = record { state = a; outcome = wrote s }

-- a refusal returns its number only; the session stays
abbrev pub refusal : State → Refusal → Answer
refusal a r = record { state = a; outcome = refused r }

-- the state after a command that was read, and the response that is meant
pub record Meant : Type 0 where
  pub state : State
  pub response : Response

unfoldable pub meant_by : State → Reading → Meant
meant_by a (wrong d e) = record { state = a; response = record { details = d; result = error e } }
meant_by a (asked c ignored) =
    let r = own a c c.body ignored in
    record { state = r.state; response = record { details = details_of c; result = r.result } }

-- what a command call is given beside the card's bytes: the length of the lent buffer
pub record Terms : Type 0 where
  pub buffer : ℕ

abbrev pub lending : ℕ → Terms
lending n = record { buffer = n }

-- the command call
unfoldable pub command : State → Terms → List ℕ → Answer
command a terms s =
    let m = meant_by a (reading a.profile s) in
    ltb terms.buffer response_cap ⇒ refusal a ShortBuffer else
    is_empty s || ltb command_cap (length s) ⇒ refusal a CommandSize else
    answered m.state (response_bytes m.response)
