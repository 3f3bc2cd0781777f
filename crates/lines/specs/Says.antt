-- What a line leaves behind: the session, what is printed, and the place behind it.
use Rattle.std.specs.Prelude.{ℕ, ◌+◌, ◌≤◌, ◌≡◌, List, length}
use Rattle.std.proofs.Math.Option.{Option, none, some}
use Rattle.rules.specs.declared.Refusal.TheVariants.{Unreadable}
use Rattle.rules.specs.State.{State}
use Rattle.rules.specs.Command.{Answer, refusal}
use Rattle.rules.specs.Run.{Call, step}
use Rattle.rules.specs.Input.{Said}
use Rattle.octets.specs.Parts.{pasted}
use Rattle.rules.specs.Words.{Ended}
use Rattle.session.specs.Picture.{GoodIn, shown}
use Rattle.text.specs.Prints.{count_of, outcome_of}

-- how a line's call ends; a line without one is R9
unfoldable pub answer_to : State → Option Call → Answer
answer_to a none = refusal a Unreadable
answer_to a (some c) = step a c

-- a call ended so: the session is good and shows its state, and its bytes stand at the front of a buffer
pub record Replies (x : Answer) (t p : List ℕ) (e : Ended) (reply : List ℕ) : Type 0 where
  pub good : GoodIn t p
  pub state : shown t p ≡ x.state
  pub fits : count_of e ≤ length reply
  pub outcome : outcome_of e reply ≡ x.outcome

-- a line ended so: the session is good and shows the state behind it, and what is printed stands in the output from its place on
pub record Says (f : Said State) (t p : List ℕ) (end : ℕ) (before : List ℕ) (at : ℕ) (after : List ℕ) : Type 0 where
  pub good : GoodIn t p
  pub state : shown t p ≡ f.kept
  pub stands : after ≡ pasted before at f.out
  pub place : end ≡ at + length f.out
