-- A line after the first, by what is done with its frame: `f` tells what a frame is answered.
use Rattle.std.specs.Prelude.{ℕ, ◌≡◌, List, length}
use Rattle.std.specs.Borrow.{Bor, MutBor}
use Rattle.std.proofs.Math.Option.{Option, none, some}
use Rattle.rules.specs.declared.Refusal.TheVariants.{Unreadable}
use Rattle.rules.specs.State.{State}
use Rattle.rules.specs.Command.{Answer, refusal}
use Rattle.rules.specs.Lines.{frame_of, printed}
use Rattle.rules.specs.Input.{Said, line_bytes}
use Rattle.rules.specs.Pool.{grant_cap}
use Rattle.rules.specs.Words.{Ended}
use Rattle.session.specs.declared.Session.{Session}
use Rattle.session.specs.Picture.{Good, view}
use Rattle.lines.specs.Says.{Replies}

-- it may be done with every frame, over a good session and a whole reply
abbrev pub TakesFrames : (MutBor Session → Bor (List ℕ) → MutBor (List ℕ) → Type 0) → Type 0
TakesFrames pre = (x : MutBor Session) (s : Bor (List ℕ)) (reply : MutBor (List ℕ)) → Good x.now → length reply.now ≡ grant_cap → pre x s reply

-- and it answers each as f tells
abbrev pub AnswersFrames :
    (MutBor Session → Bor (List ℕ) → MutBor (List ℕ) → Ended → MutBor Session → MutBor (List ℕ) → Type 0) → (State → List ℕ → Answer) → Type 0
AnswersFrames post f =
    (x : MutBor Session) (s : Bor (List ℕ)) (reply : MutBor (List ℕ)) (e : Ended) (x' : MutBor Session) (reply' : MutBor (List ℕ)) →
    post x s reply e x' reply' → Replies (f (view x.now) s.now) x'.now.ledger x'.now.pool e reply'.now

-- the answer by the frame of a line; R9 where it is unreadable
unfoldable pub answer_by : (State → List ℕ → Answer) → State → Option (List ℕ) → Answer
answer_by f a none = refusal a Unreadable
answer_by f a (some s) = f a s

-- what a line after the first comes to
unfoldable pub goes_by : (State → List ℕ → Answer) → State → List ℕ → Said State
goes_by f a l = let r = answer_by f a (frame_of l) in record { kept = r.state; out = line_bytes (printed r.outcome) }
