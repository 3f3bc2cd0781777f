-- A line after the first, by what is done with its frame.
-- Assumes nothing.
use Prim.Native.Nat.{ℕ}
use mathlib.Core.Path.{◌≡◌, refl, ap}
use mathlib.Core.List.{List}
use mathlib.Core.Option.{Option, none, some}
use Rattle.rules.specs.declared.Refusal.TheVariants.{Unreadable}
use Rattle.rules.specs.Command.{Answer, refused}
use Rattle.rules.specs.Input.{goes}
use Rattle.rules.specs.Lines.{frame_of, call_in, call_of, perform, line_step, printed}
use Rattle.rules.specs.Run.{Call}
use Rattle.rules.specs.State.{State}
use Rattle.rules.specs.Words.{Ended}
use Rattle.session.specs.Picture.{GoodIn, shown}
use Rattle.text.specs.Prints.{outcome_of, line_of, Prints}
use Rattle.text.proofs.Printing.{prints_as}
use Rattle.lines.specs.Says.{answer_to, Replies, Says}
use Rattle.lines.specs.Acts.{answer_by, goes_by}

-- a line that has a frame is printed as its call ended
pub read_says :
    (f : State → List ℕ → Answer) (a : State) (l s t p : List ℕ) (e : Ended) (reply out : List ℕ) (at k : ℕ) (after : List ℕ) → frame_of l ≡ some s → Replies (f a s) t p e reply →
    Prints (line_of (outcome_of e reply)) k out at after → Says (goes_by f a l) t p k out at after
unfolding goes_by answer_by
read_says f a l s t p e reply out at k after q h w =
    let v = prints_as (ap line_of h.outcome) w in
    rw q (record { good = h.good; state = h.state; stands = v.stands; place = v.place })

-- one that has none is R9, and the session as it was
pub unread_says :
    (f : State → List ℕ → Answer) (l t p out : List ℕ) (at k : ℕ) (after : List ℕ) → GoodIn t p → frame_of l ≡ none → Prints (line_of (refused Unreadable)) k out at after →
    Says (goes_by f (shown t p) l) t p k out at after
unfolding goes_by answer_by
unread_says f l t p out at k after g q w = rw q (record { good = g; state = refl; stands = w.stands; place = w.place })

-- the line program's lines
call_is : (a : State) (o : Option Call) → perform a o ≡ record { state = (answer_to a o).state; line = printed (answer_to a o).outcome }
unfolding perform answer_to
call_is a none = refl
call_is a (some c) = refl

frame_is : (a : State) (o : Option (List ℕ)) → answer_to a (call_in o) ≡ answer_by (λ b s. answer_to b (call_of s)) a o
unfolding call_in answer_by answer_to
frame_is a none = refl
frame_is a (some s) = refl

pub goes_is : (a : State) (l : List ℕ) → goes a l ≡ goes_by (λ b s. answer_to b (call_of s)) a l
unfolding goes goes_by line_step
goes_is a l = rw (call_is a (call_in (frame_of l)), frame_is a (frame_of l)) refl
