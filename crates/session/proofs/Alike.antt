-- Two outcomes that meet one contract are the same, part by part.
-- Assumes nothing.
use mathlib.Core.Path.{◌≡◌, sym, ◌∙◌}
use mathlib.Core.List.{List}
use Prim.Native.Nat.{ℕ}
use Rattle.rules.specs.State.{State}
use Rattle.rules.specs.Command.{Answer}
use Rattle.session.specs.declared.Session.{Session}
use Rattle.rules.specs.Words.{Ended}
use Rattle.session.specs.declared.Answered.{Answered}
use Rattle.session.specs.Picture.{Shows}
use Rattle.session.specs.Calls.{Answers}

-- two pictures of one state
pub ledger_alike : {a : State} {t u p q : List ℕ} → Shows a t p → Shows a u q → t ≡ u
ledger_alike s r = s.ledger ∙ sym r.ledger

pub pool_alike : {a : State} {t u p q : List ℕ} → Shows a t p → Shows a u q → p ≡ q
pool_alike s r = s.pool ∙ sym r.pool

pub session_alike : {a : State} (x y : Session) → Shows a x.ledger x.pool → Shows a y.ledger y.pool → x ≡ y
session_alike x y s r = λ i. record { ledger = ledger_alike s r i; pool = pool_alike s r i }

-- two that hand back one answer
module _ {r : Answer} {t u : List ℕ} {p q : List ℕ} {e f : Ended} {before after after' : List ℕ} where
  pub ended_alike : Answers r t p e before after → Answers r u q f before after' → e ≡ f
  ended_alike s o = s.ended ∙ sym o.ended

  pub lent_alike : Answers r t p e before after → Answers r u q f before after' → after ≡ after'
  lent_alike s o = s.lent ∙ sym o.lent

  pub pool_told : Answers r t p e before after → Answers r u q f before after' → p ≡ q
  pool_told s o = pool_alike s.shows o.shows

  pub ledger_told : Answers r t p e before after → Answers r u q f before after' → t ≡ u
  ledger_told s o = ledger_alike s.shows o.shows

pub session_told :
    {r : Answer} {e f : Ended} {before after after' : List ℕ} (x y : Session) →
    Answers r x.ledger x.pool e before after → Answers r y.ledger y.pool f before after' → x ≡ y
session_told x y s o = λ i. record { ledger = ledger_told s o i; pool = pool_told s o i }

pub answered_alike :
    {r : Answer} {before after after' : List ℕ} (x y : Answered) →
    Answers r x.session.ledger x.session.pool x.ended before after →
    Answers r y.session.ledger y.session.pool y.ended before after' → x ≡ y
answered_alike x y s o = λ i. record { session = session_told x.session y.session s o i; ended = ended_alike s o i }
