-- M-109 among the other calls: what a host does, bursts among it, and the calls that these are; a burst that completes a command is that command.
use Rattle.std.specs.Prelude.{ℕ, ◌-◌, List, [], ◌∷◌, ◌++◌, length, take, eqb}
use Rattle.rules.specs.Checks.{◌⇒◌else◌}
use Rattle.rules.specs.Words.{number_of}
use Rattle.rules.specs.State.{State}
use Rattle.rules.specs.Command.{Outcome, wrote, refused, Terms}
use Rattle.rules.specs.Fetch.{fetch}
use Rattle.rules.specs.Run.{Call, commanding, step}
use Rattle.rules.specs.History.{Exchange}

-- a call, a burst on its terms, or a start of what is gathered
pub data Act : Type 0 where
  calls : Call → Act
  bursts : Terms → List ℕ → Act
  clears : Act

-- what is seen of a burst s onto the bytes g, of which so many were left: an answer is that to the command of all bytes taken
unfoldable pub burst_seen : Terms → List ℕ → List ℕ → ℕ → Outcome → List Exchange
burst_seen terms g s left (wrote []) = []
burst_seen terms g s left (wrote (b ∷ t)) =
    record { call = commanding terms (g ++ take (length s - left) s); outcome = wrote (b ∷ t) } ∷ []
burst_seen terms g s left (refused r) = []

-- what is gathered behind it, seen from outside too
unfoldable pub gathered_by : List ℕ → List ℕ → Outcome → List ℕ
gathered_by g s (wrote []) = g ++ s
gathered_by g s (wrote (b ∷ t)) = []
gathered_by g s (refused r) = eqb (number_of r) 1 ⇒ g else []

-- what acts come to: the state, what is gathered, and the exchanges that were seen
pub record Acted : Type 0 where
  pub state : State
  pub gathered : List ℕ
  pub seen : List Exchange

-- exchanges in front
abbrev seen_before : List Exchange → Acted → Acted
seen_before es x = record { state = x.state; gathered = x.gathered; seen = es ++ x.seen }

unfoldable pub acted : State → List ℕ → List Act → Acted
acted a g [] = record { state = a; gathered = g; seen = [] }
acted a g (calls c ∷ xs) =
    let r = step a c in
    seen_before (record { call = c; outcome = r.outcome } ∷ []) (acted r.state g xs)
acted a g (bursts terms s ∷ xs) =
    let f = fetch a terms g s in
    let o = f.answer.outcome in
    seen_before (burst_seen terms g s (length f.left) o) (acted f.answer.state (gathered_by g s o) xs)
acted a g (clears ∷ xs) = acted a [] xs
