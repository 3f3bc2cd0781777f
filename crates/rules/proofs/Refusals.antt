-- A refusal changes nothing.
-- Assumes nothing.
use mathlib.Core.Path.{◌≡◌, refl}
use mathlib.Core.List.{List, []}
use Prim.Native.Nat.{ℕ}
use Rattle.rules.specs.declared.Refusal.{Refusal}
use Rattle.rules.specs.State.{State, start}
use Rattle.rules.specs.Command.{Answer, refused, answered}
use Rattle.rules.specs.Radio.{arrives, takes, drops}
use Rattle.rules.specs.TimerCalls.{passing, second, envelope}
use Rattle.rules.specs.Run.{Call, starting, commanding, radio, timing, step}
use Rattle.rules.proofs.Cases.{arrival_cases, taking_cases, dropping_cases, enveloping_cases, command_cases}

-- of an answer that is a refusal: the state is as it was
abbrev Stays : State → Answer → Type 0
Stays a r = (why : Refusal) → r.outcome ≡ refused why → r.state ≡ a

answered_stays : (a b : State) (s : List ℕ) → Stays a (answered b s)
answered_stays a b s why e = cc

-- a refusal leaves the state
pub refusal_stays : (a : State) (c : Call) → Stays a (step a c)
unfolding step passing
refusal_stays a (starting p) = answered_stays a (start p) []
refusal_stays a (commanding terms s) =
    command_cases (Stays a) a (λ _ _ _. refl) terms s (λ _ _. answered_stays a _ _)
refusal_stays a (radio buffer n (arrives s)) =
    arrival_cases (Stays a) a (λ _ _ _. refl) buffer n s (λ _ _ _ _. answered_stays a _ _)
refusal_stays a (radio buffer n takes) = taking_cases (Stays a) a (λ _ _ _. refl) buffer n (λ _ _. answered_stays a _ _)
refusal_stays a (radio buffer n drops) =
    dropping_cases (Stays a) a (λ _ _ _. refl) buffer n (λ _ _. answered_stays a _ _)
refusal_stays a (timing second) = answered_stays a _ []
refusal_stays a (timing (envelope buffer)) = enveloping_cases (Stays a) a (λ _ _ _. refl) buffer (λ _ _ _ _. answered_stays a _ _)
