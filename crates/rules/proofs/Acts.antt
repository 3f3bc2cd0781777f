-- Calls and bursts in any order are calls: each burst that completes a command is that command, and no other burst changes a session.
-- So every statement on a list of calls is one on what a host does.
-- Assumes nothing.
use Prim.Native.Nat.{ℕ, ◌-◌}
use mathlib.Core.Path.{◌≡◌, refl, sym, ap, subst, ◌∙◌}
use mathlib.Core.Bool.{false, true≢false}
use mathlib.Core.List.{List, [], ◌∷◌, ◌++◌}
use native.Mathlib.Omega.{arith}
use lib.ListN.{length, get_or, take, drop, length-append}
use lib.Seq.{take_at}
use lib.Dec.{ltb}
use Rattle.rules.specs.declared.Refusal.TheVariants.{CommandSize}
use Rattle.rules.specs.Checks.{◌⇒◌else◌}
use Rattle.rules.specs.Frames.{object_bytes, written}
use Rattle.rules.specs.Written.{Response, response_objects, response_bytes}
use Rattle.rules.specs.State.{State}
use Rattle.rules.specs.Command.{wrote, refused, Answer, answered, command, Terms}
use Rattle.rules.specs.Fetch.{Fetched, fetch}
use Rattle.rules.specs.Run.{Call, commanding, step, after}
use Rattle.rules.specs.History.{Exchange, calls_of, seen_from}
use Rattle.rules.specs.Acts.{Act, calls, bursts, clears, burst_seen, gathered_by, acted}
use Rattle.rules.proofs.Laws.{branch}
use Rattle.rules.proofs.Cases.{command_cases}
use Rattle.rules.proofs.Fetch.{burst_cases}

-- these exchanges are what is seen of their calls, and the calls lead from one state to the other
pub record Led (a : State) (es : List Exchange) (b : State) : Type 0 where
  pub state : after a (calls_of es) ≡ b
  pub seen : seen_from a (calls_of es) ≡ es

led_none : (a : State) → Led a [] a
unfolding after seen_from
led_none a = record { state = refl; seen = refl }

led_one : (a : State) (c : Call) (x : Answer) → step a c ≡ x → Led a (record { call = c; outcome = x.outcome } ∷ []) x.state
unfolding after seen_from
led_one a c x e =
    record { state = ap (λ (y : Answer). y.state) e; seen = λ i. record { call = c; outcome = (e i).outcome } ∷ [] }

led_on : (a b c : State) (es fs : List Exchange) → Led a es b → Led b fs c → Led a (es ++ fs) c
unfolding after seen_from
led_on a b c [] fs h k = subst (λ (x : State). Led x fs c) (sym h.state) k
led_on a b c (e ∷ es) fs h k =
    let x = step a e.call in
    let rest = led_on x.state b c es fs (record { state = h.state; seen = ap (drop 1) h.seen }) k in
    let first = ap (λ (xs : List Exchange). get_or xs 0 e) h.seen in
    record { state = rest.state; seen = λ i. first i ∷ rest.seen i }

-- the bytes of a burst that were taken
pub taken_back : (s t u : List ℕ) → s ≡ t ++ u → take (length s - length u) s ≡ t
taken_back s t u e =
    let k = ap length e in
    let j = length-append t u in
    let m : length t ≡ length s - length u = omega (arith, k, j) in ap (take (length s - length u)) e ∙ take_at t u (length s - length u) m

response_seen :
    (a : State) (terms : Terms) (g s t u : List ℕ) (r : Response) (b : State) → s ≡ t ++ u → command a terms (g ++ t) ≡ answered b (response_bytes r) →
    Led a (burst_seen terms g s (length u) (wrote (response_bytes r))) b
unfolding burst_seen step response_bytes response_objects written object_bytes
response_seen a terms g s t u r b e x =
    subst (λ (k : List ℕ). Led a (record { call = commanding terms (g ++ k); outcome = wrote (response_bytes r) } ∷ []) b) (sym (taken_back s t u e))
    (led_one a (commanding terms (g ++ t)) (answered b (response_bytes r)) x)

-- an answer to the bytes g with t behind them is that of the command call
command_seen_lem :
    (a : State) (terms : Terms) (g s t u : List ℕ) → s ≡ t ++ u →
    Led a (burst_seen terms g s (length u) (command a terms (g ++ t)).outcome) (command a terms (g ++ t)).state
unfolding burst_seen
command_seen_lem a terms g s t u e =
    command_cases (λ (x : Answer). command a terms (g ++ t) ≡ x → Led a (burst_seen terms g s (length u) x.outcome) x.state) a (λ _ _. led_none a) terms (g ++ t)
    (λ _ _ x. response_seen a terms g s t u _ _ e x) refl

-- what is seen of a burst leads to the state behind it
pub burst_led : (a : State) (terms : Terms) (g s : List ℕ) → let f = fetch a terms g s in Led a (burst_seen terms g s (length f.left) f.answer.outcome) f.answer.state
unfolding fetch burst_seen
burst_led a terms g s =
    let Q : Fetched → Type 0 = λ (f : Fetched). Led a (burst_seen terms g s (length f.left) f.answer.outcome) f.answer.state in
    branch Q _ _ _ (λ _. led_none a) (λ _. burst_cases Q a terms g s (led_none a) (λ t u e i. led_none a) (λ t u e i. command_seen_lem a terms g s t u e))

-- whatever a host does: what was seen is what the definitions see of the same calls, and these lead to the same state
pub acted_led : (a : State) (g : List ℕ) (xs : List Act) → Led a (acted a g xs).seen (acted a g xs).state
unfolding acted
acted_led a g [] = led_none a
acted_led a g (calls c ∷ xs) = led_on a _ _ _ _ (led_one a c (step a c) refl) (acted_led (step a c).state g xs)
acted_led a g (bursts terms s ∷ xs) =
    let f = fetch a terms g s in
    led_on a _ _ _ _ (burst_led a terms g s) (acted_led f.answer.state (gathered_by g s f.answer.outcome) xs)
acted_led a g (clears ∷ xs) = acted_led a [] xs

size_gathers : (g s : List ℕ) → [] ≡ gathered_by g s (refused CommandSize)
unfolding gathered_by ◌⇒◌else◌
size_gathers g s = refl

response_gathers : (g s : List ℕ) (r : Response) → [] ≡ gathered_by g s (wrote (response_bytes r))
unfolding gathered_by response_bytes response_objects written object_bytes
response_gathers g s r = refl

command_gathers : (a : State) (terms : Terms) (g s t : List ℕ) → ltb terms.buffer 255 ≡ false → [] ≡ gathered_by g s (command a terms t).outcome
unfolding command
command_gathers a terms g s t e =
    let Q : Answer → Type 0 = λ (x : Answer). [] ≡ gathered_by g s x.outcome in
    branch Q _ _ _ (λ f. absurd (true≢false (sym f ∙ e))) (λ _. branch Q _ _ _ (λ _. size_gathers g s) (λ _. response_gathers g s _))

-- what is gathered behind a burst is told by the bursts and how they ended
pub gathered_told : (a : State) (terms : Terms) (g s : List ℕ) → (fetch a terms g s).gathered ≡ gathered_by g s (fetch a terms g s).answer.outcome
unfolding fetch gathered_by ◌⇒◌else◌
gathered_told a terms g s =
    let Q : Fetched → Type 0 = λ (f : Fetched). f.gathered ≡ gathered_by g s f.answer.outcome in
    branch Q _ _ _ (λ _. refl) (λ e. burst_cases Q a terms g s refl (λ t u _ _. size_gathers g s) (λ t u _ _. command_gathers a terms g s (g ++ t) e))
