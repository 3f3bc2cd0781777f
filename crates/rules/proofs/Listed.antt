-- The events that are listed, by what was seen of the calls.
-- Assumes nothing.
use Prim.Native.Nat.{ℕ}
use mathlib.Core.Path.{◌≡◌, refl, ap, ◌∙◌}
use mathlib.Core.Bool.{Bool}
use mathlib.Core.List.{List, [], ◌∷◌}
use mathlib.Core.Option.{Option, some}
use Rattle.rules.specs.Checks.{◌⇒◌else◌}
use Rattle.rules.specs.declared.Events.{Events}
use Rattle.rules.specs.Words.{channel_of}
use Rattle.rules.specs.Frames.{contents}
use Rattle.rules.specs.State.{State, start, with_chan, with_timer}
use Rattle.rules.specs.Reading.{Reading, reading, command_in, Command, Body, bare, event_list, open_channel, close_channel, receive_data, send_data, start_timer, manage_timer}
use Rattle.rules.specs.Own.{Reply, Result, listed, own, protocol_of, reply}
use Rattle.rules.specs.Command.{Answer, Meant, wrote, meant_by}
use Rattle.rules.specs.Radio.{arrives, takes, drops}
use Rattle.rules.specs.Run.{Call, starting, commanding, radio, arriving, taking_out, dropping_link, step, after, timing}
use Rattle.rules.specs.Sound.{Sound}
use Rattle.rules.specs.History.{command_seen, seen_from}
use Rattle.rules.specs.Demands.{reached, is_done, heard, heard_done, lists_in, lists_after, lists_from, listed_by}
use Rattle.rules.proofs.Cases.{arrival_cases, taking_cases, dropping_cases, command_cases, listing_cases, opening_cases, closing_cases, receiving_cases, sending_cases, telling_cases, starting_timer_cases, enveloping_cases, managing_timer_cases}
use Rattle.rules.proofs.Readings.{details_read, counted, reading_cases}
use Rattle.rules.proofs.Soundness.{start_sound, step_sound}
use Rattle.rules.proofs.Outside.{heard_meant}
use Rattle.rules.specs.TimerCalls.{passing, envelope, second}
use Rattle.rules.proofs.Laws.{branch}
use lib.Dec.{eqb}
use Rattle.rules.specs.Timers.{action_of}

module _ (a : State) where
  -- a command that is done lists what it says, and no other does
  abbrev Lists : Body → Reply → Type 0
  Lists b r = (is_done r.result ⇒ lists_in a.events b else a.events) ≡ r.state.events

  own_lists : (c : Command) (b : Body) (i : Bool) → Lists b (own a c b i)
  unfolding own is_done lists_in listed with_chan with_timer ◌⇒◌else◌
  own_lists c (bare t) i = telling_cases (λ (r : Result). Lists (bare t) (reply a r)) a t i refl refl
  own_lists c (event_list es) i = listing_cases (Lists (event_list es)) a es i refl (λ _. refl)
  own_lists c (open_channel b size t) i =
      opening_cases (Lists (open_channel b size t)) a (λ _ _. refl) c.qualifier b size (protocol_of t) i refl (λ _ _ _ _ _ _ _. refl)
  own_lists c close_channel i = closing_cases (Lists close_channel) a (λ _ _. refl) (channel_of c.destination) i (λ _. refl)
  own_lists c (receive_data r) i = receiving_cases (Lists (receive_data r)) a (λ _ _. refl) (channel_of c.destination) r i (λ _ _ _. refl)
  own_lists c (send_data s) i =
      sending_cases (Lists (send_data s)) a (λ _ _. refl) c.qualifier (channel_of c.destination) s i (λ _ _ _ _ _ _. refl)
  own_lists c (start_timer n v) i = starting_timer_cases (Lists (start_timer n v)) a n v i refl (λ _ _ _. refl)
  own_lists c (manage_timer n) i =
      managing_timer_cases (Lists (manage_timer n)) a c.qualifier n i refl (λ _. refl)
      (λ _ _ _ _ _. branch (λ (b : State). a.events ≡ b.events) (eqb (action_of c.qualifier) 1) _ _ (λ _. refl) (λ _. refl))

  abbrev Listed-in : List ℕ → Meant → Type 0
  Listed-in s m = (is_done m.response.result ⇒ lists_in a.events (command_seen s).body else a.events) ≡ m.state.events

  meant_lists : (s : List ℕ) → Listed-in s (meant_by a (reading a.profile s))
  unfolding command_seen meant_by is_done ◌⇒◌else◌
  meant_lists s =
      reading_cases (λ (r : Reading). Listed-in s (meant_by a r)) a.profile s (λ _ _. refl) (λ _ _. refl)
      (λ r i. own_lists (command_in (details_read (contents s)) (counted (contents s))) _ i)

  abbrev Lists-after : Call → Answer → Type 0
  Lists-after c r = lists_after a.events c r.outcome ≡ r.state.events

  step_lists : Sound a → (c : Call) → Lists-after c (step a c)
  unfolding step passing lists_after start with_chan with_timer heard heard_done ◌⇒◌else◌
  step_lists o (starting p) = refl
  step_lists o (commanding terms s) =
      let x : Result = (meant_by a (reading a.profile s)).response.result in
      command_cases
      (λ (r : Answer). ((t : List ℕ) → r.outcome ≡ wrote t → heard r.outcome ≡ some x) → Lists-after (commanding terms s) r)
      a (λ _ _. refl) terms s
      (λ _ _ hears.
      ap (λ (y : Option Result). heard_done y ⇒ lists_in a.events (command_seen s).body else a.events) (hears _ refl) ∙ meant_lists s)
      (λ t e. heard_meant a terms s t o e)
  step_lists o (radio buffer n (arrives s)) = arrival_cases (Lists-after (arriving buffer n s)) a (λ _. refl) buffer n s (λ _ _ _ _. refl)
  step_lists o (radio buffer n takes) = taking_cases (Lists-after (taking_out buffer n)) a (λ _. refl) buffer n (λ _ _. refl)
  step_lists o (radio buffer n drops) = dropping_cases (Lists-after (dropping_link buffer n)) a (λ _. refl) buffer n (λ _ _. refl)
  step_lists o (timing second) = refl
  step_lists o (timing (envelope buffer)) = enveloping_cases (Lists-after (timing (envelope buffer))) a (λ _. refl) buffer (λ _ _ _ _. refl)

lists_from_lem : (a : State) (e : Events) (cs : List Call) → Sound a → e ≡ a.events → lists_from e (seen_from a cs) ≡ (after a cs).events
unfolding after lists_from seen_from
lists_from_lem a e [] o q = q
lists_from_lem a e (c ∷ cs) o q =
    lists_from_lem (step a c).state (lists_after e c (step a c).outcome) cs (step_sound a c o)
    (ap (λ (x : Events). lists_after x c (step a c).outcome) q ∙ step_lists a o c)

-- what was seen, from the start through any list of calls, tells which events are listed
pub lists : (p : List ℕ) (cs : List Call) → listed_by p cs ≡ (reached p cs).events
unfolding start
lists p cs = lists_from_lem (start p) _ cs (start_sound p) refl
