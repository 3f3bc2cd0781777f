-- What is seen from outside: one call more, the profile of the latest start, and what the bench hears in an answer.
-- Assumes nothing.
use Prim.Native.Nat.{ℕ, ◌-◌, ◌≤◌}
use mathlib.Core.Path.{◌≡◌, refl, sym, ap, subst, ◌∙◌}
use mathlib.Core.Bool.{Bool, false, false≢true}
use mathlib.Core.List.{List, [], ◌∷◌}
use mathlib.Core.Option.{some}
use native.Mathlib.Omega.{arith}
use lib.ListN.{length}
use borrow.Author.Tests.{le-ltb}
use Rattle.rules.specs.declared.ChannelNumber.{ChannelNumber}
use Rattle.rules.specs.declared.Details.{Details}
use Rattle.rules.specs.Checks.{is_empty, ◌⇒◌else◌}
use Rattle.rules.specs.Words.{channel_of}
use Rattle.rules.specs.Frames.{walk, framed, contents}
use Rattle.rules.specs.Table.{value_of}
use Rattle.rules.specs.Profile.{kept, allows_type, allows_bearer, channels}
use Rattle.rules.specs.State.{State, start, with_chan, with_timer}
use Rattle.rules.specs.Reading.{Reading, wrong, asked, reading, read_objects, zeros, details_in, command_in, kind_of, to_modem, Command, Body, bare, event_list, open_channel, close_channel, receive_data, send_data, start_timer, manage_timer}
use Rattle.rules.specs.Own.{Reply, Result, Further, done, listed, own, protocol_of}
use Rattle.rules.specs.Written.{Response, response_bytes}
use Rattle.rules.specs.Command.{Answer, answered, Outcome, wrote, refused, command, meant_by, Terms}
use Rattle.rules.specs.Bench.{Told, told, untold, bench_read}
use Rattle.rules.specs.Radio.{arrives, takes, drops}
use Rattle.rules.specs.Run.{Call, starting, commanding, radio, step, after, timing}
use Rattle.rules.specs.Sound.{Sound}
use Rattle.rules.specs.History.{History, answer_tells, heard_tells, tells, history_from, history, seen_from, command_seen}
use Rattle.rules.specs.Demands.{reached, told_of, next, begun, latest, result_told, heard, answer_to, Passed}
use Rattle.rules.proofs.Laws.{stop, skip, branch}
use Rattle.rules.proofs.Cases.{arrival_cases, taking_cases, dropping_cases, command_cases, listing_cases, opening_cases, closing_cases, receiving_cases, sending_cases, starting_timer_cases, enveloping_cases, managing_timer_cases}
use Rattle.rules.proofs.Readings.{details_read, counted, reading_cases}
use Rattle.rules.proofs.Soundness.{reached_sound}
use Rattle.rules.proofs.Told.{kept_byte, kept_bit}
use Rattle.rules.proofs.Heard.{modem_heard}
use Rattle.rules.proofs.Matching.{numbered_from, Aimed, read_aimed}
use Rattle.rules.proofs.Answers.{meant_own, commanded_state}
use Rattle.rules.specs.TimerCalls.{passing, envelope, second}
use lib.Dec.{eqb}
use Rattle.rules.specs.Timers.{action_of}

-- one call more: the state after it, and what is seen of it
after_next : (a : State) (cs : List Call) (c : Call) → after a (next cs c) ≡ (step (after a cs) c).state
unfolding after
after_next a [] c = refl
after_next a (d ∷ cs) c = after_next (step a d).state cs c

history_next :
    (n : ChannelNumber) (h : History) (a : State) (cs : List Call) (c : Call) →
    history_from n h (seen_from a (next cs c)) ≡ tells n (history_from n h (seen_from a cs)) c (step (after a cs) c).outcome
unfolding after history_from seen_from
history_next n h a [] c = refl
history_next n h a (d ∷ cs) c = history_next n (tells n h d (step a d).outcome) (step a d).state cs c

pub reached_next : (p : List ℕ) (cs : List Call) (c : Call) → reached p (next cs c) ≡ (step (reached p cs) c).state
reached_next p cs c = after_next (start p) cs c

pub told_next :
    (n : ChannelNumber) (p : List ℕ) (cs : List Call) (c : Call) →
    told_of n p (next cs c) ≡ tells n (told_of n p cs) c (step (reached p cs) c).outcome
unfolding history
told_next n p cs c = history_next n _ (start p) cs c

pub latest_next : (p : List ℕ) (cs : List Call) (c : Call) → latest p (next cs c) ≡ begun (latest p cs) c
unfolding latest
latest_next p [] c = refl
latest_next p (d ∷ cs) c = latest_next (begun p d) cs c

-- no call but a start changes the profile
own_profile : (a : State) (c : Command) (b : Body) (i : Bool) → (own a c b i).state.profile ≡ a.profile
unfolding own listed with_chan with_timer
own_profile a c (bare t) i = refl
own_profile a c (event_list es) i = listing_cases (λ (r : Reply). r.state.profile ≡ a.profile) a es i refl (λ _. refl)
own_profile a c (open_channel b size t) i =
    opening_cases (λ (r : Reply). r.state.profile ≡ a.profile) a (λ _ _. refl) c.qualifier b size (protocol_of t) i refl (λ _ _ _ _ _ _ _. refl)
own_profile a c close_channel i =
    closing_cases (λ (r : Reply). r.state.profile ≡ a.profile) a (λ _ _. refl) (channel_of c.destination) i (λ _. refl)
own_profile a c (receive_data r) i =
    receiving_cases (λ (r : Reply). r.state.profile ≡ a.profile) a (λ _ _. refl) (channel_of c.destination) r i (λ _ _ _. refl)
own_profile a c (send_data s) i =
    sending_cases (λ (r : Reply). r.state.profile ≡ a.profile) a (λ _ _. refl) c.qualifier (channel_of c.destination) s i (λ _ _ _ _ _ _. refl)
own_profile a c (start_timer n v) i = starting_timer_cases (λ (r : Reply). r.state.profile ≡ a.profile) a n v i refl (λ _ _ _. refl)
own_profile a c (manage_timer n) i =
    managing_timer_cases (λ (r : Reply). r.state.profile ≡ a.profile) a c.qualifier n i refl (λ _. refl)
    (λ _ _ _ _ _. branch (λ (b : State). b.profile ≡ a.profile) (eqb (action_of c.qualifier) 1) _ _ (λ _. refl) (λ _. refl))

meant_profile : (a : State) (r : Reading) → (meant_by a r).state.profile ≡ a.profile
unfolding meant_by
meant_profile a (wrong d e) = refl
meant_profile a (asked c i) = own_profile a c c.body i

step_profile : (a : State) (c : Call) (q : List ℕ) → a.profile ≡ kept q → (step a c).state.profile ≡ kept (begun q c)
unfolding step passing begun start with_chan with_timer
step_profile a (starting p) q e = refl
step_profile a (commanding terms s) q e =
    command_cases (λ (r : Answer). r.state.profile ≡ kept q) a (λ _. e) terms s (λ _ _. meant_profile a (reading a.profile s) ∙ e)
step_profile a (radio buffer n (arrives s)) q e = arrival_cases (λ (r : Answer). r.state.profile ≡ kept q) a (λ _. e) buffer n s (λ _ _ _ _. e)
step_profile a (radio buffer n takes) q e = taking_cases (λ (r : Answer). r.state.profile ≡ kept q) a (λ _. e) buffer n (λ _ _. e)
step_profile a (radio buffer n drops) q e = dropping_cases (λ (r : Answer). r.state.profile ≡ kept q) a (λ _. e) buffer n (λ _ _. e)
step_profile a (timing second) q e = e
step_profile a (timing (envelope buffer)) q e = enveloping_cases (λ (r : Answer). r.state.profile ≡ kept q) a (λ _. e) buffer (λ _ _ _ _. e)

after_profile : (a : State) (cs : List Call) (q : List ℕ) → a.profile ≡ kept q → (after a cs).profile ≡ kept (latest q cs)
unfolding after latest
after_profile a [] q e = e
after_profile a (c ∷ cs) q e = after_profile (step a c).state cs (begun q c) (step_profile a c q e)

-- a session keeps the profile of its latest start
pub reached_profile : (p : List ℕ) (cs : List Call) → (reached p cs).profile ≡ kept (latest p cs)
unfolding start
reached_profile p cs = after_profile (start p) cs p refl

-- and what is kept of a profile allows what the profile allows
allows_kept : (p : List ℕ) (d : Details) → allows_type (kept p) d ≡ allows_type p d
unfolding allows_type
allows_kept p d =
    rw (kept_bit p 3 4 (omega arith) (omega arith), kept_bit p 5 1 (omega arith) (omega arith), kept_bit p 8 (eqb (action_of d.qualifier) 2 ⇒ 2 else 1) (omega arith) (omega arith), kept_bit p 12 (d.kind - 0x3F) (omega arith) (omega arith))

reading_kept : (p s : List ℕ) → reading (kept p) s ≡ reading p s
unfolding reading read_objects
reading_kept p s = rw (allows_kept p (details_in (value_of 0x01 (walk (contents s)).objects)))

module _ (p : List ℕ) (cs : List Call) where
  pub reached_channels : channels (reached p cs).profile ≡ channels (latest p cs)
  unfolding channels
  reached_channels = rw (reached_profile p cs, kept_byte (latest p cs) 12 (omega arith))

  pub reached_bearer : (k : ℕ) → allows_bearer (reached p cs).profile k ≡ allows_bearer (latest p cs) k
  unfolding allows_bearer
  reached_bearer k = rw (reached_profile p cs, kept_bit (latest p cs) 13 2 (omega arith) (omega arith))

  pub reached_reading : (s : List ℕ) → reading (reached p cs).profile s ≡ reading (latest p cs) s
  reached_reading s = ap (λ (q : List ℕ). reading q s) (reached_profile p cs) ∙ reading_kept (latest p cs) s

-- a result that is heard was told by an answer
pub heard_wrote : (o : Outcome) (x : Result) → heard o ≡ some x → (t : List ℕ) × (o ≡ wrote t)
unfolding heard
heard_wrote (wrote t) x e = (t, refl)
heard_wrote (refused r) x e = absurd (false≢true (cc))

-- the bench hears what the command call meant
pub heard_meant :
    (a : State) (terms : Terms) (s t : List ℕ) → Sound a → (command a terms s).outcome ≡ wrote t →
    heard (command a terms s).outcome ≡ some (meant_by a (reading a.profile s)).response.result
unfolding heard result_told
heard_meant a terms s t h e = ap heard e ∙ ap result_told (modem_heard a terms s t h e)

-- what is known behind an answer in which the bench hears the result x
pub record Answered (p : List ℕ) (cs : List Call) (terms : Terms) (s : List ℕ) (x : Result) : Type 0 where
  pub result : x ≡ (meant_by (reached p cs) (reading (reached p cs).profile s)).response.result
  pub state : reached p (next cs (commanding terms s)) ≡ (meant_by (reached p cs) (reading (reached p cs).profile s)).state

pub answer_meant : (p : List ℕ) (cs : List Call) (terms : Terms) (s : List ℕ) (x : Result) → answer_to p cs terms s ≡ some x → Answered p cs terms s x
unfolding step
answer_meant p cs terms s x e =
    let a = reached p cs in
    let w = heard_wrote (command a terms s).outcome x e in
    let q = sym e ∙ heard_meant a terms s w.0 (reached_sound p cs) w.1 in
    record { result = cc; state = reached_next p cs (commanding terms s) ∙ commanded_state a terms s w.0 w.1 }

-- what is done was asked for
pub done_asked :
    (a : State) (r : Reading) (x : ℕ) (f : Further) → (meant_by a r).response.result ≡ done x f → (c : Command) × (i : Bool) × (r ≡ asked c i)
unfolding meant_by
done_asked a (wrong d e) x f q = absurd (false≢true (cc))
done_asked a (asked c i) x f q = (c, i, refl)

wrong_asked : (d : Details) (x : ℕ) (c : Command) (i : Bool) → wrong d x ≡ asked c i → ⊥
wrong_asked d x c i e = false≢true (cc)

-- a command that was read is not empty
read_some : (p s : List ℕ) (c : Command) (i : Bool) → reading p s ≡ asked c i → is_empty s ≡ false
unfolding is_empty reading framed
read_some p [] c i e = absurd (wrong_asked zeros 0x32 c i (sym (stop _ _ _ refl) ∙ e))
read_some p (b ∷ s) c i e = refl

module _ (p : List ℕ) (cs : List Call) (terms : Terms) (s : List ℕ) (c : Command) (i : Bool) (w : Passed (latest p cs) terms s c i) where
  abbrev a : State
  a = reached p cs

  pub read_reached : reading a.profile s ≡ asked c i
  read_reached = reached_reading p cs s ∙ w.read

  answered_meant : command a terms s ≡ answered (meant_by a (reading a.profile s)).state (response_bytes (meant_by a (reading a.profile s)).response)
  unfolding command
  answered_meant =
      skip _ _ _ (le-ltb terms.buffer 255 w.roomy) ∙ skip _ _ _ (rw (read_some a.profile s c i read_reached, le-ltb 256 (length s) w.few))

  -- a command that passed steps 1 to 8 is answered as its own checks say, and the state is theirs
  pub own_heard : (b : Body) → c.body ≡ b → answer_to p cs terms s ≡ some (own a c b i).result
  unfolding step
  own_heard b e =
      heard_meant a terms s _ (reached_sound p cs) (ap (λ (r : Answer). r.outcome) answered_meant)
      ∙ ap (λ (r : Reply). some r.result) (meant_own a (reading a.profile s) c i b read_reached e)

  pub own_next : (b : Body) → c.body ≡ b → reached p (next cs (commanding terms s)) ≡ (own a c b i).state
  unfolding step
  own_next b e =
      reached_next p cs (commanding terms s) ∙ ap (λ (r : Answer). r.state) answered_meant
      ∙ ap (λ (r : Reply). r.state) (meant_own a (reading a.profile s) c i b read_reached e)

  -- and if it goes to a channel, to one of 1 to 7
  aimed_at : Aimed c c.body
  aimed_at =
      reading_cases (λ (r : Reading). r ≡ asked c i → Aimed c c.body) a.profile s (λ _ _ e. absurd (wrong_asked _ _ c i e)) (λ _ _ e. absurd (wrong_asked _ _ c i e))
      (λ r j e.
      let is : command_in (details_read (contents s)) (counted (contents s)) ≡ c = cc in
      subst (λ (k : Command). Aimed k k.body) is (read_aimed a.profile (contents s) r)) read_reached

  pub aimed_number : to_modem (kind_of c.body) ≡ false → (1 ≤ (channel_of c.destination).0) × ((channel_of c.destination).0 ≤ 7)
  aimed_number e = numbered_from (channel_of c.destination) (aimed_at e)

-- an answer tells what the bench hears in it
told_result : (t : Told) (x : Result) → result_told t ≡ some x → (r : Response) × (t ≡ told r) × (r.result ≡ x)
unfolding result_told
told_result (told r) x e = (r, refl, cc)
told_result (untold why) x e = absurd (false≢true (cc))

pub answer_tells_lem :
    (n : ChannelNumber) (p : List ℕ) (cs : List Call) (terms : Terms) (s : List ℕ) (x : Result) → answer_to p cs terms s ≡ some x →
    told_of n p (next cs (commanding terms s)) ≡ answer_tells n (told_of n p cs) (command_seen s) x
unfolding heard tells heard_tells
answer_tells_lem n p cs terms s x e =
    let h = told_of n p cs in
    let w = heard_wrote (step (reached p cs) (commanding terms s)).outcome x e in
    let r = told_result (bench_read w.0) x (sym (ap heard w.1) ∙ e) in
    told_next n p cs (commanding terms s) ∙ ap (tells n h (commanding terms s)) w.1
    ∙ ap (heard_tells n h (command_seen s)) r.1 ∙ ap (answer_tells n h (command_seen s)) r.2
