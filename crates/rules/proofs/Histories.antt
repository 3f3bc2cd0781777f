-- What was seen of a channel tells the channel: its grant, its link, and each way accepted is handed out followed by held.
-- Assumes nothing.
use Prim.Native.Nat.{ℕ, ◌-◌, ◌≤◌, min}
use mathlib.Core.Path.{◌≡◌, refl, sym, ap, subst, ◌∙◌}
use mathlib.Core.Bool.{Bool, false}
use mathlib.Core.List.{List, [], ◌∷◌}
use native.Mathlib.Omega.{arith}
use lib.ListN.{take, replicate}
use Rattle.rules.specs.declared.Carries.{Carries}
use Rattle.rules.specs.declared.ChannelNumber.{ChannelNumber}
use Rattle.rules.specs.Checks.{◌⇒◌else◌, some_of, member}
use Rattle.rules.specs.Words.{channel_of}
use Rattle.rules.specs.Frames.{contents}
use Rattle.rules.specs.declared.Way.TheVariants.{Receive, Send}
use Rattle.rules.specs.State.{State, Chan, is_stream, start, closed, chan, with_chan, queue, fresh, dropped, held, at_once, appended, arrived, removed, with_timer}
use Rattle.rules.specs.Pool.{unpromised}
use Rattle.rules.specs.Reading.{Reading, reading, Command, Body, bare, event_list, open_channel, close_channel, receive_data, send_data, kind_of, command_in, to_modem, start_timer, manage_timer}
use Rattle.rules.specs.Own.{Reply, bit1, listed, own, protocol_of, carried_by, Result}
use Rattle.rules.specs.Command.{Answer, Meant, wrote, command, meant_by, Terms}
use Rattle.rules.specs.Radio.{arrives, takes, drops}
use Rattle.rules.specs.Run.{Call, starting, commanding, radio, arriving, taking_out, dropping_link, step, after, timing}
use Rattle.rules.specs.Sound.{Sound}
use Rattle.rules.specs.History.{History, ended, opened_with, readied_in, dropped_in, command_seen, data_of, carried_in, closes, answer_tells, heard_tells, tells, history_from, history, seen_from, accepted_in, whole_in, out_in, radio_tells}
use Rattle.rules.specs.Demands.{Tells, Follows, reached, told_of}
use Rattle.rules.proofs.Laws.{stop, skip, each_get, each_replicate, branch}
use Rattle.rules.proofs.Cases.{arrival_cases, taking_cases, dropping_cases, command_cases, listing_cases, opening_cases, closing_cases, receiving_cases, sending_cases, telling_cases, starting_timer_cases, enveloping_cases, managing_timer_cases}
use Rattle.rules.proofs.Readings.{details_read, counted, reading_cases}
use Rattle.rules.proofs.Grants.{Granted, grant_law}
use Rattle.rules.proofs.Soundness.{chan_sound, sent_sound, opened_place, start_sound, step_sound}
use Rattle.rules.proofs.Datagrams.{first}
use Rattle.rules.proofs.Heard.{modem_heard}
use Rattle.rules.proofs.Matching.{closed_told, fresh_told, arrived_told, sent_told, handed_told, taken_told, readied_told, dropped_told, Aimed, read_aimed, changed, numbered_of, either_told}
use Rattle.rules.specs.TimerCalls.{passing, envelope, second}
use lib.Dec.{eqb}
use Rattle.rules.specs.Timers.{action_of}

-- a fresh session has no channel, and nothing was seen of one
start_follows : (n : ChannelNumber) (p : List ℕ) → Follows n (start p) ended
unfolding start chan
start_follows n p =
    subst (λ (c : Chan). Tells c ended)
    (sym (each_get (λ (c : Chan). c ≡ closed) (replicate 7 closed) (n.0 - 1) closed refl (each_replicate (λ (c : Chan). c ≡ closed) 7 closed refl)))
    closed_told

-- the answer to a command tells what was meant
pub command_tells :
    (n : ChannelNumber) (a : State) (h : History) → Sound a → (terms : Terms) (s t : List ℕ) → (command a terms s).outcome ≡ wrote t →
    tells n h (commanding terms s) (wrote t) ≡ answer_tells n h (command_seen s) (meant_by a (reading a.profile s)).response.result
unfolding tells heard_tells
command_tells n a h o terms s t e = ap (heard_tells n h (command_seen s)) (modem_heard a terms s t o e)

-- a take of datagrams that is not refused takes the first, whole
taken_whole : (c : Chan) (buffer : ℕ) → is_stream c.carries ≡ false → at_once c Send ≤ buffer → min buffer (at_once c Send) ≡ first c.send.lengths
unfolding at_once queue
taken_whole c buffer e h = let w : min buffer (at_once c Send) ≡ at_once c Send = omega arith in w ∙ skip _ _ _ e

module _ (n : ChannelNumber) (from : 1 ≤ n.0) (a : State) (h : History) (o : Sound a) (f : Follows n a h) where
  -- the channel that a call names, where it is this one
  named : (m : ChannelNumber) → n ≡ m → Tells (chan a m) h
  named m e = subst (λ (x : ChannelNumber). Tells (chan a x) h) e f

  storing :
      (c : Command) (m : ChannelNumber) (s : List ℕ) → c.body ≡ send_data s → n ≡ m → Tells (appended (chan a m) Send s) (accepted_in h Send (data_of c.body))
  unfolding data_of
  storing c m s e q =
      subst (λ (t : List ℕ). Tells (appended (chan a m) Send s) (accepted_in h Send t)) (sym (ap data_of e)) (sent_told (chan a m) h (named m q) (chan_sound a m o) s)

  abbrev Told-by : Command → Reply → Type 0
  Told-by c r = Follows n r.state (answer_tells n h c r.result)

  own_follows : (c : Command) (b : Body) (i : Bool) → c.body ≡ b → Aimed c b → Told-by c (own a c b i)
  unfolding own answer_tells closes kind_of data_of carried_in to_modem member some_of chan listed with_timer
  own_follows c (bare t) i e u =
      telling_cases (λ (r : Result). Follows n a (answer_tells n h c r)) a t i f
      (subst (Follows n a) (sym (skip _ _ _ (ap closes e))) f)
  own_follows c (event_list es) i e u =
      listing_cases (Told-by c) a es i f
      (λ _. subst (Follows n (listed a es)) (sym (skip _ _ _ (ap closes e))) f)
  own_follows c (open_channel b size t) i e u =
      opening_cases (Told-by c) a (λ _ _. f) c.qualifier b size (protocol_of t) i f
      (λ m l g eₘ eₗ eᵍ x.
      let at = opened_place a m.0 o eₘ x.unused in
      let law = subst (Granted size (unpromised a)) (sym eᵍ) (grant_law size (unpromised a)) in
      let k = carried_by (protocol_of t) in
      changed n m a (fresh g l k) h (opened_with g l (carried_in c.body)) from o (numbered_of m at.0 at.1) f
      (λ _.
      subst (λ (j : Carries). Tells (fresh g l k) (opened_with g l j)) (sym (ap carried_in e)) (fresh_told g l k (law.some x.free x.asks))))
  own_follows c close_channel i e u =
      let m = channel_of c.destination in
      closing_cases (Told-by c) a (λ _ _. f) m i
      (λ _.
      subst (Follows n (with_chan a m closed)) (sym (stop _ _ _ (ap closes e)))
      (changed n m a closed h ended from o (u refl) f (λ _. closed_told)))
  own_follows c (receive_data r) i e u =
      let m = channel_of c.destination in
      receiving_cases (Told-by c) a (λ _ _. f) m r i
      (λ k eᵏ _.
      changed n m a (removed (chan a m) Receive k) h (out_in h Receive (take k (held (chan a m) Receive))) from o (u refl) f
      (λ q. handed_told (chan a m) h (named m q) (chan_sound a m o) k (omega arith)))
  own_follows c (send_data s) i e u =
      let m = channel_of c.destination in
      let b = bit1 c.qualifier in
      let k = accepted_in h Send (data_of c.body) in
      sending_cases (Told-by c) a (λ _ _. f) c.qualifier m s i
      (λ x eˣ _ _ fit place.
      changed n m a x h (b ⇒ readied_in k else k) from o (u refl) f
      (λ q.
      let joins = storing c m s e q in
      subst (λ (y : Chan). Tells y (b ⇒ readied_in k else k)) (sym eˣ)
      (either_told b _ _ _ _ (readied_told (appended (chan a m) Send s) k joins (sent_sound (chan a m) (chan_sound a m o) s fit place)) joins)))
  own_follows c (start_timer k v) i e u = starting_timer_cases (Told-by c) a k v i f (λ _ _ _. f)
  own_follows c (manage_timer k) i e u =
      managing_timer_cases (Told-by c) a c.qualifier k i f (λ _. f)
      (λ _ _ _ _ _. branch (λ (b : State). Follows n b h) (eqb (action_of c.qualifier) 1) _ _ (λ _. f) (λ _. f))

  abbrev Tells-of : Call → Answer → Type 0
  Tells-of c r = Follows n r.state (tells n h c r.outcome)

  abbrev Told-in : List ℕ → Meant → Type 0
  Told-in s m = Follows n m.state (answer_tells n h (command_seen s) m.response.result)

  meant_follows : (s : List ℕ) → Told-in s (meant_by a (reading a.profile s))
  unfolding command_seen meant_by answer_tells
  meant_follows s =
      reading_cases (λ (r : Reading). Told-in s (meant_by a r)) a.profile s (λ _ _. f) (λ _ _. f)
      (λ r i. own_follows (command_in (details_read (contents s)) (counted (contents s))) _ i refl (read_aimed a.profile (contents s) r))

  -- what is seen of any call tells the channel after it
  pub step_follows : (c : Call) → Tells-of c (step a c)
  unfolding step passing tells radio_tells chan with_timer
  step_follows (starting p) = start_follows n p
  step_follows (commanding terms s) =
      let m = meant_by a (reading a.profile s) in
      command_cases
      (λ (r : Answer). ((t : List ℕ) → r.outcome ≡ wrote t → tells n h (commanding terms s) (wrote t) ≡ answer_tells n h (command_seen s) m.response.result) → Tells-of (commanding terms s) r)
      a (λ _ _. f) terms s (λ _ _ hears. subst (Follows n m.state) (sym (hears _ refl)) (meant_follows s))
      (command_tells n a h o terms s)
  step_follows (radio buffer m (arrives s)) =
      arrival_cases (Tells-of (arriving buffer m s)) a (λ _. f) buffer m s
      (λ _ l _ _.
      changed n m a (arrived (chan a m) s) h (whole_in (accepted_in h Receive s) Receive s) from o l.number f
      (λ q. arrived_told (chan a m) h (named m q) (chan_sound a m o) s))
  step_follows (radio buffer m takes) =
      let k = min buffer (at_once (chan a m) Send) in
      taking_cases (Tells-of (taking_out buffer m)) a (λ _. f) buffer m
      (λ l enough.
      changed n m a (removed (chan a m) Send k) h (out_in h Send (take k (held (chan a m) Send))) from o l.number f
      (λ q. taken_told (chan a m) h (named m q) (chan_sound a m o) k (omega arith) (λ e. taken_whole (chan a m) buffer e (enough e))))
  step_follows (radio buffer m drops) =
      dropping_cases (Tells-of (dropping_link buffer m)) a (λ _. f) buffer m
      (λ _ l.
      changed n m a (dropped (chan a m)) h (dropped_in h) from o l.number f (λ q. dropped_told (chan a m) h (named m q) (chan_sound a m o)))
  step_follows (timing second) = f
  step_follows (timing (envelope buffer)) = enveloping_cases (Tells-of (timing (envelope buffer))) a (λ _. f) buffer (λ _ _ _ _. f)

follows_from :
    (n : ChannelNumber) (a : State) (h : History) (cs : List Call) → 1 ≤ n.0 → Sound a → Follows n a h →
    Follows n (after a cs) (history_from n h (seen_from a cs))
unfolding after history_from seen_from
follows_from n a h [] from o f = f
follows_from n a h (c ∷ cs) from o f =
    follows_from n (step a c).state (tells n h c (step a c).outcome) cs from (step_sound a c o) (step_follows n from a h o f c)

-- what was seen of a channel, from the start through any list of calls, tells the channel
pub follows : (n : ChannelNumber) (p : List ℕ) (cs : List Call) → 1 ≤ n.0 → Follows n (reached p cs) (told_of n p cs)
unfolding history
follows n p cs from = follows_from n (start p) ended cs from (start_sound p) (start_follows n p)
