-- What a call answers and what it leaves: what is refused or not done changes nothing, and the counts told are the channel's.
-- Assumes nothing.
use Prim.Native.Nat.{ℕ, ◌≤◌, ◌<◌}
use mathlib.Core.Path.{◌≡◌, refl, sym, ap, subst, ◌∙◌}
use mathlib.Core.Bool.{Bool, true, false, not, true≢false}
use mathlib.Core.List.{List}
use lib.ListN.{length}
use borrow.Author.Tests.{le-ltb, ltb-true, ltb-false}
use Rattle.rules.specs.declared.ChannelNumber.{ChannelNumber}
use Rattle.rules.specs.declared.Refusal.{Refusal}
use Rattle.rules.specs.declared.Refusal.TheVariants.{Overfull, NoPlace}
use Rattle.rules.specs.Words.{channel_of}
use Rattle.rules.specs.declared.Way.TheVariants.{Receive, Send}
use Rattle.rules.specs.State.{State, Chan, is_open, is_dropped, chan, with_chan, room, held, arrived, removed, crowded}
use Rattle.rules.specs.Reading.{Reading, wrong, asked, reading, Command, Body, bare, event_list, open_channel, close_channel, receive_data, send_data, start_timer, manage_timer}
use Rattle.rules.specs.Own.{Reply, reply, Result, Further, nothing, opened, received, sent, started, leaves, error, problem, done, capped, sending, own, protocol_of, reports}
use Rattle.rules.specs.Command.{Answer, Meant, answered, refusal, Outcome, wrote, refused, command, meant_by, Terms}
use Rattle.rules.specs.Radio.{arrival, arrival_event}
use Rattle.rules.specs.Run.{Call, step}
use Rattle.rules.specs.History.{command_seen}
use Rattle.rules.specs.Demands.{accepted, is_done}
use Rattle.rules.proofs.Laws.{branch, skip}
use Rattle.rules.proofs.Cases.{Linked, command_cases, listing_cases, opening_cases, closing_cases, receiving_cases, sending_cases, starting_timer_cases, managing_timer_cases, telling_cases}
use Rattle.rules.proofs.Readings.{reading_cases}
use Rattle.rules.proofs.Refusals.{refusal_stays}
use Rattle.rules.proofs.Told.{open_changed}

-- an arrival on an established link, and a SEND DATA on a link that was not dropped: the room is left to test, and then the place
pub arrival_last :
    (Q : Answer → Type 0) (a : State) (buffer : ℕ) (n : ChannelNumber) (s : List ℕ) → 16 ≤ buffer → Linked a n →
    (room (chan a n) Receive < length s → Q (refusal a Overfull)) →
    (length s ≤ room (chan a n) Receive → crowded (chan a n) Receive s ≡ true → Q (refusal a NoPlace)) →
    (length s ≤ room (chan a n) Receive → crowded (chan a n) Receive s ≡ false → Q (answered (with_chan a n (arrived (chan a n) s)) (arrival_event a n s))) →
    Q (arrival a buffer n s)
unfolding arrival
arrival_last Q a buffer n s b l f p g =
    subst Q
    (sym
    (skip _ _ _ (le-ltb buffer 16 b) ∙ skip _ _ _ (ap not l.number) ∙ skip _ _ _ (ap not l.stands) ∙ skip _ _ _ (ap not l.link)))
    (branch Q _ _ _ (λ e. f (ltb-true _ _ e)) (λ e. branch Q _ _ _ (p (ltb-false _ _ e)) (g (ltb-false _ _ e))))

pub sending_last :
    (Q : Result → Type 0) (a : State) (q : ℕ) (n : ChannelNumber) (s : List ℕ) (i : Bool) → is_open (chan a n) ≡ true → is_dropped (chan a n).link ≡ false →
    (room (chan a n) Send < length s → Q (problem 0x04)) →
    (length s ≤ room (chan a n) Send → crowded (chan a n) Send s ≡ true → Q (problem 0x04)) →
    (length s ≤ room (chan a n) Send → crowded (chan a n) Send s ≡ false → (x : ℕ) (f : Further) → Q (done x f)) →
    Q (sending a q n s i).result
unfolding sending
sending_last Q a q n s i o d f p g =
    subst (λ (r : Reply). Q r.result) (sym (skip _ _ _ (ap not o) ∙ skip _ _ _ d))
    (branch (λ (r : Reply). Q r.result) _ _ _ (λ e. f (ltb-true _ _ e)) (λ e. branch (λ (r : Reply). Q r.result) _ _ _ (p (ltb-false _ _ e)) (λ q. g (ltb-false _ _ e) q _ _)))

refused_stays : (a : State) (r : Answer) → accepted r.outcome ≡ false → ((why : Refusal) → r.outcome ≡ refused why → r.state ≡ a) → r.state ≡ a
unfolding accepted
refused_stays a r e f = by_outcome r.outcome refl e
  where
    by_outcome : (u : Outcome) → r.outcome ≡ u → accepted u ≡ false → r.state ≡ a
    by_outcome (wrote s) q e = absurd (true≢false e)
    by_outcome (refused why) q e = f why q

-- a call that is not accepted changes nothing
pub unaccepted_stays : (a : State) (c : Call) → accepted (step a c).outcome ≡ false → (step a c).state ≡ a
unaccepted_stays a c e = refused_stays a (step a c) e (refusal_stays a c)

abbrev Undone-stays : State → Reply → Type 0
Undone-stays a r = is_done r.result ≡ false → r.state ≡ a

own_undone : (a : State) (c : Command) (b : Body) (i : Bool) → Undone-stays a (own a c b i)
unfolding own is_done
own_undone a c (bare t) i = λ _. refl
own_undone a c (event_list es) i = listing_cases (Undone-stays a) a es i (λ _. refl) (λ _ e. absurd (true≢false e))
own_undone a c (open_channel b size t) i =
    opening_cases (Undone-stays a) a (λ _ _ _. refl) c.qualifier b size (protocol_of t) i (λ _. refl) (λ _ _ _ _ _ _ _ e. absurd (true≢false e))
own_undone a c close_channel i = closing_cases (Undone-stays a) a (λ _ _ _. refl) (channel_of c.destination) i (λ _ e. absurd (true≢false e))
own_undone a c (receive_data r) i =
    receiving_cases (Undone-stays a) a (λ _ _ _. refl) (channel_of c.destination) r i (λ _ _ _ e. absurd (true≢false e))
own_undone a c (send_data s) i =
    sending_cases (Undone-stays a) a (λ _ _ _. refl) c.qualifier (channel_of c.destination) s i (λ _ _ _ _ _ _ e. absurd (true≢false e))
own_undone a c (start_timer n v) i = starting_timer_cases (Undone-stays a) a n v i (λ _. refl) (λ _ _ _ e. absurd (true≢false e))
own_undone a c (manage_timer n) i = managing_timer_cases (Undone-stays a) a c.qualifier n i (λ _. refl) (λ _ _. refl) (λ _ _ _ _ _ e. absurd (true≢false e))

-- a command that is not done changes nothing
pub undone_stays : (a : State) (r : Reading) → is_done (meant_by a r).response.result ≡ false → (meant_by a r).state ≡ a
unfolding meant_by
undone_stays a (wrong d e) = λ _. refl
undone_stays a (asked c i) = own_undone a c c.body i

-- what a command does, as its own checks say
abbrev pub replied : Meant → Reply
replied m = reply m.state m.response.result

pub meant_own :
    (a : State) (r : Reading) (c : Command) (i : Bool) (b : Body) → r ≡ asked c i → c.body ≡ b → replied (meant_by a r) ≡ own a c b i
unfolding meant_by
meant_own a r c i b e eᵇ = ap (λ (q : Reading). replied (meant_by a q)) e ∙ ap (λ (x : Body). own a c x i) eᵇ

-- the command that bytes say is the one that was read
pub seen_read : (p s : List ℕ) (c : Command) (i : Bool) → reading p s ≡ asked c i → command_seen s ≡ c
unfolding command_seen
seen_read p s c i =
    reading_cases (λ (r : Reading). r ≡ asked c i → command_seen s ≡ c) p s (λ _ _ e. cc) (λ _ _ e. cc) (λ _ _ e. cc)

-- the state after a command that was not refused
pub commanded_state : (a : State) (terms : Terms) (s t : List ℕ) → (command a terms s).outcome ≡ wrote t → (command a terms s).state ≡ (meant_by a (reading a.profile s)).state
commanded_state a terms s t =
    command_cases (λ (r : Answer). r.outcome ≡ wrote t → r.state ≡ (meant_by a (reading a.profile s)).state) a (λ _ e. cc) terms s (λ _ _ _. refl)

-- a count that is told is the channel's
abbrev pub Counts : Chan → Result → Type 0
Counts c (error e) = Unit {0}
Counts c (problem cause) = Unit {0}
Counts c (done x nothing) = Unit {0}
Counts c (done x (opened s b g)) = Unit {0}
Counts c (done x (received d left)) = left ≡ capped (length (held c Receive))
Counts c (done x (sent space)) = space ≡ capped (room c Send)
Counts c (done x (started n)) = Unit {0}
Counts c (done x (leaves n t)) = Unit {0}
Counts c (done x (reports r)) = Unit {0}

abbrev Counted : ChannelNumber → Reply → Type 0
Counted n r = Counts (chan r.state n) r.result

own_counts : (a : State) (c : Command) (b : Body) (i : Bool) → Counted (channel_of c.destination) (own a c b i)
unfolding own
own_counts a c (bare t) i = telling_cases (Counts (chan a (channel_of c.destination))) a t i tt tt
own_counts a c (event_list es) i = listing_cases (Counted (channel_of c.destination)) a es i tt (λ _. tt)
own_counts a c (open_channel b size t) i =
    opening_cases (Counted (channel_of c.destination)) a (λ _ _. tt) c.qualifier b size (protocol_of t) i tt (λ _ _ _ _ _ _ _. tt)
own_counts a c close_channel i = closing_cases (Counted (channel_of c.destination)) a (λ _ _. tt) (channel_of c.destination) i (λ _. tt)
own_counts a c (receive_data r) i =
    let n = channel_of c.destination in
    receiving_cases (Counted n) a (λ _ _. tt) n r i
    (λ k _ o. ap (λ (x : Chan). capped (length (held x Receive))) (sym (open_changed a n (removed (chan a n) Receive k) o)))
own_counts a c (send_data s) i =
    let n = channel_of c.destination in
    sending_cases (Counted n) a (λ _ _. tt) c.qualifier n s i
    (λ x _ o _ _ _. ap (λ (y : Chan). capped (room y Send)) (sym (open_changed a n x o)))
own_counts a c (start_timer n v) i = starting_timer_cases (Counted (channel_of c.destination)) a n v i tt (λ _ _ _. tt)
own_counts a c (manage_timer n) i = managing_timer_cases (Counted (channel_of c.destination)) a c.qualifier n i tt (λ _. tt) (λ _ _ _ _ _. tt)

pub meant_counts :
    (a : State) (r : Reading) (c : Command) (i : Bool) (n : ChannelNumber) → r ≡ asked c i → channel_of c.destination ≡ n →
    Counts (chan (meant_by a r).state n) (meant_by a r).response.result
unfolding meant_by
meant_counts a r c i n e eⁿ =
    subst (λ (q : Reading). Counts (chan (meant_by a q).state n) (meant_by a q).response.result) (sym e)
    (subst (λ (m : ChannelNumber). Counted m (own a c c.body i)) eⁿ (own_counts a c c.body i))
