-- "Order of checks on a command", step 9: the own checks, what each command does to the state, and the results 00, 01, 02, 07.
use Rattle.std.specs.Prelude.{ℕ, zero, suc, ◌+◌, ◌%◌, min, ◌≡◌, refl, Bool, true, false, not, ◌||◌, List, [], ◌∷◌, map, length, take, ltb, eqb}
use Rattle.std.proofs.Math.Option.{Option, none, some}
use Rattle.rules.specs.declared.Carries.{Carries}
use Rattle.rules.specs.declared.Carries.TheVariants.{Stream, Datagrams}
use Rattle.rules.specs.declared.ChannelNumber.{ChannelNumber}
use Rattle.rules.specs.declared.Link.{Link}
use Rattle.rules.specs.declared.Link.TheVariants.{NotYet, Established}
use Rattle.rules.specs.declared.Time.{Time}
use Rattle.rules.specs.declared.Way.TheVariants.{Receive, Send}
use Rattle.rules.specs.Checks.{◌⇒◌else◌, every, member}
use Rattle.rules.specs.Results.{performed, partly_understood, missing_information, modified, timer_contradiction, beyond_capabilities, data_not_understood, no_channel, channel_closed, channel_invalid, size_unavailable, level_unavailable, data_cap, count_cap}
use Rattle.rules.specs.Words.{channel_of}
use Rattle.rules.specs.Timers.{Timer, idle, running, waiting, action_of, stop_action, no_action, is_timer, is_digits, time_in, of_day, is_zero}
use Rattle.rules.specs.Profile.{allows_event, allows_bearer, channels}
use Rattle.rules.specs.State.{State, Chan, closed, is_dropped, is_open, chan, with_chan, timer, with_timer, held, room, at_once, fresh, appended, removed, readied, crowded}
use Rattle.rules.specs.Pool.{unpromised, grant_for}
use Rattle.rules.specs.Reading.{Bearer, Transport, Body, Command, bare, event_list, open_channel, close_channel, receive_data, send_data, start_timer, manage_timer}

-- a channel's number and its link, as a status tells them
pub record Status : Type 0 where
  pub number : ChannelNumber
  pub link : Link

-- what is told and changes nothing
pub data Report : Type 0 where
  statuses : List Status → Report

-- what follows a result 00, 01, 02 or 07
pub data Further : Type 0 where
  nothing : Further
  opened : Status → Bearer → ℕ → Further
  received : List ℕ → ℕ → Further
  sent : ℕ → Further
  started : ℕ → Further
  leaves : ℕ → Time → Further
  reports : Report → Further

-- a result: an error 24, 30, 31, 32 or 36; a problem, 3A, with its cause; or done, with what follows
pub data Result : Type 0 where
  error : ℕ → Result
  problem : ℕ → Result
  done : ℕ → Further → Result

-- the state after a command, and its result
pub record Reply : Type 0 where
  pub state : State
  pub result : Result

abbrev pub reply : State → Result → Reply
reply a r = record { state = a; result = r }

-- bit 1 of the qualifier
unfoldable pub bit1 : ℕ → Bool
bit1 q = eqb (q % 2) 1

pub bit1_of : map bit1 (0 ∷ 1 ∷ 2 ∷ 3 ∷ 4 ∷ []) ≡ false ∷ true ∷ false ∷ true ∷ false ∷ []
unfolding bit1
bit1_of = refl

-- counts are told up to FF
unfoldable pub capped : ℕ → ℕ
capped n = min n count_cap

-- 01 if an unexpected object was ignored, else 00
unfoldable pub plain : Bool → ℕ
plain ignored = ignored ⇒ partly_understood else performed

-- the state with another event list
unfoldable pub listed : State → List ℕ → State
listed a es =
    record { profile = a.profile; events = record { available = member 0x09 es; status = member 0x0A es }; chans = a.chans; timers = a.timers }

-- 05: each value is 09 or 0A and allowed, or the list stays; it replaces the old one
unfoldable pub listing : State → List ℕ → Bool → Reply
listing a es ignored =
    not (every (allows_event a.profile) es) ⇒ reply a (error beyond_capabilities) else
    reply (listed a es) (done (plain ignored) nothing)

-- the protocol of a channel: that of its transport level, or TCP, 02, where none stands
unfoldable pub protocol_of : Option Transport → ℕ
protocol_of none = 0x02
protocol_of (some t) = t.protocol

-- the protocols that are served, and what a channel carries by its own: datagrams by UDP, 01, a stream by TCP, 02
unfoldable pub served : ℕ → Bool
served protocol = eqb protocol 0x01 || eqb protocol 0x02

unfoldable pub carried_by : ℕ → Carries
carried_by protocol = eqb protocol 0x01 ⇒ Datagrams else Stream

-- how many channels, of the first n, stand open before the first that does not; n where none is unused
unfoldable pub open_before : ℕ → List Chan → ℕ
open_before zero cs = 0
open_before (suc n) [] = 0
open_before (suc n) (c ∷ cs) = let k = open_before n cs in is_open c ⇒ suc k else 0

-- 40: the lowest unused number is opened; 07 if it grants less than asked
unfoldable pub opening : State → ℕ → Bearer → ℕ → ℕ → Bool → Reply
opening a q b size protocol ignored =
    let n = channels a.profile in
    let k = open_before n a.chans in
    let g = grant_for size (unpromised a) in
    let number : ChannelNumber = record { 0 = k + 1 } in
    let link = bit1 q ⇒ Established else NotYet in
    not (allows_bearer a.profile b.kind) ⇒ reply a (error beyond_capabilities) else
    not (served protocol) ⇒ reply a (problem level_unavailable) else
    eqb size 0 ⇒ reply a (problem size_unavailable) else
    eqb k n ⇒ reply a (problem no_channel) else
    ltb (unpromised a) 2 ⇒ reply a (problem size_unavailable) else
    reply (with_chan a number (fresh g link (carried_by protocol)))
    (done (ltb g size ⇒ modified else plain ignored) (opened (record { number = number; link = link }) b g))

-- 41: the channel ends, held bytes are discarded
unfoldable pub closing : State → ChannelNumber → Bool → Reply
closing a n ignored =
    not (is_open (chan a n)) ⇒ reply a (problem channel_invalid) else
    reply (with_chan a n closed) (done (plain ignored) nothing)

-- 42: hands out the least of the request, what may be handed out at once and 237; 02 if fewer than asked
unfoldable pub receiving : State → ChannelNumber → ℕ → Bool → Reply
receiving a n request ignored =
    let c = chan a n in
    let k = min request (min (at_once c Receive) data_cap) in
    let after = removed c Receive k in
    not (is_open c) ⇒ reply a (problem channel_invalid) else
    reply (with_chan a n after)
    (done (ltb k request ⇒ missing_information else plain ignored) (received (take k (held c Receive)) (capped (length (held after Receive)))))

-- 43: stores; with qualifier bit 1 set all bytes held are ready and the link is established
unfoldable pub sending : State → ℕ → ChannelNumber → List ℕ → Bool → Reply
sending a q n s ignored =
    let c = chan a n in
    let joins = appended c Send s in
    let after = bit1 q ⇒ readied joins else joins in
    not (is_open c) ⇒ reply a (problem channel_invalid) else
    is_dropped c.link ⇒ reply a (problem channel_closed) else
    ltb (room c Send) (length s) ⇒ reply a (problem size_unavailable) else
    crowded c Send s ⇒ reply a (problem size_unavailable) else
    reply (with_chan a n after) (done (plain ignored) (sent (capped (room after Send))))

-- a status for each open channel, rising; numbers are counted from n
unfoldable pub statuses_from : ℕ → List Chan → List Status
statuses_from n [] = []
statuses_from n (c ∷ cs) =
    let rest = statuses_from (n + 1) cs in
    is_open c ⇒ record { number = record { 0 = n }; link = c.link } ∷ rest else rest

-- 27, a start: the timer is 1 to 8, its time has sound digits, is one of a day and not zero; it runs with that time, whatever it did
unfoldable pub starting_timer : State → ℕ → List ℕ → Bool → Reply
starting_timer a n v ignored =
    let t = time_in v in
    not (is_timer n) ⇒ reply a (error data_not_understood) else
    not (every is_digits v) ⇒ reply a (error data_not_understood) else
    not (of_day t) ⇒ reply a (error data_not_understood) else
    is_zero t ⇒ reply a (error data_not_understood) else
    reply (with_timer a n (running t t)) (done (plain ignored) (started n))

-- the time left is told of a timer that runs; a stop ends it, an ask leaves it
unfoldable pub tells_left : State → ℕ → ℕ → Bool → Timer → Reply
tells_left a q n ignored idle = reply a (error timer_contradiction)
tells_left a q n ignored (running left from) =
    reply (eqb (action_of q) stop_action ⇒ with_timer a n idle else a) (done (plain ignored) (leaves n left))
tells_left a q n ignored (waiting from) = reply a (error timer_contradiction)

-- 27, a stop or an ask: value 3 is neither
unfoldable pub managing_timer : State → ℕ → ℕ → Bool → Reply
managing_timer a q n ignored =
    eqb (action_of q) no_action ⇒ reply a (error data_not_understood) else
    not (is_timer n) ⇒ reply a (error data_not_understood) else
    tells_left a q n ignored (timer a n)

-- the types that change nothing and have no values
abbrev pub bare_types : List ℕ
bare_types = 0x02 ∷ 0x44 ∷ []

-- 44 tells the statuses, 02 tells nothing
unfoldable pub telling : State → ℕ → Bool → Result
telling a t ignored =
    eqb t 0x44 ⇒ done (plain ignored) (reports (statuses (statuses_from 1 a.chans))) else
    done (plain ignored) nothing

-- the own checks and the change of state, a line for each command
unfoldable pub own : State → Command → Body → Bool → Reply
own a c (bare t) ignored = reply a (telling a t ignored)
own a c (event_list es) ignored = listing a es ignored
own a c (open_channel b size t) ignored = opening a c.qualifier b size (protocol_of t) ignored
own a c close_channel ignored = closing a (channel_of c.destination) ignored
own a c (receive_data n) ignored = receiving a (channel_of c.destination) n ignored
own a c (send_data s) ignored = sending a c.qualifier (channel_of c.destination) s ignored
own a c (start_timer n v) ignored = starting_timer a n v ignored
own a c (manage_timer n) ignored = managing_timer a c.qualifier n ignored
