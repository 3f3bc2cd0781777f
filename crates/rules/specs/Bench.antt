-- "The bench": a record and its bytes, with R1 and R7; a response and its one form, with R8.
use Rattle.std.specs.Prelude.{ℕ, ◌-◌, Bool, true, false, not, ◌&&◌, ◌||◌, List, [], ◌∷◌, map, length, get_or, drop, ltb, leb, eqb}
use Rattle.std.proofs.Math.Option.{Option, none, some}
use Rattle.rules.specs.declared.Details.{Details}
use Rattle.rules.specs.declared.Link.TheVariants.{NotYet, Established, Dropped}
use Rattle.rules.specs.declared.Refusal.{Refusal}
use Rattle.rules.specs.declared.Refusal.TheVariants.{ShortBuffer, UnfitRecord, NoResponse}
use Rattle.rules.specs.Checks.{◌⇒◌else◌, is_empty, member, same}
use Rattle.rules.specs.Results.{performed, partly_understood, missing_information, modified, timer_contradiction, beyond_capabilities, type_not_understood, data_not_understood, values_missing, channel_problem, no_channel, channel_closed, channel_invalid, size_unavailable, level_unavailable, command_cap, data_cap, value_cap, count_cap}
use Rattle.rules.specs.Frames.{Object, walk, frame}
use Rattle.rules.specs.Table.{known}
use Rattle.rules.specs.Timers.{action_of, stop_action, ask_action, is_start, is_timer, time_in, is_time}
use Rattle.rules.specs.Pool.{grant_cap}
use Rattle.rules.specs.State.{is_dropped}
use Rattle.rules.specs.Reading.{Bearer, Transport, Body, Command, bare, event_list, open_channel, close_channel, receive_data, send_data, start_timer, manage_timer, kind_of, details_of, details_in, pair_in, bearer_in, addressed}
use Rattle.rules.specs.Own.{bare_types, Status, Report, Further, Result, statuses, nothing, opened, received, sent, started, leaves, reports, error, problem, done}
use Rattle.rules.specs.Written.{Response, flagged, unflagged, pair_bytes, details_bytes, bearer_bytes, response_bytes}
use Rattle.rules.specs.Command.{Outcome, wrote, refused}

-- bearer type 02 with 6 bytes, or 03 with none
unfoldable pub bearer_proper : Bearer → Bool
bearer_proper b =
    (eqb b.kind 0x02 && eqb (length b.parameters) 6) || (eqb b.kind 0x03 && is_empty b.parameters)

-- the values are such as the bench writes; it writes none of a timer
unfoldable pub body_proper : Body → Bool
body_proper (bare t) = member t bare_types
body_proper (event_list es) = leb (length es) value_cap
body_proper (open_channel b size t) = bearer_proper b
body_proper close_channel = true
body_proper (receive_data n) = true
body_proper (send_data s) = leb (length s) value_cap
body_proper (start_timer n v) = false
body_proper (manage_timer n) = false

-- a transport level as an object, flag clear, where there is one
unfoldable pub transport_objects : Option Transport → List Object
transport_objects none = []
transport_objects (some t) = unflagged 0x3C (t.protocol ∷ pair_bytes t.port) ∷ []

-- the objects of the values, in rising place of the table, flag set on required ones
unfoldable pub body_objects : Body → List Object
body_objects (bare t) = []
body_objects (event_list es) = flagged 0x19 es ∷ []
body_objects (open_channel b size t) = flagged 0x35 (bearer_bytes b) ∷ flagged 0x39 (pair_bytes size) ∷ transport_objects t
body_objects close_channel = []
body_objects (receive_data n) = flagged 0x37 (n ∷ []) ∷ []
body_objects (send_data s) = flagged 0x36 s ∷ []
body_objects (start_timer n v) = []
body_objects (manage_timer n) = []

-- 01, 02, and the objects of the values
unfoldable pub command_objects : Command → List Object
command_objects c =
    flagged 0x01 (details_bytes (details_of c)) ∷
    flagged 0x02 (c.source.0 ∷ c.destination.0 ∷ []) ∷
    body_objects c.body

-- the bench writer, with a buffer of so many bytes
unfoldable pub bench_write : ℕ → Command → Outcome
bench_write buffer c =
    ltb buffer command_cap ⇒ refused ShortBuffer else
    not (addressed (kind_of c.body) c.source c.destination) ⇒ refused UnfitRecord else
    not (body_proper c.body) ⇒ refused UnfitRecord else
    wrote (frame (command_objects c))

-- a timer is stopped or asked for
unfoldable pub asks_left : Details → Bool
asks_left d = eqb d.kind 0x27 && (eqb (action_of d.qualifier) stop_action || eqb (action_of d.qualifier) ask_action)

-- results by type: 24 for a timer stopped or asked for; 30 for the types of the table; 31 for others; 32 any; 36 for those of the table or zero details
unfoldable pub error_proper : Details → ℕ → Bool
error_proper d e =
    eqb e timer_contradiction ⇒ asks_left d else
    eqb e beyond_capabilities ⇒ known d.kind else
    eqb e type_not_understood ⇒ not (known d.kind) else
    eqb e data_not_understood ⇒ true else
    eqb e values_missing ⇒ known d.kind || same (details_bytes d) (0 ∷ 0 ∷ 0 ∷ []) else
    false

-- causes: 40 has 01, 04, 06; 41 and 42 have 03; 43 has 02, 03, 04
unfoldable pub cause_proper : ℕ → ℕ → Bool
cause_proper t cause =
    eqb t 0x40 ⇒ member cause (no_channel ∷ size_unavailable ∷ level_unavailable ∷ []) else
    eqb t 0x41 || eqb t 0x42 ⇒ eqb cause channel_invalid else
    eqb t 0x43 ⇒ member cause (channel_closed ∷ channel_invalid ∷ size_unavailable ∷ []) else
    false

-- 00 and 01 for the types of the table; 02 only for 42; 07 only for 40
unfoldable pub success_proper : ℕ → ℕ → Bool
success_proper t r =
    eqb r performed || eqb r partly_understood ⇒ known t else
    eqb r missing_information ⇒ eqb t 0x42 else
    eqb r modified ⇒ eqb t 0x40 else
    false

-- the statuses rise, above n and up to 7
unfoldable pub rising : ℕ → List Status → Bool
rising n [] = true
rising n (s ∷ ss) = ltb n s.number.0 && leb s.number.0 7 && rising s.number.0 ss

-- the types whose result nothing follows
abbrev pub unfollowed : List ℕ
unfollowed = 0x02 ∷ 0x05 ∷ 0x41 ∷ []

unfoldable pub report_proper : ℕ → Report → Bool
report_proper t (statuses ss) = eqb t 0x44 && rising 0 ss

-- what follows is that of the details: data up to 237, grant 1 to 1500, counts up to FF, timers 1 to 8 and times from one second up to 23:59:59
unfoldable pub further_proper : Details → Further → Bool
further_proper d nothing = member d.kind unfollowed
further_proper d (opened s b g) =
    eqb d.kind 0x40 && rising 0 (s ∷ []) && not (is_dropped s.link) && bearer_proper b && leb 1 g && leb g grant_cap
further_proper d (received s left) = eqb d.kind 0x42 && leb (length s) data_cap && leb left count_cap
further_proper d (sent room) = eqb d.kind 0x43 && leb room count_cap
further_proper d (started n) = is_start d && is_timer n
further_proper d (leaves n t) = asks_left d && is_timer n && is_time t
further_proper d (reports r) = report_proper d.kind r

unfoldable pub result_proper : Details → Result → Bool
result_proper d (error e) = error_proper d e
result_proper d (problem cause) = cause_proper d.kind cause
result_proper d (done r f) = success_proper d.kind r && further_proper d f

-- a response that the paper lists
unfoldable pub proper : Response → Bool
proper r = result_proper r.details r.result

-- the value of the object at a place
unfoldable pub value_at : List Object → ℕ → List ℕ
value_at os k = get_or (map (λ (o : Object). o.value) os) k []

-- a status from its two bytes
unfoldable pub status_in : List ℕ → Status
status_in v =
    let n = get_or v 0 0 in
    eqb (get_or v 1 0) 0x05 ⇒ record { number = record { 0 = n }; link = Dropped } else
    leb 0x80 n ⇒ record { number = record { 0 = n - 0x80 }; link = Established } else
    record { number = record { 0 = n }; link = NotYet }

-- the statuses of as many objects; 00 00 stands for none
unfoldable pub statuses_in : List Object → List Status
statuses_in os =
    same (value_at os 0) (0 ∷ 0 ∷ []) ⇒ [] else
    map (λ (o : Object). status_in o.value) os

-- what the objects after the result say, by the details
unfoldable pub further_in : Details → List Object → Further
further_in d os =
    let t = d.kind in
    let n = get_or (value_at os 0) 0 0 in
    eqb t 0x40 ⇒ opened (status_in (value_at os 0)) (bearer_in (value_at os 1)) (pair_in (value_at os 2)) else
    eqb t 0x42 ⇒ received (value_at os 0) (get_or (value_at os 1) 0 0) else
    eqb t 0x43 ⇒ sent n else
    eqb t 0x44 ⇒ reports (statuses (statuses_in os)) else
    is_start d ⇒ started n else
    eqb t 0x27 ⇒ leaves n (time_in (value_at os 1)) else
    nothing

-- what the result's bytes and the objects after it say
unfoldable pub result_in : Details → List ℕ → List Object → Result
result_in d v os =
    eqb (get_or v 0 0) channel_problem ⇒ problem (get_or v 1 0) else
    member (get_or v 0 0) (performed ∷ partly_understood ∷ missing_information ∷ modified ∷ []) ⇒ done (get_or v 0 0) (further_in d os) else
    error (get_or v 0 0)

-- the only response whose form the bytes can be
unfoldable pub response_in : List ℕ → Response
response_in s =
    let os = (walk s).objects in
    let d = details_in (value_at os 0) in
    record { details = d; result = result_in d (value_at os 2) (drop 3 os) }

-- a response, or R8
pub data Told : Type 0 where
  told : Response → Told
  untold : Refusal → Told

-- the bench reader: the bytes are exactly the form of a response that the paper lists
unfoldable pub bench_read : List ℕ → Told
bench_read s =
    let r = response_in s in
    proper r && same (response_bytes r) s ⇒ told r else
    untold NoResponse
