-- "Bytes the modem writes": a response, the two events, and the envelope of a timer.
use Rattle.std.specs.Prelude.{ℕ, ◌+◌, ◌/◌, ◌%◌, true, false, List, [], ◌∷◌, ◌++◌, map, length}
use Rattle.rules.specs.declared.ChannelNumber.{ChannelNumber}
use Rattle.rules.specs.declared.Details.{Details}
use Rattle.rules.specs.declared.Link.{Link}
use Rattle.rules.specs.declared.Link.TheVariants.{NotYet, Established, Dropped}
use Rattle.rules.specs.declared.Time.{Time}
use Rattle.rules.specs.Results.{channel_problem}
use Rattle.rules.specs.Timers.{time_bytes}
use Rattle.rules.specs.Frames.{Object, written, length_bytes}
use Rattle.rules.specs.Reading.{Bearer}
use Rattle.rules.specs.Own.{Status, Report, Further, Result, statuses, nothing, opened, received, sent, started, leaves, reports, error, problem, done}

-- an object with the flag set, and one with the flag clear
abbrev pub flagged : ℕ → List ℕ → Object
flagged n v = record { number = n; flag = true; value = v }

abbrev pub unflagged : ℕ → List ℕ → Object
unflagged n v = record { number = n; flag = false; value = v }

-- two bytes, high byte first
unfoldable pub pair_bytes : ℕ → List ℕ
pair_bytes n = (n / 256) ∷ (n % 256) ∷ []

unfoldable pub details_bytes : Details → List ℕ
details_bytes d = d.number ∷ d.kind ∷ d.qualifier ∷ []

unfoldable pub bearer_bytes : Bearer → List ℕ
bearer_bytes b = b.kind ∷ b.parameters

-- the number, plus 80 if established, then 05 if dropped, else 00
unfoldable pub status_bytes : ChannelNumber → Link → List ℕ
status_bytes n NotYet = n.0 ∷ 0x00 ∷ []
status_bytes n Established = (n.0 + 0x80) ∷ 0x00 ∷ []
status_bytes n Dropped = n.0 ∷ 0x05 ∷ []

unfoldable pub status_object : ChannelNumber → Link → Object
status_object n l = unflagged 0x38 (status_bytes n l)

-- a status for each open channel; none open: 00 00
unfoldable pub status_objects : List Status → List Object
status_objects [] = unflagged 0x38 (0x00 ∷ 0x00 ∷ []) ∷ []
status_objects (s ∷ ss) = map (λ (t : Status). status_object t.number t.link) (s ∷ ss)

unfoldable pub report_objects : Report → List Object
report_objects (statuses ss) = status_objects ss

-- a timer, object 24, and a time, object 25
unfoldable pub timer_object : ℕ → Object
timer_object n = unflagged 0x24 (n ∷ [])

unfoldable pub time_object : Time → Object
time_object t = unflagged 0x25 (time_bytes t)

-- what follows 00, 01, 02 or 07
unfoldable pub further_objects : Further → List Object
further_objects nothing = []
further_objects (opened s b g) =
    status_object s.number s.link ∷ unflagged 0x35 (bearer_bytes b) ∷ unflagged 0x39 (pair_bytes g) ∷ []
further_objects (received s left) = unflagged 0x36 s ∷ unflagged 0x37 (left ∷ []) ∷ []
further_objects (sent room) = unflagged 0x37 (room ∷ []) ∷ []
further_objects (started n) = timer_object n ∷ []
further_objects (leaves n t) = timer_object n ∷ time_object t ∷ []
further_objects (reports r) = report_objects r

-- the result's own bytes: 3A has its cause
unfoldable pub result_bytes : Result → List ℕ
result_bytes (error e) = e ∷ []
result_bytes (problem cause) = channel_problem ∷ cause ∷ []
result_bytes (done r f) = r ∷ []

unfoldable pub result_objects : Result → List Object
result_objects (error e) = []
result_objects (problem cause) = []
result_objects (done r f) = further_objects f

-- a response: the details of the command and its result
pub record Response : Type 0 where
  pub details : Details
  pub result : Result

-- 81 03 details, 82 02 82 81, 83 01 result, and what follows
unfoldable pub response_objects : Response → List Object
response_objects r =
    flagged 0x01 (details_bytes r.details) ∷
    flagged 0x02 (0x82 ∷ 0x81 ∷ []) ∷
    flagged 0x03 (result_bytes r.result) ∷
    result_objects r.result

unfoldable pub response_bytes : Response → List ℕ
response_bytes r = written (response_objects r)

-- an event is D6, a length, and its objects
unfoldable pub event_bytes : ℕ → List Object → List ℕ
event_bytes event os =
    let s = written (unflagged 0x19 (event ∷ []) ∷ flagged 0x02 (0x82 ∷ 0x81 ∷ []) ∷ os) in
    0xD6 ∷ length_bytes (length s) ++ s

-- the envelope of a timer that came to zero: D7, a length, the devices, the timer, and the time that it was started with
unfoldable pub envelope_bytes : ℕ → Time → List ℕ
envelope_bytes n t =
    let s = written (flagged 0x02 (0x82 ∷ 0x81 ∷ []) ∷ timer_object n ∷ time_object t ∷ []) in
    0xD7 ∷ length_bytes (length s) ++ s
