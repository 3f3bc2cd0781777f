-- At each bound of what the bench reads: responses within it, which are read, and past it, which are not; and the bytes of a record that it writes.
-- Assumes nothing.
use Prim.Native.Nat.{ℕ}
use mathlib.Core.Path.{◌≡◌, refl}
use mathlib.Core.Bool.{Bool, true, false}
use mathlib.Core.List.{List, [], ◌∷◌, ◌++◌, map}
use mathlib.Core.Option.{none, some}
use lib.ListN.{replicate}
use Rattle.rules.specs.declared.Link.{Link}
use Rattle.rules.specs.declared.Link.TheVariants.{NotYet, Established, Dropped}
use Rattle.rules.specs.Checks.{◌⇒◌else◌, is_empty, some_of, member, same}
use Rattle.rules.specs.Frames.{long_length, length_at, length_bytes, long_tag, tag_at, value_after, after_tag, object_at, onward, walk_up_to, walk, object_bytes, written, frame}
use Rattle.rules.specs.Table.{table, known}
use Rattle.rules.specs.State.{is_dropped}
use Rattle.rules.specs.Reading.{Command, Body, Bearer, bare, event_list, open_channel, close_channel, receive_data, send_data, kind_of, details_of, details_in, pair_in, bearer_in, to_modem, addressed, zeros}
use Rattle.rules.specs.Own.{Status, Result, opened, received, sent, statuses, error, problem, done, nothing, reports}
use Rattle.rules.specs.Written.{Response, pair_bytes, details_bytes, bearer_bytes, status_bytes, status_object, status_objects, report_objects, further_objects, result_bytes, result_objects, response_objects, response_bytes}
use Rattle.rules.specs.Command.{wrote}
use Rattle.rules.specs.Demands.{accepted}
use Rattle.rules.specs.Bench.{bearer_proper, body_proper, transport_objects, body_objects, command_objects, bench_write, error_proper, cause_proper, success_proper, rising, report_proper, further_proper, result_proper, proper, value_at, status_in, statuses_in, further_in, result_in, response_in, Told, told, untold, bench_read, asks_left}
use Rattle.rules.specs.Timers.{is_start}

-- a row: a response, and whether the bench reads its bytes
pub record Row : Type 0 where
  pub response : Response
  pub read : Bool

abbrev row : ℕ → Result → Bool → Row
row t x b = record { response = record { details = record { number = 1; kind = t; qualifier = 0 }; result = x }; read = b }

-- the answers to OPEN CHANNEL, to RECEIVE DATA and to GET CHANNEL STATUS
abbrev status : ℕ → Link → Status
status n l = record { number = record { 0 = n }; link = l }

abbrev open_row : Status → Bearer → ℕ → Bool → Row
open_row s b g = row 0x40 (done 0x00 (opened s b g))

abbrev bearer : ℕ → ℕ → Bearer
bearer t n = record { kind = t; parameters = replicate n 0 }

abbrev data_row : ℕ → Bool → Row
data_row n = row 0x42 (done 0x00 (received (replicate n 0) 0))

abbrev status_row : List Status → Bool → Row
status_row ss = row 0x44 (done 0x00 (reports (statuses ss)))

-- within each bound, and past it
pub bounds : List Row
bounds =
    -- grant 1 to 1500
    open_row (status 1 NotYet) (bearer 0x03 0) 0 false ∷
    open_row (status 1 NotYet) (bearer 0x03 0) 1 true ∷
    open_row (status 1 NotYet) (bearer 0x03 0) 1500 true ∷
    open_row (status 1 NotYet) (bearer 0x03 0) 1501 false ∷
    -- in 40 the second status byte is 00, and the bearer has type 02 with 6 bytes or 03 with none
    open_row (status 1 Dropped) (bearer 0x03 0) 1 false ∷
    open_row (status 7 Established) (bearer 0x02 6) 1 true ∷
    open_row (status 7 Established) (bearer 0x02 5) 1 false ∷
    open_row (status 7 Established) (bearer 0x03 1) 1 false ∷
    open_row (status 7 Established) (bearer 0x04 0) 1 false ∷
    -- data up to 237
    data_row 0 true ∷
    data_row 237 true ∷
    data_row 238 false ∷
    -- counts up to FF
    row 0x42 (done 0x00 (received [] 255)) true ∷
    row 0x42 (done 0x00 (received [] 256)) false ∷
    row 0x43 (done 0x00 (sent 255)) true ∷
    row 0x43 (done 0x00 (sent 256)) false ∷
    -- one to seven rising statuses or 00 00, 05 never with 80
    status_row [] true ∷
    status_row (status 7 Dropped ∷ []) true ∷
    status_row (status 8 Dropped ∷ []) false ∷
    status_row (status 0x81 Dropped ∷ []) false ∷
    status_row (status 1 NotYet ∷ status 2 Established ∷ []) true ∷
    status_row (status 2 NotYet ∷ status 1 Established ∷ []) false ∷
    status_row (status 1 NotYet ∷ status 1 Established ∷ []) false ∷
    -- 30 for the seven, 31 for others, 32 any, 36 for the seven or zero details
    row 0x44 (error 0x30) true ∷
    row 0x45 (error 0x30) false ∷
    row 0x44 (error 0x31) false ∷
    row 0x45 (error 0x31) true ∷
    row 0x45 (error 0x32) true ∷
    row 0x44 (error 0x36) true ∷
    row 0x45 (error 0x36) false ∷
    record { response = record { details = zeros; result = error 0x36 }; read = true } ∷
    -- 00 and 01 for the seven, 02 only for 42, 07 only for 40
    row 0x02 (done 0x01 nothing) true ∷
    row 0x02 (done 0x02 nothing) false ∷
    row 0x02 (done 0x07 nothing) false ∷
    row 0x42 (done 0x02 (received [] 0)) true ∷
    row 0x40 (done 0x07 (opened (status 1 NotYet) (bearer 0x03 0) 1)) true ∷
    row 0x44 (done 0x00 nothing) false ∷
    -- 40 has the causes 01, 04, 06; 41 and 42 have 03; 43 has 02, 03, 04
    row 0x02 (problem 0x01) false ∷
    row 0x40 (problem 0x06) true ∷
    row 0x40 (problem 0x03) false ∷
    row 0x41 (problem 0x03) true ∷
    row 0x42 (problem 0x02) false ∷
    row 0x43 (problem 0x02) true ∷
    row 0x43 (problem 0x01) false ∷
    row 0x44 (problem 0x03) false ∷
    []

-- the bytes are a response
pub heard : Told → Bool
heard (told r) = true
heard (untold r) = false

-- the bench reads the responses within each bound, and none past it
pub bounds_heard : map (λ (r : Row). heard (bench_read (response_bytes r.response))) bounds ≡ map (λ (r : Row). r.read) bounds
unfolding bounds heard ◌⇒◌else◌ is_empty some_of member same long_length length_at length_bytes long_tag tag_at value_after after_tag object_at onward walk_up_to walk object_bytes written table known is_dropped details_in pair_in bearer_in zeros pair_bytes details_bytes bearer_bytes status_bytes status_object status_objects report_objects further_objects result_bytes result_objects response_objects response_bytes bearer_proper error_proper cause_proper success_proper rising report_proper asks_left is_start further_proper result_proper proper value_at status_in statuses_in further_in result_in response_in bench_read
bounds_heard = refl

-- OPEN CHANNEL for 1500 bytes over TCP
pub opens : Command
opens =
    record {
      number = 1;
      qualifier = 1;
      source = record { 0 = 0x81 };
      destination = record { 0 = 0x82 };
      body = open_channel (bearer 0x03 0) 1500 (some (record { protocol = 0x02; port = 0x1F90 }));
    }

-- it is written 01 02 35 39 3C, flag set on required ones, clear on 3C
pub open_written :
    bench_write 256 opens ≡
    wrote (0xD0 ∷ 0x15 ∷ 0x81 ∷ 0x03 ∷ 0x01 ∷ 0x40 ∷ 0x01 ∷ 0x82 ∷ 0x02 ∷ 0x81 ∷ 0x82 ∷ 0xB5 ∷ 0x01 ∷ 0x03 ∷ 0xB9 ∷ 0x02 ∷ 0x05 ∷ 0xDC ∷ 0x3C ∷ 0x03 ∷ 0x02 ∷ 0x1F ∷ 0x90 ∷ [])
unfolding opens ◌⇒◌else◌ is_empty some_of member length_bytes object_bytes written frame kind_of details_of to_modem addressed pair_bytes details_bytes bearer_bytes bearer_proper body_proper transport_objects body_objects command_objects bench_write
open_written = refl

-- a record of the values b to a destination
abbrev record_to : ℕ → Body → Command
record_to to b =
    record { number = 1; qualifier = 0; source = record { 0 = 0x81 }; destination = record { 0 = to }; body = b }

-- a record of each type is written; a list or data of 242 bytes, another destination, and values of no type are not
pub records_written :
    map (λ (c : Command). accepted (bench_write 256 c))
    (record_to 0x82 (bare 0x02) ∷ record_to 0x82 (event_list (replicate 241 0)) ∷ record_to 0x82 (open_channel (bearer 0x02 6) 0 none) ∷ record_to 0x21 close_channel ∷
    record_to 0x27 (receive_data 0) ∷ record_to 0x21 (send_data (replicate 241 0)) ∷ record_to 0x82 (bare 0x44) ∷
    record_to 0x82 (event_list (replicate 242 0)) ∷ record_to 0x21 (send_data (replicate 242 0)) ∷ record_to 0x82 (open_channel (bearer 0x03 1) 0 none) ∷
    record_to 0x28 close_channel ∷ record_to 0x20 (receive_data 0) ∷ record_to 0x21 (bare 0x02) ∷ record_to 0x21 (bare 0x41) ∷ []) ≡
    replicate 7 true ++ replicate 7 false
unfolding accepted ◌⇒◌else◌ is_empty some_of member length_bytes object_bytes written frame kind_of details_of to_modem addressed pair_bytes details_bytes bearer_bytes bearer_proper body_proper transport_objects body_objects command_objects bench_write
records_written = refl
