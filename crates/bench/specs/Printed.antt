-- What the bench prints for a line: what a response says, or the command of a record.
use Rattle.std.specs.Prelude.{ℕ, ◌+◌, ◌/◌, ◌%◌, List, [], ◌∷◌, ◌++◌, length, get_or, take, drop, ltb, eqb}
use Rattle.std.proofs.Math.Option.{Option, none, some}
use Rattle.rules.specs.declared.Refusal.TheVariants.{Unreadable}
use Rattle.rules.specs.Checks.{◌⇒◌else◌, is_empty}
use Rattle.rules.specs.Results.{command_cap}
use Rattle.rules.specs.Frames.{Object}
use Rattle.rules.specs.Reading.{Bearer, Body, Command, bare, event_list, open_channel, close_channel, receive_data, send_data, pair_in, transport_in}
use Rattle.rules.specs.Written.{flagged, details_bytes, result_bytes, result_objects}
use Rattle.rules.specs.Command.{wrote, refused}
use Rattle.rules.specs.Lines.{frame_of, printed}
use Rattle.rules.specs.Bench.{Told, told, untold, bench_read, bench_write}
use Rattle.text.specs.Prints.{line_of}

-- the most characters of a line, two for each byte of a frame, its details and the line feed; and of a command's line
abbrev pub room : ℕ
room = 3209

abbrev pub command_room : ℕ
command_room = 516

-- swapped digits in their order: of each byte the tens, then the units
unfoldable pub digits_text : List ℕ → List ℕ
digits_text [] = []
digits_text (b ∷ v) = (b % 16 + 48) ∷ (b / 16 + 48) ∷ digits_text v

-- the text of an object: the digits of a time, hours first; else the bytes of its value, "--" where there are none
unfoldable pub object_text : Object → List ℕ
object_text o = eqb o.number 0x25 ⇒ digits_text o.value else printed (wrote o.value)

-- what stands behind an object on its line: a blank and the next one, or the line feed
unfoldable pub objects_behind : List Object → List ℕ
objects_behind [] = 10 ∷ []
objects_behind (o ∷ os) = 32 ∷ object_text o ++ objects_behind os

-- what a response says: its details, its result with the cause, and what follows, object by object; or R8
unfoldable pub heard_line : Told → List ℕ
heard_line (told r) =
    object_text (flagged 0x01 (details_bytes r.details)) ++
    objects_behind (flagged 0x03 (result_bytes r.result) ∷ result_objects r.result)
heard_line (untold e) = line_of (refused e)

-- the values of an OPEN CHANNEL: bearer type, count of parameters, parameters, size in two bytes, and perhaps a transport level of three
unfoldable pub opening_in : List ℕ → Option Body
opening_in v =
    let count = get_or v 1 0 in
    let bearer : Bearer = record { kind = get_or v 0 0; parameters = take count (drop 2 v) } in
    let rest = drop (2 + count) v in
    eqb (length rest) 2 ⇒ some (open_channel bearer (pair_in rest) none) else
    eqb (length rest) 5 ⇒ some (open_channel bearer (pair_in rest) (some (transport_in (drop 2 rest)))) else
    none

-- the types that have no values
unfoldable pub bare_body : ℕ → Body
bare_body t = eqb t 0x41 ⇒ close_channel else bare t

-- the values of a type
unfoldable pub body_for : ℕ → List ℕ → Option Body
body_for t v =
    eqb t 0x05 ⇒ some (event_list v) else
    eqb t 0x40 ⇒ opening_in v else
    eqb t 0x42 ⇒ (eqb (length v) 1 ⇒ some (receive_data (get_or v 0 0)) else none) else
    eqb t 0x43 ⇒ some (send_data v) else
    is_empty v ⇒ some (bare_body t) else
    none

-- behind B0: number, type, qualifier, source, destination, and the values
unfoldable pub command_for : List ℕ → Option Body → Option Command
command_for s none = none
command_for s (some b) =
    some
    (record {
      number = get_or s 1 0;
      qualifier = get_or s 3 0;
      source = record { 0 = get_or s 4 0 };
      destination = record { 0 = get_or s 5 0 };
      body = b;
    })

unfoldable pub record_in : List ℕ → Option Command
record_in s = ltb (length s) 6 ⇒ none else command_for s (body_for (get_or s 2 0) (drop 6 s))

-- the command of a record, or R7; what is no record is R9
unfoldable pub record_line : Option Command → List ℕ
record_line none = line_of (refused Unreadable)
record_line (some c) = line_of (bench_write command_cap c)

-- 81 begins a response, B0 a record, all else is R9
unfoldable pub reply_line : Option (List ℕ) → List ℕ
reply_line none = line_of (refused Unreadable)
reply_line (some s) =
    eqb (get_or s 0 0) 0x81 ⇒ heard_line (bench_read s) else
    eqb (get_or s 0 0) 0xB0 ⇒ record_line (record_in s) else
    line_of (refused Unreadable)

-- what is printed for a line
unfoldable pub bench_line : List ℕ → List ℕ
bench_line l = reply_line (frame_of l)
