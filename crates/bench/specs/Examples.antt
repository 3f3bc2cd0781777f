-- Lines of the bench, and what it prints.
use Rattle.std.specs.Prelude.{◌≡◌, refl, [], ◌∷◌, ◌++◌, map}
use Rattle.rules.specs.Lines.{is_digit, digit_value, with_byte, bytes_of, frame_of, digit_of, hex, zeros_before, decimal, printed}
use Rattle.rules.specs.Checks.{◌⇒◌else◌, is_empty, some_of, member, same}
use Rattle.rules.specs.Frames.{long_length, length_at, length_bytes, long_tag, tag_at, value_after, after_tag, object_at, onward, walk_up_to, walk, object_bytes, written, frame}
use Rattle.rules.specs.Table.{table, known}
use Rattle.rules.specs.Timers.{action_of, is_start, is_timer, swapped, unswapped, time_in, time_bytes, of_day, is_zero, is_time}
use Rattle.rules.specs.State.{is_dropped}
use Rattle.rules.specs.Reading.{kind_of, details_of, details_in, pair_in, bearer_in, transport_in, to_modem, addressed}
use Rattle.rules.specs.Written.{pair_bytes, details_bytes, bearer_bytes, status_bytes, status_object, status_objects, report_objects, timer_object, time_object, further_objects, result_bytes, result_objects, response_objects, response_bytes}
use Rattle.rules.specs.Bench.{bearer_proper, body_proper, transport_objects, body_objects, command_objects, bench_write, asks_left, error_proper, cause_proper, success_proper, rising, report_proper, further_proper, result_proper, proper, value_at, status_in, statuses_in, further_in, result_in, response_in, bench_read}
use Rattle.rules.specs.Numbers.{chars}
use Rattle.bench.specs.Printed.{digits_text, object_text, objects_behind, heard_line, opening_in, bare_body, body_for, command_for, record_in, record_line, reply_line, bench_line}

-- data, and none; a problem; statuses; a timer started, stopped and asked for, one that does not run, and what no answer of a timer is: 24 to a start, timer 9, no time left, 00 to value 3;
-- no response; OPEN CHANNEL, RECEIVE DATA, no such type, one that the bench does not write, a byte too many; a blank line
pub bench_prints :
    map (λ s. bench_line (chars s))
    ("8103014200820282818301023603414243370100" ∷
    "8103014200820282818301003600370102" ∷
    "81030140018202828183023A06" ∷
    "8103014400820282818301003802810038020305" ∷
    "810301270082028281830100240101" ∷
    "8103012701820282818301002401012503004095" ∷
    "81030127FE820282818301012401082503329595" ∷
    "810301270182028281830124" ∷
    "810301270082028281830124" ∷
    "810301270082028281830100240109" ∷
    "8103012702820282818301002401012503000000" ∷
    "8103012703820282818301002401012503004095" ∷
    "81" ∷
    "B00140018182030005DC021F90" ∷
    "B001420081210F" ∷
    "B00145008121" ∷
    "B00127008182" ∷
    "B0014100812100" ∷
    "" ∷
    []) ≡
    map (λ s. chars s ++ 10 ∷ [])
    ("014200 02 414243 00" ∷
    "014200 00 -- 02" ∷
    "014001 3A06" ∷
    "014400 00 8100 0305" ∷
    "012700 00 01" ∷
    "012701 00 01 000459" ∷
    "0127FE 01 08 235959" ∷
    "012701 24" ∷
    "R8" ∷
    "R8" ∷
    "R8" ∷
    "R8" ∷
    "R8" ∷
    "D015810301400182028182B50103B90205DC3C03021F90" ∷
    "D00C810301420082028121B7010F" ∷
    "R7" ∷
    "R7" ∷
    "R9" ∷
    "R9" ∷
    [])
unfolding is_digit digit_value with_byte bytes_of frame_of digit_of hex zeros_before decimal printed ◌⇒◌else◌ is_empty some_of member same long_length length_at length_bytes long_tag tag_at value_after after_tag object_at onward walk_up_to walk object_bytes written frame table known action_of is_start is_timer swapped unswapped time_in time_bytes of_day is_zero is_time is_dropped kind_of details_of details_in pair_in bearer_in transport_in to_modem addressed pair_bytes details_bytes bearer_bytes status_bytes status_object status_objects report_objects timer_object time_object further_objects result_bytes result_objects response_objects response_bytes bearer_proper body_proper transport_objects body_objects command_objects bench_write asks_left error_proper cause_proper success_proper rising report_proper further_proper result_proper proper value_at status_in statuses_in further_in result_in response_in bench_read chars digits_text object_text objects_behind heard_line opening_in bare_body body_for command_for record_in record_line reply_line bench_line
bench_prints = refl
