-- "Numbers to prove and to run": the twelve, as one table and one statement over it.
use Rattle.std.specs.Prelude.{ℕ, zero, suc, ◌+◌, ◌%◌, ◌≡◌, refl, List, [], ◌∷◌, ◌++◌, map, length}
use Prim.Native.Char.{code}
use Prim.Native.String.{String}
use Rattle.std.proofs.Math.Option.{Option, none, some}
use Rattle.rules.specs.declared.Refusal.TheVariants.{Unopened}
use Rattle.rules.specs.Checks.{◌⇒◌else◌, is_empty, every, some_of, occurrences, member, same}
use Rattle.rules.specs.Frames.{long_length, length_at, length_bytes, long_tag, tag_at, value_after, after_tag, object_at, onward, walk_up_to, walk, object_bytes, written, fills, following, framed, contents, frame}
use Rattle.rules.specs.Timers.{is_start}
use Rattle.rules.specs.Table.{table, known, row_among, row_of, times, sift, present, value_of, complete, bearer_fits, length_fits, measured}
use Rattle.rules.specs.Profile.{bit, kept, allows_type, allows_event, allows_bearer, channels}
use Rattle.rules.specs.Datagrams.{another, lessened}
use Rattle.rules.specs.State.{is_established, is_dropped, is_stream, establish, closed, is_open, start, chan, with_chan, queue, with_queue, room, due, at_once, joined, without, counting, marked, fresh, appended, whole, arrived, removed, unfinished, readied, dropped, places_used, crowded}
use Rattle.rules.specs.Reading.{kind_of, details_of, zeros, details_in, pair_in, bearer_in, transport_in, body_in, command_in, to_modem, addressed, is_fault, starts_with_details, read_objects, reading}
use Rattle.rules.specs.Own.{bit1, capped, plain, listed, listing, protocol_of, served, carried_by, open_before, opening, closing, receiving, sending, statuses_from, telling, own}
use Rattle.rules.specs.Pool.{cells, promised_to, promised, unpromised, grant_for}
use Rattle.rules.specs.Written.{pair_bytes, details_bytes, bearer_bytes, status_bytes, status_object, status_objects, report_objects, further_objects, result_bytes, result_objects, response_objects, response_bytes, event_bytes}
use Rattle.rules.specs.Command.{Outcome, wrote, refused, meant_by, lending, command}
use Rattle.rules.specs.Radio.{numbered, arrival_event, arrival, taking, drop_event, dropping}
use Rattle.rules.specs.Run.{Call, commanding, arriving, step, after}
use Rattle.rules.specs.Lines.{is_digit, digit_value, with_byte, bytes_of, frame_of, call_of, digit_of, hex, zeros_before, decimal, printed, call_in, perform, line_step, lines_from, profile_then, program}

-- a row: the calls before, from the start, the call, how it ends, and how many bytes it writes
pub record Number : Type 0 where
  pub before : List Call
  pub call : Call
  pub ends : Outcome
  pub size : ℕ

row : List Call → Call → Outcome → ℕ → Number
row b c e s = record { before = b; call = c; ends = e; size = s }

-- a text's characters, and the bytes that its hexadecimal digits stand for
unfoldable pub chars : String → List ℕ
chars String.[] = []
chars (String.◌∷◌ c s) = code c ∷ chars s

or_none : Option (List ℕ) → List ℕ
or_none none = []
or_none (some s) = s

bytes : String → List ℕ
bytes s = or_none (bytes_of (chars s))

-- the profile of the listing: the seven types, both events, bearer 02, four channels
profile : List ℕ
profile = bytes "00000800010C00000000001F82"

-- the listing's OPEN CHANNEL, for 1500 bytes, and its event list
open_line : Call
open_line = commanding (lending 255) (bytes "D015810301400182028182350103390205DC3C03021F90")

event_line : Call
event_line = commanding (lending 255) (bytes "D00C810301050082028182190109")

-- bytes for a channel
arrive_line : ℕ → List ℕ → Call
arrive_line n s = arriving 16 (record { 0 = n }) s

-- RECEIVE DATA on channel 1
receive_line : ℕ → Call
receive_line n = commanding (lending 255) (bytes "D00C8103014200820281213701" ++ (n ∷ []))

-- k bytes, no two neighbours alike, counted from n
pattern : ℕ → ℕ → List ℕ
pattern zero n = []
pattern (suc k) n = (n % 251) ∷ pattern k (n + 1)

-- so many bytes are held for channel 1
holding : ℕ → List Call
holding k = open_line ∷ arrive_line 1 (pattern k 0) ∷ []

-- the answer to a RECEIVE DATA that hands out 237 bytes
full : ℕ → ℕ → Outcome
full result left =
    wrote (bytes "8103014200820282818301" ++ (result ∷ []) ++ bytes "3681ED" ++ pattern 237 0 ++ bytes "3701" ++ (left ∷ []))

answer : String → Outcome
answer s = wrote (bytes s)

-- (1) to (5) are the listing's answers, in turn; each row stands under its number
pub numbers : List Number
numbers =
    row [] open_line (answer "81030140018202828183010038028100350103390205DC") 23 ∷
    row (open_line ∷ []) event_line (answer "810301050082028281830100") 12 ∷
    row (open_line ∷ event_line ∷ []) (arrive_line 1 (bytes "414243")) (answer "D60E1901098202828138028100370103") 16 ∷
    row (open_line ∷ event_line ∷ arrive_line 1 (bytes "414243") ∷ []) (receive_line 5) (answer "8103014200820282818301023603414243370100") 20 ∷
    row (open_line ∷ event_line ∷ arrive_line 1 (bytes "414243") ∷ receive_line 5 ∷ []) (arrive_line 2 (bytes "00")) (refused Unopened) 0 ∷
    -- (6) the third OPEN of 1500 with four channels allowed: 07, grant 1088; (7) the fourth: 3A 04
    row (open_line ∷ open_line ∷ []) open_line (answer "8103014001820282818301073802830035010339020440") 23 ∷
    row (open_line ∷ open_line ∷ open_line ∷ []) open_line (answer "81030140018202828183023A04") 13 ∷
    -- (8) request 255, held 300: 237 out, 02, 3F left; (9) held 492, request 237: FF left; (10) held 493: FF left
    row (holding 300) (receive_line 255) (full 0x02 0x3F) 255 ∷
    row (holding 492) (receive_line 237) (full 0x00 0xFF) 255 ∷
    row (holding 493) (receive_line 237) (full 0x00 0xFF) 255 ∷
    -- (11) MORE TIME with 05: 01; (12) with 85 for 05: 32
    row [] (commanding (lending 255) (bytes "D00C810301020082028182050141")) (answer "810301020082028281830101") 12 ∷
    row [] (commanding (lending 255) (bytes "D00C810301020082028182850141")) (answer "810301020082028281830132") 12 ∷
    []

-- how a row's call ends, in a session that starts from the listing's profile
pub end_of : Number → Outcome
end_of r = (step (after (start profile) r.before) r.call).outcome

-- how many bytes an outcome has
pub size_of : Outcome → ℕ
size_of (wrote s) = length s
size_of (refused r) = 0

-- the twelve numbers: every row's call ends as the row says, with as many bytes
pub twelve :
    (map end_of numbers ≡ map (λ (r : Number). r.ends) numbers) ×
    (map (λ (r : Number). size_of (end_of r)) numbers ≡ map (λ (r : Number). r.size) numbers)
unfolding row chars or_none bytes profile open_line event_line arrive_line receive_line pattern holding full answer numbers end_of size_of ◌⇒◌else◌ is_empty every some_of occurrences member same long_length length_at length_bytes long_tag tag_at value_after after_tag object_at onward walk_up_to walk object_bytes written fills following framed contents frame table known row_among is_start row_of times sift present value_of complete bearer_fits length_fits measured bit kept allows_type allows_event allows_bearer channels is_established is_dropped establish closed is_open start chan with_chan queue with_queue is_stream room due at_once joined without counting marked fresh appended whole arrived removed unfinished readied dropped places_used crowded another lessened served carried_by kind_of details_of zeros details_in pair_in bearer_in transport_in body_in command_in to_modem addressed is_fault starts_with_details read_objects reading bit1 capped plain listed listing protocol_of open_before opening closing receiving sending statuses_from telling own cells promised_to promised unpromised grant_for pair_bytes details_bytes bearer_bytes status_bytes status_object status_objects report_objects further_objects result_bytes result_objects response_objects response_bytes event_bytes meant_by command numbered arrival_event arrival taking drop_event dropping step after is_digit digit_value with_byte bytes_of
twelve = (refl, refl)

-- the listing, through the whole line program: its lines in, its lines out
pub listing_in : List String
listing_in =
    "00000800010C00000000001F82" ∷
    "D015810301400182028182350103390205DC3C03021F90" ∷
    "D00C810301050082028182190109" ∷
    "A001414243" ∷
    "D00C810301420082028121370105" ∷
    "A00200" ∷
    []

pub listing_out : List String
listing_out =
    "81030140018202828183010038028100350103390205DC" ∷
    "810301050082028281830100" ∷
    "D60E1901098202828138028100370103" ∷
    "8103014200820282818301023603414243370100" ∷
    "R4" ∷
    []

pub listing_printed : program (map chars listing_in) ≡ map chars listing_out
unfolding listing_in listing_out chars ◌⇒◌else◌ is_empty every some_of occurrences member same long_length length_at length_bytes long_tag tag_at value_after after_tag object_at onward walk_up_to walk object_bytes written fills following framed contents frame table known row_among is_start row_of times sift present value_of complete bearer_fits length_fits measured bit kept allows_type allows_event allows_bearer channels is_established is_dropped establish closed is_open start chan with_chan queue with_queue is_stream room due at_once joined without counting marked fresh appended whole arrived removed unfinished readied dropped places_used crowded another lessened served carried_by kind_of details_of zeros details_in pair_in bearer_in transport_in body_in command_in to_modem addressed is_fault starts_with_details read_objects reading bit1 capped plain listed listing protocol_of open_before opening closing receiving sending statuses_from telling own cells promised_to promised unpromised grant_for pair_bytes details_bytes bearer_bytes status_bytes status_object status_objects report_objects further_objects result_bytes result_objects response_objects response_bytes event_bytes meant_by command numbered arrival_event arrival taking drop_event dropping step after is_digit digit_value with_byte bytes_of frame_of call_of digit_of hex zeros_before decimal printed call_in perform line_step lines_from profile_then program
listing_printed = refl

-- a script: the lines that go in, and the lines that come out
pub record Script : Type 0 where
  pub given : List String
  pub prints : List String

script : List String → List String → Script
script i o = record { given = i; prints = o }

-- the edges of lines, rows, lengths and the profile, each as a script of its own
pub edges : List Script
edges =
    -- an event list in small digits; OPEN CHANNEL with all that may stand, a wrong length of 1E, and a third 04; CLOSE, RECEIVE and SEND with 05 and 1E; takes at the cap and past it, lines that are no call, a drop; each character beside a digit; each kind of fault; D0 alone
    script
    ("00000800010C00000000001F82" ∷ "d00d8103010500820281821902090a" ∷ "D0338103014001820281820501411E020001350103390200203C03021F9047014104020102040203040D01040D01053E01213E0122" ∷ "D0158103014001820281821E0300010035010339020020" ∷ "D01C81030140018202818235010339020020040201020402030404020506" ∷ "D0108103014100820281220501411E020001" ∷ "D0138103014200820281210501411E020001370100" ∷ "D0138103014301820281210501411E020001360141" ∷ "A10105DC" ∷ "A10105DD" ∷ "A101DC" ∷ "A0" ∷ "A301" ∷ "a201" ∷ "A20/" ∷ "A20:" ∷ "A20@" ∷ "A20G" ∷ "A20`" ∷ "A20g" ∷ "A2/1" ∷ "D00B8103010200820281820000" ∷ "D00B8103010200820281820582" ∷ "D00C810301020082028182050241" ∷ "D0" ∷ "A2" ∷ [])
    ("810301050082028281830100" ∷ "8103014001820282818301003802810035010339020020" ∷ "810301400182028281830132" ∷ "8103014001820282818301013802820035010339020020" ∷ "810301410082028281830100" ∷ "8103014200820282818301003600370100" ∷ "81030143018202828183010037011F" ∷ "41" ∷ "R9" ∷ "R9" ∷ "R9" ∷ "R9" ∷ "D60B19010A8202828138020105" ∷ "R9" ∷ "R9" ∷ "R9" ∷ "R9" ∷ "R9" ∷ "R9" ∷ "R9" ∷ "810301020082028281830132" ∷ "810301020082028281830132" ∷ "810301020082028281830132" ∷ "810300000082028281830132" ∷ "R9" ∷ []) ∷
    -- a profile without 05
    script
    ("000008000004" ∷ "D00C810301050082028182190109" ∷ "D009810301020082028182" ∷ [])
    ("810301050082028281830130" ∷ "810301020082028281830100" ∷ []) ∷
    -- a profile with 05 and event 09 alone
    script
    ("000008000104" ∷ "D00C810301050082028182190109" ∷ "D00C81030105008202818219010A" ∷ [])
    ("810301050082028281830100" ∷ "810301050082028281830130" ∷ []) ∷
    -- datagrams: 3C with 03 and with 01; arrivals with and without bytes; RECEIVE of the front of one, past its end, of nothing, and of the next; SEND that begins, joins, ends, ends nothing; takes of none, into too short a buffer, and whole; a seventeenth each way, and bytes that join
    script
    ("00000800010C00000000001F82" ∷ "D00C810301050082028182190109" ∷ "D015810301400182028182350103390200203C03031F90" ∷ "D015810301400182028182350103390200203C03011F90" ∷ "A001010203" ∷ "A001" ∷ "A0010405" ∷ "D00C810301420082028121370102" ∷ "D00C810301420082028121370109" ∷ "D00C810301420082028121370100" ∷ "D00C810301420082028121370109" ∷ "D00D81030143008202812136020A0B" ∷ "A1010010" ∷ "D00C81030143008202812136010C" ∷ "D00C81030143018202812136010D" ∷ "D00B8103014301820281213600" ∷ "D00C81030143018202812136010E" ∷ "A1010003" ∷ "A1010010" ∷ "A1010001" ∷ "A1010000" ∷ "A00100" ∷ "A00101" ∷ "A00102" ∷ "A00103" ∷ "A00104" ∷ "A00105" ∷ "A00106" ∷ "A00107" ∷ "A00108" ∷ "A00109" ∷ "A0010A" ∷ "A0010B" ∷ "A0010C" ∷ "A0010D" ∷ "A0010E" ∷ "A0010F" ∷ "A00110" ∷ "A001" ∷ "A0010000000000000000000000000000000000" ∷ "D00C810301420082028121370101" ∷ "A00111" ∷ "D00C810301430182028121360100" ∷ "D00C810301430182028121360101" ∷ "D00C810301430182028121360102" ∷ "D00C810301430182028121360103" ∷ "D00C810301430182028121360104" ∷ "D00C810301430182028121360105" ∷ "D00C810301430182028121360106" ∷ "D00C810301430182028121360107" ∷ "D00C810301430182028121360108" ∷ "D00C810301430182028121360109" ∷ "D00C81030143018202812136010A" ∷ "D00C81030143018202812136010B" ∷ "D00C81030143018202812136010C" ∷ "D00C81030143018202812136010D" ∷ "D00C81030143018202812136010E" ∷ "D00C810301430082028121360140" ∷ "D00C810301430082028121360141" ∷ "D00B8103014301820281213600" ∷ "D00C810301430082028121360142" ∷ "D00B8103014301820281213600" ∷ [])
    ("810301050082028281830100" ∷ "81030140018202828183023A06" ∷ "8103014001820282818301003802810035010339020020" ∷ "D60E1901098202828138028100370103" ∷ "--" ∷ "--" ∷ "81030142008202828183010036020102370103" ∷ "810301420082028281830102360103370102" ∷ "8103014200820282818301003600370102" ∷ "81030142008202828183010236020405370100" ∷ "81030143008202828183010037011E" ∷ "--" ∷ "81030143008202828183010037011D" ∷ "81030143018202828183010037011C" ∷ "81030143018202828183010037011C" ∷ "81030143018202828183010037011B" ∷ "R12" ∷ "0A0B0C0D" ∷ "0E" ∷ "--" ∷ "D60E1901098202828138028100370101" ∷ "--" ∷ "--" ∷ "--" ∷ "--" ∷ "--" ∷ "--" ∷ "--" ∷ "--" ∷ "--" ∷ "--" ∷ "--" ∷ "--" ∷ "--" ∷ "--" ∷ "--" ∷ "R11" ∷ "--" ∷ "R6" ∷ "81030142008202828183010036010037010F" ∷ "--" ∷ "81030143018202828183010037011F" ∷ "81030143018202828183010037011E" ∷ "81030143018202828183010037011D" ∷ "81030143018202828183010037011C" ∷ "81030143018202828183010037011B" ∷ "81030143018202828183010037011A" ∷ "810301430182028281830100370119" ∷ "810301430182028281830100370118" ∷ "810301430182028281830100370117" ∷ "810301430182028281830100370116" ∷ "810301430182028281830100370115" ∷ "810301430182028281830100370114" ∷ "810301430182028281830100370113" ∷ "810301430182028281830100370112" ∷ "810301430182028281830100370111" ∷ "810301430082028281830100370110" ∷ "81030143008202828183010037010F" ∷ "81030143018202828183010037010F" ∷ "81030143008202828183023A04" ∷ "81030143018202828183010037010F" ∷ []) ∷
    -- tags of three bytes: both, the first without its flag; a second 02 without and with it; 32767 so; 0; 127 and 256; a tag cut behind two bytes and behind one; 258, which is not 02; a first one that is cut; FF
    script
    ("000008" ∷ "D00D7F8001030102007F8002028182" ∷ "D00B7F00010301020082028182" ∷ "D00F8103010200820281827F0002028182" ∷ "D00F8103010200820281827F8002028182" ∷ "D00D8103010200820281827F7FFF00" ∷ "D00D8103010200820281827FFFFF00" ∷ "D00D8103010200820281827F000000" ∷ "D00D8103010200820281827F007F00" ∷ "D00D8103010200820281827F010000" ∷ "D00B8103010200820281827F00" ∷ "D00A8103010200820281827F" ∷ "D00B81030102007F0102028182" ∷ "D0027F80" ∷ "D00BFF80010301020082028182" ∷ [])
    ("810301020082028281830100" ∷ "810301020082028281830100" ∷ "810301020082028281830101" ∷ "810301020082028281830132" ∷ "810301020082028281830101" ∷ "810301020082028281830132" ∷ "810301020082028281830132" ∷ "810301020082028281830101" ∷ "810301020082028281830101" ∷ "810301020082028281830132" ∷ "810301020082028281830132" ∷ "810301020082028281830136" ∷ "810300000082028281830132" ∷ "810300000082028281830132" ∷ []) ∷
    []

-- every script prints what it must
pub edges_printed : map (λ (s : Script). program (map chars s.given)) edges ≡ map (λ (s : Script). map chars s.prints) edges
unfolding script edges chars ◌⇒◌else◌ is_empty every some_of occurrences member same long_length length_at length_bytes long_tag tag_at value_after after_tag object_at onward walk_up_to walk object_bytes written fills following framed contents frame table known row_among is_start row_of times sift present value_of complete bearer_fits length_fits measured bit kept allows_type allows_event allows_bearer channels is_established is_dropped establish closed is_open start chan with_chan queue with_queue is_stream room due at_once joined without counting marked fresh appended whole arrived removed unfinished readied dropped places_used crowded another lessened served carried_by kind_of details_of zeros details_in pair_in bearer_in transport_in body_in command_in to_modem addressed is_fault starts_with_details read_objects reading bit1 capped plain listed listing protocol_of open_before opening closing receiving sending statuses_from telling own cells promised_to promised unpromised grant_for pair_bytes details_bytes bearer_bytes status_bytes status_object status_objects report_objects further_objects result_bytes result_objects response_objects response_bytes event_bytes meant_by command numbered arrival_event arrival taking drop_event dropping step after is_digit digit_value with_byte bytes_of frame_of call_of digit_of hex zeros_before decimal printed call_in perform line_step lines_from profile_then program
edges_printed = refl
