-- M-110 says something: two runs that differ in the data of channel 1, and whose RECEIVE DATA and take hand out other bytes.
-- Assumes nothing.
use Prim.Native.Nat.{ℕ}
use mathlib.Core.Path.{◌≡◌, refl}
use mathlib.Core.List.{List, [], ◌∷◌}
use lib.ListN.{take, drop}
use Rattle.rules.specs.declared.ChannelNumber.{ChannelNumber}
use Rattle.rules.specs.Checks.{same, ◌⇒◌else◌, is_empty, every, some_of, occurrences, member}
use Rattle.rules.specs.Frames.{long_length, length_at, length_bytes, long_tag, tag_at, value_after, after_tag, object_at, walk, fills, following, framed, contents, onward, walk_up_to, object_bytes, written}
use Rattle.rules.specs.Table.{table, row_among, row_of, times, sift, present, value_of, complete, length_fits, measured, known, bearer_fits}
use Rattle.rules.specs.Profile.{allows_type, allows_event, allows_bearer, channels, bit, kept}
use Rattle.rules.specs.Reading.{kind_of, details_of, details_in, body_in, command_in, to_modem, addressed, is_fault, starts_with_details, read_objects, reading, zeros, pair_in, bearer_in, transport_in}
use Rattle.rules.specs.Datagrams.{another, lessened}
use Rattle.rules.specs.State.{closed, is_open, is_stream, is_established, is_dropped, establish, start, chan, with_chan, queue, with_queue, room, due, at_once, joined, without, counting, marked, fresh, appended, whole, arrived, removed, unfinished, readied, dropped, places_used, crowded}
use Rattle.rules.specs.Pool.{cells, promised_to, promised, unpromised, grant_for}
use Rattle.rules.specs.Own.{telling, open_before, statuses_from, capped, bit1, plain, listed, listing, opening, closing, receiving, sending, own, protocol_of, carried_by, served}
use Rattle.rules.specs.Written.{report_objects, status_object, event_bytes, response_bytes, pair_bytes, details_bytes, bearer_bytes, status_bytes, status_objects, further_objects, result_bytes, result_objects, response_objects}
use Rattle.rules.specs.Command.{Outcome, lending, wrote, meant_by, command}
use Rattle.rules.specs.Radio.{numbered, arrival_event, arrival, taking, drop_event, dropping}
use Rattle.rules.specs.Run.{Call, commanding, arriving, taking_out, step, outcomes, run}
use Rattle.rules.specs.Acts.{Act, calls, bursts}
use Rattle.rules.specs.Fetch.{length_to_come, lacking_by, stage_by, stage, one_more, taken_at, goes_on, burst, fetch}
use Rattle.rules.specs.Separation.{outer_head, does, LikeAct, LikeTaken, LikeActs, or_on, first_up_to, framing, OtherData, LikeCall, LikeCalls}
use Rattle.rules.specs.Timers.{is_start}

abbrev one : ChannelNumber
one = record { 0 = 1 }

abbrev two : ChannelNumber
two = record { 0 = 2 }

-- a command of this type and qualifier to a device, with these objects behind the devices
abbrev asking : ℕ → ℕ → ℕ → List ℕ → List ℕ
asking kind qualifier to os = 0x81 ∷ 0x03 ∷ 0x01 ∷ kind ∷ qualifier ∷ 0x82 ∷ 0x02 ∷ 0x81 ∷ to ∷ os

abbrev asks : ℕ → ℕ → ℕ → List ℕ → Call
asks kind qualifier to os = commanding (lending 255) (framing (asking kind qualifier to os))

-- an OPEN CHANNEL of 1500 bytes, and the objects of a SEND DATA of two bytes to channel 1
abbrev opens : Call
opens = asks 0x40 0x01 0x82 (0x35 ∷ 0x01 ∷ 0x03 ∷ 0x39 ∷ 0x02 ∷ 0x05 ∷ 0xDC ∷ [])

abbrev send_bytes : List ℕ → List ℕ
send_bytes v = asking 0x43 0x01 0x21 (0x36 ∷ 0x02 ∷ v)

-- event 09 is listed, channels 1 and 2 are opened, bytes are sent to both, those to 2 are taken, bytes arrive on 1, the statuses are asked;
-- then two of the bytes that arrived on 1 are received, and those sent to it are taken
abbrev calls_with : List ℕ → List ℕ → List Call
calls_with v s =
    asks 0x05 0x00 0x82 (0x19 ∷ 0x01 ∷ 0x09 ∷ []) ∷
    opens ∷
    opens ∷
    commanding (lending 255) (framing (send_bytes v)) ∷
    asks 0x43 0x01 0x22 (0x36 ∷ 0x01 ∷ 0x55 ∷ []) ∷
    taking_out 9 two ∷
    arriving 16 one s ∷
    asks 0x44 0x00 0x82 [] ∷
    asks 0x42 0x00 0x21 (0x37 ∷ 0x01 ∷ 0x02 ∷ []) ∷
    taking_out 9 one ∷
    []

-- with other bytes in the SEND DATA and in the arrival
abbrev first_run : List Call
first_run = calls_with (0x41 ∷ 0x42 ∷ []) (0x01 ∷ 0x02 ∷ 0x03 ∷ [])

abbrev second_run : List Call
second_run = calls_with (0x43 ∷ 0x44 ∷ []) (0x04 ∷ 0x05 ∷ 0x06 ∷ [])

sent_other : OtherData one (framing (send_bytes (0x41 ∷ 0x42 ∷ []))) (framing (send_bytes (0x43 ∷ 0x44 ∷ [])))
unfolding ◌⇒◌else◌ long_length length_at length_bytes long_tag tag_at value_after after_tag object_at onward walk_up_to walk following contents value_of details_in first_up_to or_on
sent_other =
    record {
      front = 0x81 ∷ 0x03 ∷ 0x01 ∷ 0x43 ∷ 0x01 ∷ 0x82 ∷ 0x02 ∷ 0x81 ∷ 0x21 ∷ 0x36 ∷ 0x02 ∷ [];
      value = 0x41 ∷ 0x42 ∷ [];
      other = 0x43 ∷ 0x44 ∷ [];
      behind = [];
      stands = refl;
      replaced = refl;
      long = refl;
      found = refl;
      sends = record { typed = refl; to = refl };
    }

-- one that is told 32, from a wrong source, with an object that must be understood and a fault behind its data, is judged by its walk alike
abbrev wrong_bytes : ℕ → ℕ → List ℕ
wrong_bytes x y = 0x81 ∷ 0x03 ∷ 0x01 ∷ 0x43 ∷ 0x01 ∷ 0x82 ∷ 0x02 ∷ 0x82 ∷ 0x21 ∷ 0x36 ∷ 0x02 ∷ x ∷ y ∷ 0xFC ∷ 0x00 ∷ 0x00 ∷ []

pub wrong_other : OtherData one (framing (wrong_bytes 0x41 0x42)) (framing (wrong_bytes 0x43 0x44))
unfolding ◌⇒◌else◌ long_length length_at length_bytes long_tag tag_at value_after after_tag object_at onward walk_up_to walk following contents value_of details_in first_up_to or_on
wrong_other =
    record {
      front = 0x81 ∷ 0x03 ∷ 0x01 ∷ 0x43 ∷ 0x01 ∷ 0x82 ∷ 0x02 ∷ 0x82 ∷ 0x21 ∷ 0x36 ∷ 0x02 ∷ [];
      value = 0x41 ∷ 0x42 ∷ [];
      other = 0x43 ∷ 0x44 ∷ [];
      behind = 0xFC ∷ 0x00 ∷ 0x00 ∷ [];
      stands = refl;
      replaced = refl;
      long = refl;
      found = refl;
      sends = record { typed = refl; to = refl };
    }

-- the premise is met
pub alike : LikeCalls one first_run second_run
alike =
    LikeCalls.more _ _ _ _ (LikeCall.equal _)
    (LikeCalls.more _ _ _ _ (LikeCall.equal _)
    (LikeCalls.more _ _ _ _ (LikeCall.equal _)
    (LikeCalls.more _ _ _ _ (LikeCall.sends (lending 255) _ _ sent_other)
    (LikeCalls.more _ _ _ _ (LikeCall.equal _)
    (LikeCalls.more _ _ _ _ (LikeCall.equal _)
    (LikeCalls.more _ _ _ _ (LikeCall.arrives 16 (0x01 ∷ 0x02 ∷ 0x03 ∷ []) (0x04 ∷ 0x05 ∷ 0x06 ∷ []) refl)
    (LikeCalls.more _ _ _ _ (LikeCall.equal _)
    (LikeCalls.more _ _ _ _ (LikeCall.equal _) (LikeCalls.more _ _ _ _ (LikeCall.equal _) LikeCalls.ends)))))))))

-- the profile of the listing of document 01
pub profile_of : List ℕ
profile_of = 0x00 ∷ 0x00 ∷ 0x08 ∷ 0x00 ∷ 0x01 ∷ 0x0C ∷ 0x00 ∷ 0x00 ∷ 0x00 ∷ 0x00 ∷ 0x00 ∷ 0x1F ∷ 0x82 ∷ []

-- an answer to RECEIVE DATA with two bytes, one left
abbrev handed : ℕ → ℕ → Outcome
handed x y = wrote (0x81 ∷ 0x03 ∷ 0x01 ∷ 0x42 ∷ 0x00 ∷ 0x82 ∷ 0x02 ∷ 0x82 ∷ 0x81 ∷ 0x83 ∷ 0x01 ∷ 0x00 ∷ 0x36 ∷ 0x02 ∷ x ∷ y ∷ 0x37 ∷ 0x01 ∷ 0x01 ∷ [])

-- the bytes handed out are others, both ways; all else is the same
pub differ :
    (drop 8 (run profile_of first_run) ≡ handed 0x01 0x02 ∷ wrote (0x41 ∷ 0x42 ∷ []) ∷ []) ×
    (drop 8 (run profile_of second_run) ≡ handed 0x04 0x05 ∷ wrote (0x43 ∷ 0x44 ∷ []) ∷ []) ×
    (take 8 (run profile_of first_run) ≡ take 8 (run profile_of second_run))
unfolding profile_of ◌⇒◌else◌ is_empty every some_of occurrences member long_length length_at length_bytes long_tag tag_at value_after after_tag object_at onward walk_up_to walk fills following framed contents table known row_among is_start row_of times sift present value_of complete bearer_fits length_fits measured bit kept allows_type allows_event allows_bearer channels is_established is_dropped establish closed is_open start chan with_chan queue with_queue is_stream room due at_once joined without counting marked fresh appended whole arrived removed unfinished readied dropped places_used crowded another lessened served carried_by kind_of details_of zeros details_in pair_in bearer_in transport_in body_in command_in to_modem addressed is_fault starts_with_details read_objects reading bit1 capped plain listed listing protocol_of open_before opening closing receiving sending statuses_from own cells promised_to promised unpromised grant_for pair_bytes details_bytes bearer_bytes status_bytes status_object status_objects further_objects result_bytes result_objects response_objects response_bytes event_bytes meant_by command numbered arrival_event arrival taking drop_event dropping step object_bytes written run outcomes telling report_objects
differ = (refl, refl, refl)

-- the same with the SEND DATA in two bursts, cut within its data, the second with a byte to spare
abbrev acts_with : ℕ → ℕ → List Act
acts_with v w =
    calls opens ∷
    bursts (lending 255) (0xD0 ∷ 0x0D ∷ 0x81 ∷ 0x03 ∷ 0x01 ∷ 0x43 ∷ 0x01 ∷ 0x82 ∷ 0x02 ∷ 0x81 ∷ 0x21 ∷ 0x36 ∷ 0x02 ∷ v ∷ []) ∷
    bursts (lending 255) (w ∷ 0xD0 ∷ []) ∷
    calls (taking_out 9 one) ∷
    []

pub bursts_alike : LikeActs one [] [] (acts_with 0x41 0x42) (acts_with 0x43 0x44)
unfolding ◌⇒◌else◌ long_length length_at length_to_come lacking_by stage_by stage is_empty same outer_head does one_more taken_at goes_on burst fetch length_bytes
bursts_alike =
    LikeActs.more _ _ _ _ _ _ (LikeAct.called _ _ (LikeCall.equal _))
    (LikeActs.more _ _ _ _ _ _ (LikeAct.burst (lending 255) _ _ refl (LikeTaken.begun _ _ 1 refl refl refl))
    (LikeActs.more _ _ _ _ _ _ (LikeAct.burst (lending 255) (0x42 ∷ 0xD0 ∷ []) (0x44 ∷ 0xD0 ∷ []) refl (LikeTaken.sends _ _ sent_other))
    (LikeActs.more _ _ _ _ _ _ (LikeAct.called _ _ (LikeCall.equal _)) (LikeActs.ends _ _))))
