-- "Calls from the radio": arrival, take and drop, with their refusals in order and their event bytes.
use Rattle.std.specs.Prelude.{ℕ, min, Bool, not, ◌&&◌, List, [], ◌∷◌, length, take, ltb, leb}
use Rattle.rules.specs.declared.ChannelNumber.{ChannelNumber}
use Rattle.rules.specs.declared.Refusal.TheVariants.{ShortBuffer, NoChannel, Unopened, Unlinked, Overfull, NoPlace, Undersized}
use Rattle.rules.specs.declared.Way.TheVariants.{Receive, Send}
use Rattle.rules.specs.Checks.{◌⇒◌else◌, is_empty}
use Rattle.rules.specs.Results.{event_cap}
use Rattle.rules.specs.State.{State, is_established, is_stream, is_open, chan, with_chan, held, room, at_once, appended, arrived, removed, dropped, crowded}
use Rattle.rules.specs.Own.{capped}
use Rattle.rules.specs.Written.{unflagged, status_object, event_bytes}
use Rattle.rules.specs.Command.{Answer, answered, refusal}

-- the channel is 1 to 7
unfoldable pub numbered : ChannelNumber → Bool
numbered n = leb 1 n.0 && leb n.0 7

-- where nothing was held, bytes came and 09 is listed, it tells of the bytes held now
unfoldable pub arrival_event : State → ChannelNumber → List ℕ → List ℕ
arrival_event a n s =
    let c = appended (chan a n) Receive s in
    let told = status_object n c.link ∷ unflagged 0x37 (capped (length (held c Receive)) ∷ []) ∷ [] in
    is_empty (held (chan a n) Receive) && not (is_empty s) && a.events.available ⇒ event_bytes 0x09 told else []

-- the bytes are stored whole
unfoldable pub arrival : State → ℕ → ChannelNumber → List ℕ → Answer
arrival a buffer n s =
    let c = chan a n in
    ltb buffer event_cap ⇒ refusal a ShortBuffer else
    not (numbered n) ⇒ refusal a NoChannel else
    not (is_open c) ⇒ refusal a Unopened else
    not (is_established c.link) ⇒ refusal a Unlinked else
    ltb (room c Receive) (length s) ⇒ refusal a Overfull else
    crowded c Receive s ⇒ refusal a NoPlace else
    answered (with_chan a n (arrived c s)) (arrival_event a n s)

-- as many ready bytes as fit the buffer are handed out; of datagrams the oldest that is finished, and whole
unfoldable pub taking : State → ℕ → ChannelNumber → Answer
taking a buffer n =
    let c = chan a n in
    let most = at_once c Send in
    let k = min buffer most in
    not (numbered n) ⇒ refusal a NoChannel else
    not (is_open c) ⇒ refusal a Unopened else
    not (is_established c.link) ⇒ refusal a Unlinked else
    not (is_stream c.carries) && ltb buffer most ⇒ refusal a Undersized else
    answered (with_chan a n (removed c Send k)) (take k (held c Send))

-- where 0A is listed it tells of the dropped link
unfoldable pub drop_event : State → ChannelNumber → List ℕ
drop_event a n =
    let c = dropped (chan a n) in
    a.events.status ⇒ event_bytes 0x0A (status_object n c.link ∷ []) else []

-- the link is dropped
unfoldable pub dropping : State → ℕ → ChannelNumber → Answer
dropping a buffer n =
    let c = chan a n in
    ltb buffer event_cap ⇒ refusal a ShortBuffer else
    not (numbered n) ⇒ refusal a NoChannel else
    not (is_open c) ⇒ refusal a Unopened else
    not (is_established c.link) ⇒ refusal a Unlinked else
    answered (with_chan a n (dropped c)) (drop_event a n)

-- what the radio does with a channel
pub data RadioAct : Type 0 where
  arrives : List ℕ → RadioAct
  takes : RadioAct
  drops : RadioAct

-- with a buffer of so many bytes
abbrev pub radio_call : State → ℕ → ChannelNumber → RadioAct → Answer
radio_call a buffer n (arrives s) = arrival a buffer n s
radio_call a buffer n takes = taking a buffer n
radio_call a buffer n drops = dropping a buffer n
