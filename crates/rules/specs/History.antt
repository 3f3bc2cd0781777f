-- What anyone outside can see: calls and how they ended, and what they tell of one channel since its latest opening.
use Rattle.std.specs.Prelude.{ℕ, ◌+◌, ◌-◌, min, Bool, true, false, List, [], ◌∷◌, ◌++◌, map, length, get_or, take, drop, eqb}
use Rattle.rules.specs.declared.Carries.{Carries}
use Rattle.rules.specs.declared.Carries.TheVariants.{Stream}
use Rattle.rules.specs.declared.ChannelNumber.{ChannelNumber}
use Rattle.rules.specs.declared.Link.{Link}
use Rattle.rules.specs.declared.Link.TheVariants.{NotYet, Dropped}
use Rattle.rules.specs.declared.Way.{Way}
use Rattle.rules.specs.declared.Way.TheVariants.{Receive, Send}
use Rattle.rules.specs.Checks.{◌⇒◌else◌}
use Rattle.rules.specs.Words.{channel_of}
use Rattle.rules.specs.Frames.{walk, contents}
use Rattle.rules.specs.Table.{row_of, sift, value_of}
use Rattle.rules.specs.Datagrams.{behind, joined_by}
use Rattle.rules.specs.State.{State, establish, is_stream}
use Rattle.rules.specs.Reading.{Body, Command, bare, event_list, open_channel, close_channel, receive_data, send_data, start_timer, manage_timer, details_in, command_in}
use Rattle.rules.specs.Own.{Result, nothing, opened, received, sent, started, leaves, reports, error, problem, done, bit1, protocol_of, carried_by}
use Rattle.rules.specs.Command.{Outcome, wrote, refused}
use Rattle.rules.specs.Bench.{Told, told, untold, bench_read}
use Rattle.rules.specs.Radio.{RadioAct, arrives, takes, drops}
use Rattle.rules.specs.Run.{Call, starting, commanding, radio, timing, step}

-- a call and how it ended
pub record Exchange : Type 0 where
  pub call : Call
  pub outcome : Outcome

-- one way since the latest opening: the bytes accepted, and those handed out; and both in the pieces that a datagram channel keeps whole
pub record Side : Type 0 where
  pub accepted : List ℕ
  pub out : List ℕ
  pub whole : List (List ℕ)
  pub given : List (List ℕ)

-- a channel since its latest opening: whether it is open, the grant and the link told, what it was opened for, each way, and how many of the bytes to send were readied
pub record History : Type 0 where
  pub stands : Bool
  pub grant : ℕ
  pub link : Link
  pub carries : Carries
  pub receive : Side
  pub send : Side
  pub readied : ℕ

-- nothing was accepted
abbrev pub untouched : Side
untouched = record { accepted = []; out = []; whole = []; given = [] }

-- nothing is open, and nothing was accepted
unfoldable pub ended : History
ended = record { stands = false; grant = 0; link = NotYet; carries = Stream; receive = untouched; send = untouched; readied = 0 }

-- an opening was told
unfoldable pub opened_with : ℕ → Link → Carries → History
opened_with g l k =
    record { stands = true; grant = g; link = l; carries = k; receive = untouched; send = untouched; readied = 0 }

-- the side of a way, and the history with another one there
unfoldable pub side : History → Way → Side
side h Receive = h.receive
side h Send = h.send

unfoldable pub with_side : History → Way → Side → History
with_side h Receive x =
    record { stands = h.stands; grant = h.grant; link = h.link; carries = h.carries; receive = x; send = h.send; readied = h.readied }
with_side h Send x =
    record { stands = h.stands; grant = h.grant; link = h.link; carries = h.carries; receive = h.receive; send = x; readied = h.readied }

-- bytes were accepted: from the radio to be received, from the card to be sent
unfoldable pub accepted_in : History → Way → List ℕ → History
accepted_in h w s =
    let x = side h w in
    with_side h w (record { accepted = x.accepted ++ s; out = x.out; whole = x.whole; given = x.given })

-- bytes were handed out: to the card, or to the radio
unfoldable pub out_in : History → Way → List ℕ → History
out_in h w s =
    let x = side h w in
    with_side h w (record { accepted = x.accepted; out = x.out ++ s; whole = x.whole; given = joined_by x.given s })

-- accepted bytes are a whole piece: an arrival, or what SEND DATA finished
unfoldable pub whole_in : History → Way → List ℕ → History
whole_in h w s =
    let x = side h w in
    with_side h w (record { accepted = x.accepted; out = x.out; whole = joined_by x.whole s; given = x.given })

-- all bytes accepted to be sent are readied, those since the last such time as one piece, and a link not yet established is established
unfoldable pub readied_in : History → History
readied_in h =
    let x = whole_in h Send (drop h.readied h.send.accepted) in
    record { stands = h.stands; grant = h.grant; link = establish h.link; carries = h.carries; receive = x.receive; send = x.send; readied = length h.send.accepted }

-- the radio dropped the link
unfoldable pub dropped_in : History → History
dropped_in h =
    record { stands = h.stands; grant = h.grant; link = Dropped; carries = h.carries; receive = h.receive; send = h.send; readied = h.readied }

-- the command that bytes say, whatever the profile allows
unfoldable pub command_seen : List ℕ → Command
command_seen s =
    let os = (walk (contents s)).objects in
    let d = details_in (value_of 0x01 os) in
    command_in d (sift (row_of d) [] os).counting

-- the data of a SEND DATA
unfoldable pub data_of : Body → List ℕ
data_of (bare t) = []
data_of (event_list es) = []
data_of (open_channel b size t) = []
data_of close_channel = []
data_of (receive_data n) = []
data_of (send_data s) = s
data_of (start_timer n v) = []
data_of (manage_timer n) = []

-- what the channel that an OPEN CHANNEL opens is for
unfoldable pub carried_in : Body → Carries
carried_in (bare t) = Stream
carried_in (event_list es) = Stream
carried_in (open_channel b size t) = carried_by (protocol_of t)
carried_in close_channel = Stream
carried_in (receive_data n) = Stream
carried_in (send_data s) = Stream
carried_in (start_timer n v) = Stream
carried_in (manage_timer n) = Stream

-- whether a command closes its channel
unfoldable pub closes : Body → Bool
closes (bare t) = false
closes (event_list es) = false
closes (open_channel b size t) = false
closes close_channel = true
closes (receive_data n) = false
closes (send_data s) = false
closes (start_timer n v) = false
closes (manage_timer n) = false

-- the two numbers are the same
abbrev pub same_number : ChannelNumber → ChannelNumber → Bool
same_number n m = eqb n.0 m.0

-- what an answer to a command tells of the channel n
unfoldable pub answer_tells : ChannelNumber → History → Command → Result → History
answer_tells n h c (done x (opened s b g)) = same_number n s.number ⇒ opened_with g s.link (carried_in c.body) else h
answer_tells n h c (done x (received s left)) = same_number n (channel_of c.destination) ⇒ out_in h Receive s else h
answer_tells n h c (done x (sent room)) =
    let k = accepted_in h Send (data_of c.body) in
    same_number n (channel_of c.destination) ⇒ (bit1 c.qualifier ⇒ readied_in k else k) else h
answer_tells n h c (done x nothing) = closes c.body ⇒ (same_number n (channel_of c.destination) ⇒ ended else h) else h
answer_tells n h c (done x (started m)) = h
answer_tells n h c (done x (leaves m t)) = h
answer_tells n h c (done x (reports r)) = h
answer_tells n h c (error e) = h
answer_tells n h c (problem cause) = h

-- the answer is read as the bench reads it
unfoldable pub heard_tells : ChannelNumber → History → Command → Told → History
heard_tells n h c (told r) = answer_tells n h c r.result
heard_tells n h c (untold r) = h

-- what the radio did tells of its channel: bytes that came are one piece, those taken are handed out
unfoldable pub radio_tells : History → RadioAct → List ℕ → History
radio_tells h (arrives s) t = whole_in (accepted_in h Receive s) Receive s
radio_tells h takes t = out_in h Send t
radio_tells h drops t = dropped_in h

-- what a call and how it ended tell of the channel n; a refusal tells nothing
unfoldable pub tells : ChannelNumber → History → Call → Outcome → History
tells n h (starting p) o = ended
tells n h (commanding terms s) (wrote t) = heard_tells n h (command_seen s) (bench_read t)
tells n h (commanding terms s) (refused r) = h
tells n h (radio buffer m act) (wrote t) = same_number n m ⇒ radio_tells h act t else h
tells n h (radio buffer m act) (refused r) = h
tells n h (timing act) o = h

-- the history of the channel n after a list of exchanges
unfoldable pub history_from : ChannelNumber → History → List Exchange → History
history_from n h [] = h
history_from n h (e ∷ es) = history_from n (tells n h e.call e.outcome) es

unfoldable pub history : ChannelNumber → List Exchange → History
history n es = history_from n ended es

-- the calls of a list of exchanges
abbrev pub calls_of : List Exchange → List Call
calls_of es = map (λ (e : Exchange). e.call) es

-- what is seen of a run
unfoldable pub seen_from : State → List Call → List Exchange
seen_from a [] = []
seen_from a (c ∷ cs) = let r = step a c in record { call = c; outcome = r.outcome } ∷ seen_from r.state cs

-- how many bytes a history leaves held for a way
unfoldable pub held_by : History → Way → ℕ
held_by h w = length (side h w).accepted - length (side h w).out

-- the datagrams that a history leaves held to be received: the arrivals, without the bytes that were handed out from their front
unfoldable pub datagrams_by : History → List (List ℕ)
datagrams_by h = behind (length h.receive.out) h.receive.whole

-- those to send that are finished and not handed over
unfoldable pub finished_by : History → List (List ℕ)
finished_by h = drop (length h.send.given) h.send.whole

-- the whole datagrams that a history leaves held for a way
unfoldable pub wholes_by : History → Way → List (List ℕ)
wholes_by h Receive = datagrams_by h
wholes_by h Send = finished_by h

-- the bytes to send since the last finished one
unfoldable pub building_by : History → List ℕ
building_by h = drop h.readied h.send.accepted

-- how many bytes may be handed out at once: of a stream all that are due, of datagrams those of the first
unfoldable pub at_once_by : History → Way → ℕ
at_once_by h Receive = is_stream h.carries ⇒ held_by h Receive else length (get_or (datagrams_by h) 0 [])
at_once_by h Send = is_stream h.carries ⇒ h.readied - length h.send.out else length (get_or (finished_by h) 0 [])

-- the oldest bytes that may be handed over at once, as many as fit
unfoldable pub oldest_ready : History → ℕ → List ℕ
oldest_ready h buffer = take (min buffer (at_once_by h Send)) (drop (length h.send.out) h.send.accepted)

-- how many datagrams a history leaves held for a way, the unfinished one included
unfoldable pub places_by : History → Way → ℕ
places_by h Receive = length (datagrams_by h)
places_by h Send = length (finished_by h) + min 1 (length (building_by h))
