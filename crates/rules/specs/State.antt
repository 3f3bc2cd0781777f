-- The state of a session: the profile, the event list, seven channels and eight timers.
use Rattle.std.specs.Prelude.{ℕ, ◌+◌, ◌-◌, min, ◌≡◌, refl, Bool, true, false, not, ◌&&◌, List, [], ◌++◌, length, get_or, drop, set, replicate, leb, eqb}
use Rattle.rules.specs.declared.Carries.{Carries}
use Rattle.rules.specs.declared.Carries.TheVariants.{Stream, Datagrams}
use Rattle.rules.specs.declared.ChannelNumber.{ChannelNumber}
use Rattle.rules.specs.declared.Events.{Events}
use Rattle.rules.specs.declared.Link.{Link}
use Rattle.rules.specs.declared.Link.TheVariants.{NotYet, Established, Dropped}
use Rattle.rules.specs.declared.Way.{Way}
use Rattle.rules.specs.declared.Way.TheVariants.{Receive, Send}
use Rattle.rules.specs.Checks.{◌⇒◌else◌, is_empty}
use Rattle.rules.specs.Profile.{kept}
use Rattle.rules.specs.Timers.{timer_count, Timer, idle}
use Rattle.rules.specs.Datagrams.{place_count, another, lessened}

unfoldable pub is_established : Link → Bool
is_established NotYet = false
is_established Established = true
is_established Dropped = false

unfoldable pub is_dropped : Link → Bool
is_dropped NotYet = false
is_dropped Established = false
is_dropped Dropped = true

-- a link not yet established is established; any other stays
unfoldable pub establish : Link → Link
establish NotYet = Established
establish Established = Established
establish Dropped = Dropped

unfoldable pub is_stream : Carries → Bool
is_stream Stream = true
is_stream Datagrams = false

-- what a way holds, oldest first, and the lengths of the datagrams that are due to be handed out; a stream has none
pub record Queue : Type 0 where
  pub bytes : List ℕ
  pub lengths : List ℕ

-- a channel: its grant (0 where it is not open), its link, what it carries, what each way holds, and how many of the bytes to send are ready
pub record Chan : Type 0 where
  pub grant : ℕ
  pub link : Link
  pub carries : Carries
  pub receive : Queue
  pub send : Queue
  pub ready : ℕ

pub record State : Type 0 where
  pub profile : List ℕ
  pub events : Events
  pub chans : List Chan
  pub timers : List Timer

-- nothing is held
abbrev pub nothing_held : Queue
nothing_held = record { bytes = []; lengths = [] }

-- a channel that is not open
unfoldable pub closed : Chan
closed = record { grant = 0; link = NotYet; carries = Stream; receive = nothing_held; send = nothing_held; ready = 0 }

unfoldable pub is_open : Chan → Bool
is_open c = leb 1 c.grant

-- a fresh session has no channel and no event, and no timer runs or waits
unfoldable pub start : List ℕ → State
start p =
    record {
      profile = kept p;
      events = record { available = false; status = false };
      chans = replicate 7 closed;
      timers = replicate timer_count idle;
    }

pub start_fresh : (p : List ℕ) → (start p).events ≡ record { available = false; status = false }
unfolding start
start_fresh p = refl

-- the channel of a number
unfoldable pub chan : State → ChannelNumber → Chan
chan a n = get_or a.chans (n.0 - 1) closed

-- the state with another channel in the place of that number
unfoldable pub with_chan : State → ChannelNumber → Chan → State
with_chan a n c = record { profile = a.profile; events = a.events; chans = set a.chans (n.0 - 1) c; timers = a.timers }

-- the timer of a number, and the state with another one there
unfoldable pub timer : State → ℕ → Timer
timer a n = get_or a.timers (n - 1) idle

abbrev pub with_timers : State → List Timer → State
with_timers a ts = record { profile = a.profile; events = a.events; chans = a.chans; timers = ts }

unfoldable pub with_timer : State → ℕ → Timer → State
with_timer a n t = with_timers a (set a.timers (n - 1) t)

-- the queue of a way, and the channel with another one there
unfoldable pub queue : Chan → Way → Queue
queue c Receive = c.receive
queue c Send = c.send

unfoldable pub with_queue : Chan → Way → Queue → Chan
with_queue c Receive q =
    record { grant = c.grant; link = c.link; carries = c.carries; receive = q; send = c.send; ready = c.ready }
with_queue c Send q =
    record { grant = c.grant; link = c.link; carries = c.carries; receive = c.receive; send = q; ready = c.ready }

-- the bytes held for a way
abbrev pub held : Chan → Way → List ℕ
held c w = (queue c w).bytes

-- how many more bytes a way can take: the grant less what is held
unfoldable pub room : Chan → Way → ℕ
room c w = c.grant - length (held c w)

-- how many bytes of a way are due to be handed out: all that are held to be received, and of those to send the ready ones
unfoldable pub due : Chan → Way → ℕ
due c Receive = length (held c Receive)
due c Send = c.ready

-- how many bytes of a way may be handed out at once: of a stream all that are due, of datagrams those of the first
unfoldable pub at_once : Chan → Way → ℕ
at_once c w = is_stream c.carries ⇒ due c w else get_or (queue c w).lengths 0 0

-- bytes come behind those of a queue; the first k bytes go; a datagram of k bytes is whole
unfoldable pub joined : Queue → List ℕ → Queue
joined q s = record { bytes = q.bytes ++ s; lengths = q.lengths }

unfoldable pub without : Queue → ℕ → Queue
without q k = record { bytes = drop k q.bytes; lengths = lessened q.lengths k }

unfoldable pub counting : Queue → ℕ → Queue
counting q k = record { bytes = q.bytes; lengths = another q.lengths k }

-- the channel with another link and another count of ready bytes
unfoldable pub marked : Chan → Link → ℕ → Chan
marked c l k = record { grant = c.grant; link = l; carries = c.carries; receive = c.receive; send = c.send; ready = k }

-- what happens to one channel: it is opened with a grant
unfoldable pub fresh : ℕ → Link → Carries → Chan
fresh g l k = record { grant = g; link = l; carries = k; receive = nothing_held; send = nothing_held; ready = 0 }

-- bytes come to a way
unfoldable pub appended : Chan → Way → List ℕ → Chan
appended c w s = with_queue c w (joined (queue c w) s)

-- the last k bytes that are due are a whole datagram; a stream has none
unfoldable pub whole : Chan → Way → ℕ → Chan
whole c w k = is_stream c.carries ⇒ c else with_queue c w (counting (queue c w) k)

-- bytes from the radio are one datagram
unfoldable pub arrived : Chan → List ℕ → Chan
arrived c s = whole (appended c Receive s) Receive (length s)

-- the first k bytes of a way go; of those to send they were ready
unfoldable pub removed : Chan → Way → ℕ → Chan
removed c Receive k = with_queue c Receive (without c.receive k)
removed c Send k = with_queue (marked c c.link (c.ready - k)) Send (without c.send k)

-- the bytes to send that are not ready: those of a datagram that is not finished
unfoldable pub unfinished : Chan → ℕ
unfinished c = length (held c Send) - c.ready

-- all bytes held to send are ready, and a link not yet established is established
unfoldable pub readied : Chan → Chan
readied c = marked (whole c Send (unfinished c)) (establish c.link) (length (held c Send))

-- the link is dropped; what is held stays
unfoldable pub dropped : Chan → Chan
dropped c = marked c Dropped c.ready

-- how many datagrams a way holds, the unfinished one included
unfoldable pub places_used : Chan → Way → ℕ
places_used c Receive = length c.receive.lengths
places_used c Send = length c.send.lengths + min 1 (unfinished c)

-- bytes that come would begin a datagram for which there is no place; those to send join the unfinished one, if there is one
unfoldable pub crowded : Chan → Way → List ℕ → Bool
crowded c Receive s = not (is_empty s) && leb place_count (places_used c Receive)
crowded c Send s = not (is_empty s) && eqb (unfinished c) 0 && leb place_count (places_used c Send)
