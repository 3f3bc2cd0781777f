-- The session record as a picture of a state: the ledger, and the pool in which every held byte lies.
use Rattle.std.specs.Prelude.{ℕ, zero, suc, ◌+◌, ◌-◌, ◌*◌, ◌≡◌, List, [], ◌∷◌, ◌++◌, length, take, drop, get_or}
use Rattle.rules.specs.declared.Carries.{Carries}
use Rattle.rules.specs.declared.Carries.TheVariants.{Stream, Datagrams}
use Rattle.rules.specs.declared.ChannelNumber.{ChannelNumber}
use Rattle.rules.specs.declared.Events.{Events}
use Rattle.rules.specs.Datagrams.{place_count}
use Rattle.rules.specs.declared.Link.{Link}
use Rattle.rules.specs.declared.Link.TheVariants.{NotYet, Established, Dropped}
use Rattle.rules.specs.declared.Way.{Way}
use Rattle.rules.specs.declared.Way.TheVariants.{Receive, Send}
use Rattle.rules.specs.declared.Time.{Time}
use Rattle.rules.specs.Checks.{◌⇒◌else◌}
use Rattle.rules.specs.Timers.{timer_count, Timer, idle, running, waiting, is_zero, left_of, started_of}
use Rattle.rules.specs.Profile.{profile_size}
use Rattle.rules.specs.State.{State, Chan, held}
use Rattle.rules.specs.Pool.{cell_size, pool_size, cells, unpromised}
use Rattle.rules.specs.Sound.{Sound}
use Rattle.octets.specs.Parts.{pad}
use Rattle.session.specs.declared.Channel.{Channel}
use Rattle.session.specs.declared.Session.{Session}
use Rattle.session.specs.Book.{available_at, status_at, timers_at, timer_size, channels_at, entry_size, entry_at, entry_from, numbers_of, lengths_in_entry, lengths_from, places, listed, listed_number}

-- the bytes of the cells that a grant promises each way
unfoldable pub space : ℕ → ℕ
space g = cell_size * cells g

-- a channel's cells: those for receive, then those for send; what is held stands at the front of its part
unfoldable pub region : Chan → List ℕ
region c = pad (space c.grant) (held c Receive) ++ pad (space c.grant) (held c Send)

-- the regions stand in the order of channel numbers, one after the other
unfoldable pub regions : List Chan → List ℕ
regions [] = []
regions (c ∷ cs) = region c ++ regions cs

-- the pool: the regions, and zeros behind them
unfoldable pub pool_of : State → List ℕ
pool_of a = pad pool_size (regions a.chans)

-- the number by which the ledger has a link, and the link of a number
abbrev pub link_number : Link → ℕ
link_number NotYet = 0
link_number Established = 1
link_number Dropped = 2

abbrev pub link_of : ℕ → Link
link_of zero = NotYet
link_of (suc zero) = Established
link_of (suc (suc n)) = Dropped

-- the number by which the ledger has what a channel carries, and what a number means
abbrev pub carries_number : Carries → ℕ
carries_number Stream = 0
carries_number Datagrams = 1

abbrev pub carries_of : ℕ → Carries
carries_of zero = Stream
carries_of (suc n) = Datagrams

-- a channel as the ledger has it
unfoldable pub entry : Chan → Channel
entry c =
    record {
      grant = c.grant;
      link = link_number c.link;
      rx = length (held c Receive);
      tx = length (held c Send);
      ready = c.ready;
      carries = carries_number c.carries;
    }

-- its numbers, and the lengths of the datagrams that are due each way, zeros behind them
unfoldable pub chan_numbers : Chan → List ℕ
chan_numbers c = numbers_of (entry c) ++ (places c.receive.lengths ++ places c.send.lengths)

-- the numbers of each, one after the other
unfoldable pub blocks : {A : Type 0} → (A → List ℕ) → List A → List ℕ
blocks f [] = []
blocks f (x ∷ xs) = f x ++ blocks f xs

abbrev pub entries_of : List Chan → List ℕ
entries_of cs = blocks chan_numbers cs

-- the numbers of a time
abbrev pub time_numbers : Time → List ℕ
time_numbers t = t.hours ∷ t.minutes ∷ t.seconds ∷ []

-- a timer as the ledger has it: the time left, and the time that it was started with; all 0 where it neither runs nor waits, and the first three where it waits
unfoldable pub timer_numbers : Timer → List ℕ
timer_numbers t = time_numbers (left_of t) ++ time_numbers (started_of t)

abbrev pub timers_of : List Timer → List ℕ
timers_of ts = blocks timer_numbers ts

-- the numbers between the profile and the entries: whether 09 and 0A are listed, the cells that are not promised, and the timers
abbrev pub heads_with : Events → ℕ → List Timer → List ℕ
heads_with e free ts = listed_number e.available ∷ listed_number e.status ∷ free ∷ timers_of ts

unfoldable pub heads_of : State → List ℕ
heads_of a = heads_with a.events (unpromised a) a.timers

-- the ledger: the profile, these, and an entry for each channel
unfoldable pub ledger_of : State → List ℕ
ledger_of a = a.profile ++ (heads_of a ++ entries_of a.chans)

unfoldable pub picture : State → Session
picture a = record { ledger = ledger_of a; pool = pool_of a }

-- the bytes of the first k regions: where the region after them begins
unfoldable pub base_in : List ℕ → ℕ → ℕ
base_in t zero = 0
base_in t (suc k) = base_in t k + 2 * space (get_or t (entry_at k) 0)

-- where a way begins in a region of that grant
unfoldable pub offset : ℕ → Way → ℕ
offset grant Receive = 0
offset grant Send = space grant

-- where the bytes of a channel and a way begin in the pool
abbrev pub start_in : List ℕ → ChannelNumber → ℕ → Way → ℕ
start_in t n grant w = base_in t (n.0 - 1) + offset grant w

-- a channel, read back from the numbers from its entry on and the bytes from its region on
unfoldable pub chan_from : List ℕ → List ℕ → Chan
chan_from t p =
    let e = entry_from t 0 in
    record {
      grant = e.grant;
      link = link_of e.link;
      carries = carries_of e.carries;
      receive = record { bytes = take e.rx p; lengths = lengths_from place_count (drop (lengths_in_entry Receive) t) };
      send = record { bytes = take e.tx (drop (space e.grant) p); lengths = lengths_from place_count (drop (lengths_in_entry Send) t) };
      ready = e.ready;
    }

-- so many channels, read back from their entries and their regions
unfoldable pub chans_from : ℕ → List ℕ → List ℕ → List Chan
chans_from zero t p = []
chans_from (suc k) t p = chan_from t p ∷ chans_from k (drop entry_size t) (drop (2 * space (get_or t 0 0)) p)

-- the time at a place, and a timer, read back from its numbers
abbrev pub time_at : List ℕ → ℕ → Time
time_at t at = record { hours = get_or t at 0; minutes = get_or t (at + 1) 0; seconds = get_or t (at + 2) 0 }

unfoldable pub timer_of : Time → Time → Timer
timer_of left from =
    is_zero from ⇒ idle else
    is_zero left ⇒ waiting from else
    running left from

-- so many timers, read back from their numbers
unfoldable pub timers_from : ℕ → List ℕ → List Timer
timers_from zero t = []
timers_from (suc k) t = timer_of (time_at t 0) (time_at t 3) ∷ timers_from k (drop timer_size t)

-- the state that the record's two arrays show
unfoldable pub shown : List ℕ → List ℕ → State
shown t p =
    record {
      profile = take profile_size t;
      events = record { available = listed (get_or t available_at 0); status = listed (get_or t status_at 0) };
      chans = chans_from 7 (drop channels_at t) p;
      timers = timers_from timer_count (drop timers_at t);
    }

abbrev pub view : Session → State
view s = shown s.ledger s.pool

-- the two arrays are the picture of the state
pub record Shows (a : State) (t p : List ℕ) : Type 0 where
  pub ledger : t ≡ ledger_of a
  pub pool : p ≡ pool_of a

-- the two arrays are the picture of a sound state
pub record GoodIn (t p : List ℕ) : Type 0 where
  pub sound : Sound (shown t p)
  pub shows : Shows (shown t p) t p

-- a record that is the picture of a sound state
abbrev pub Good : Session → Type 0
Good s = GoodIn s.ledger s.pool
