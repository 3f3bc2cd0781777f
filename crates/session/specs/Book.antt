-- The ledger's numbers: where they stand, and the entry of a channel among them.
use Rattle.std.specs.Prelude.{ℕ, zero, suc, ◌+◌, ◌-◌, ◌*◌, ◌≤◌, Bool, true, false, List, [], ◌∷◌, ◌++◌, length, get_or, set, take, drop, replicate, ltb, eqb}
use Rattle.rules.specs.Checks.{◌⇒◌else◌}
use Rattle.rules.specs.Datagrams.{place_count}
use Rattle.rules.specs.declared.Way.{Way}
use Rattle.rules.specs.declared.Way.TheVariants.{Receive, Send}
use Rattle.rules.specs.declared.ChannelNumber.{ChannelNumber}
use Rattle.rules.specs.declared.Events.{Events}
use Rattle.octets.specs.Parts.{part, pasted}
use Rattle.session.specs.declared.Channel.{Channel}

-- behind the profile stand two numbers that tell whether 09 and 0A are listed, and the number of cells that are not promised, then six numbers for each timer, and an entry for each channel, six numbers and the lengths of datagrams for receive and for send; and the size of all
abbrev pub available_at : ℕ
available_at = 13

abbrev pub status_at : ℕ
status_at = 14

abbrev pub free_at : ℕ
free_at = 15

abbrev pub timers_at : ℕ
timers_at = 16

abbrev pub timer_size : ℕ
timer_size = 6

abbrev pub channels_at : ℕ
channels_at = 64

abbrev pub entry_size : ℕ
entry_size = 38

abbrev pub ledger_size : ℕ
ledger_size = 330

-- where the numbers of a timer begin; k counts the timers before it
abbrev pub timer_at : ℕ → ℕ
timer_at k = timer_size * k + timers_at

-- the number of one of the seven channels
abbrev pub IsChannel : ChannelNumber → Type 0
IsChannel n = (1 ≤ n.0) × (n.0 ≤ 7)

-- where the entry of a channel begins; k counts the channels before it
abbrev pub entry_at : ℕ → ℕ
entry_at k = entry_size * k + channels_at

-- the entry whose numbers begin at a place
abbrev pub entry_from : List ℕ → ℕ → Channel
entry_from t at =
    record {
      grant = get_or t at 0;
      link = get_or t (at + 1) 0;
      rx = get_or t (at + 2) 0;
      tx = get_or t (at + 3) 0;
      ready = get_or t (at + 4) 0;
      carries = get_or t (at + 5) 0;
    }

-- the numbers of an entry
abbrev pub numbers_of : Channel → List ℕ
numbers_of e = e.grant ∷ e.link ∷ e.rx ∷ e.tx ∷ e.ready ∷ e.carries ∷ []

-- the entry of a channel
abbrev pub entry_in : List ℕ → ChannelNumber → Channel
entry_in t n = entry_from t (entry_at (n.0 - 1))

-- the numbers with another entry for a channel
unfoldable pub with_entry : List ℕ → ChannelNumber → Channel → List ℕ
with_entry t n e = pasted t (entry_at (n.0 - 1)) (numbers_of e)

-- where the lengths of a way stand behind the beginning of an entry
abbrev pub lengths_in_entry : Way → ℕ
lengths_in_entry Receive = 6
lengths_in_entry Send = 22

-- where the lengths of a channel and a way stand
abbrev pub lengths_at : ChannelNumber → Way → ℕ
lengths_at n w = entry_at (n.0 - 1) + lengths_in_entry w

-- the lengths among so many numbers: those before the first 0
unfoldable pub lengths_from : ℕ → List ℕ → List ℕ
lengths_from zero t = []
lengths_from (suc k) [] = []
lengths_from (suc k) (x ∷ t) = let rest = lengths_from k t in eqb x 0 ⇒ [] else x ∷ rest

-- the lengths of a channel and a way
abbrev pub lengths_in : List ℕ → ChannelNumber → Way → List ℕ
lengths_in t n w = lengths_from place_count (drop (lengths_at n w) t)

-- the places of a way: its lengths, and zeros behind them
unfoldable pub places : List ℕ → List ℕ
places ls = take place_count (ls ++ replicate place_count 0)

-- the numbers with one length more for a channel and a way, at the first place that is free; no bytes make none
unfoldable pub with_length : List ℕ → ChannelNumber → Way → ℕ → List ℕ
with_length t n w zero = t
with_length t n w (suc k) = set t (lengths_at n w + length (lengths_in t n w)) (suc k)

-- the numbers with the first length fewer by k, or, where that leaves none, the others moved to the front
unfoldable pub less_length : List ℕ → ChannelNumber → Way → ℕ → List ℕ
less_length t n w k =
    let at = lengths_at n w in
    let x = get_or t at 0 in
    ltb k x ⇒ set t at (x - k) else
    pasted t at (part (at + 1) (at + place_count) t ++ 0 ∷ [])

-- whether an event is listed, by its number, and the number
abbrev pub listed : ℕ → Bool
listed zero = false
listed (suc n) = true

abbrev pub listed_number : Bool → ℕ
listed_number true = 1
listed_number false = 0

-- the cells that are not promised
abbrev pub free_in : List ℕ → ℕ
free_in t = get_or t free_at 0

-- the numbers with another event list
unfoldable pub with_list : List ℕ → Events → List ℕ
with_list t e = set (set t available_at (listed_number e.available)) status_at (listed_number e.status)
