-- What the histories promise, in the words of demand 3.
use Rattle.std.specs.Prelude.{ℕ, zero, suc, ◌+◌, ◌-◌, ◌*◌, ◌≤◌, ◌<◌, ◌≡◌, Bool, true, false, not, ◌&&◌, ◌||◌, List, [], ◌∷◌, ◌++◌, length, leb, eqb}
use Rattle.std.proofs.Math.Option.{Option, none, some}
use Rattle.rules.specs.Checks.{◌⇒◌else◌, is_empty, member}
use Rattle.rules.specs.Results.{response_cap, command_cap}
use Rattle.rules.specs.declared.ChannelNumber.{ChannelNumber}
use Rattle.rules.specs.declared.Events.{Events}
use Rattle.rules.specs.declared.Way.{Way}
use Rattle.rules.specs.declared.Way.TheVariants.{Receive, Send}
use Rattle.rules.specs.Words.{channel_of}
use Rattle.rules.specs.State.{State, Chan, chan, is_open, is_stream, held}
use Rattle.rules.specs.Pool.{cell_count, cells}
use Rattle.rules.specs.Reading.{Body, Command, asked, reading, bare, event_list, open_channel, close_channel, receive_data, send_data, start_timer, manage_timer}
use Rattle.rules.specs.Own.{Result, nothing, opened, received, sent, started, leaves, reports, error, problem, done, capped}
use Rattle.rules.specs.Written.{unflagged, status_object, event_bytes}
use Rattle.rules.specs.Command.{Outcome, wrote, refused, Terms}
use Rattle.rules.specs.Bench.{Told, told, untold, bench_read}
use Rattle.rules.specs.Run.{Call, starting, commanding, radio, timing, step, after}
use Rattle.rules.specs.State as state
use Rattle.rules.specs.History.{Exchange, History, side, held_by, history, seen_from, command_seen, same_number, datagrams_by, building_by, places_by}
use Rattle.rules.specs.Datagrams.{place_count, pieces, bytes_of}

-- the state after a list of calls from the start, and the history of a channel that was seen on the way
abbrev pub reached : List ℕ → List Call → State
reached p cs = after (state.start p) cs

abbrev pub told_of : ChannelNumber → List ℕ → List Call → History
told_of n p cs = history n (seen_from (state.start p) cs)

-- the calls, and one more
abbrev pub next : List Call → Call → List Call
next cs c = cs ++ c ∷ []

-- the history tells the channel: the grant, the link, what it carries, and each way accepted is handed out followed by held;
-- of datagrams: those held to be received are the arrivals less what was handed out from their front, and those handed over followed by the finished ones held are all that were finished
pub record Tells (c : Chan) (h : History) : Type 0 where
  pub stands : h.stands ≡ is_open c
  pub grant : h.grant ≡ c.grant
  pub link : h.link ≡ c.link
  pub carries : h.carries ≡ c.carries
  pub order : (w : Way) → (side h w).out ++ held c w ≡ (side h w).accepted
  pub ready : h.readied ≡ length h.send.out + c.ready
  pub arrivals : bytes_of h.receive.whole ≡ h.receive.accepted
  pub received : is_stream c.carries ≡ false → pieces c.receive.lengths c.receive.bytes ≡ datagrams_by h
  pub finished : is_stream c.carries ≡ false → h.send.given ++ pieces c.send.lengths c.send.bytes ≡ h.send.whole

-- it tells the channel of a number
abbrev pub Follows : ChannelNumber → State → History → Type 0
Follows n a h = Tells (chan a n) h

-- the profile of the latest start
unfoldable pub begun : List ℕ → Call → List ℕ
begun p (starting q) = q
begun p (commanding terms s) = p
begun p (radio buffer n act) = p
begun p (timing act) = p

unfoldable pub latest : List ℕ → List Call → List ℕ
latest p [] = p
latest p (c ∷ cs) = latest (begun p c) cs

-- a call was not refused
unfoldable pub accepted : Outcome → Bool
accepted (wrote s) = true
accepted (refused r) = false

-- the result that the bench hears in an answer; a refusal says nothing
unfoldable pub result_told : Told → Option Result
result_told (told r) = some r.result
result_told (untold why) = none

unfoldable pub heard : Outcome → Option Result
heard (wrote t) = result_told (bench_read t)
heard (refused r) = none

-- what the bench hears in the answer to a command behind these calls
abbrev pub answer_to : List ℕ → List Call → Terms → List ℕ → Option Result
answer_to p cs terms s = heard (step (reached p cs) (commanding terms s)).outcome

-- a command was done
unfoldable pub is_done : Result → Bool
is_done (error e) = false
is_done (problem cause) = false
is_done (done r f) = true

unfoldable pub heard_done : Option Result → Bool
heard_done none = false
heard_done (some r) = is_done r

-- the events that are listed once a command is done: SET UP EVENT LIST replaces the list
unfoldable pub lists_in : Events → Body → Events
lists_in e (bare t) = e
lists_in e (event_list es) = record { available = member 0x09 es; status = member 0x0A es }
lists_in e (open_channel b size t) = e
lists_in e close_channel = e
lists_in e (receive_data n) = e
lists_in e (send_data s) = e
lists_in e (start_timer n v) = e
lists_in e (manage_timer n) = e

-- and after a call, by how it ended: a start lists none
unfoldable pub lists_after : Events → Call → Outcome → Events
lists_after e (starting p) o = record { available = false; status = false }
lists_after e (commanding terms s) o = heard_done (heard o) ⇒ lists_in e (command_seen s).body else e
lists_after e (radio buffer n act) o = e
lists_after e (timing act) o = e

unfoldable pub lists_from : Events → List Exchange → Events
lists_from e [] = e
lists_from e (x ∷ xs) = lists_from (lists_after e x.call x.outcome) xs

abbrev pub listed_by : List ℕ → List Call → Events
listed_by p cs = lists_from (record { available = false; status = false }) (seen_from (state.start p) cs)

-- the event that bytes from the radio raise, by the history in front of them: where nothing was held, bytes came and 09 is listed, it tells the bytes that came
unfoldable pub raised_by : ChannelNumber → History → Events → List ℕ → List ℕ
raised_by n h e s =
    let told = status_object n h.link ∷ unflagged 0x37 (capped (length s) ∷ []) ∷ [] in
    eqb (held_by h Receive) 0 && not (is_empty s) && e.available ⇒ event_bytes 0x09 told else []

-- bytes would begin a datagram for which there is no place; those to send join the unfinished one, if there is one
unfoldable pub crowded_by : History → Way → List ℕ → Bool
crowded_by h Receive s = not (is_stream h.carries) && not (is_empty s) && leb place_count (places_by h Receive)
crowded_by h Send s = not (is_stream h.carries) && not (is_empty s) && is_empty (building_by h) && leb place_count (places_by h Send)

-- a command passed steps 1 to 8: the buffer and the bytes have their sizes, and with that profile the bytes are read as the command c
pub record Passed (p : List ℕ) (terms : Terms) (s : List ℕ) (c : Command) (ignored : Bool) : Type 0 where
  pub roomy : response_cap ≤ terms.buffer
  pub few : length s ≤ command_cap
  pub read : reading p s ≡ asked c ignored

-- the cells that the grants told promise, both ways, to so many channels from number k on
unfoldable pub cells_from : (ChannelNumber → History) → ℕ → ℕ → ℕ
cells_from h k zero = 0
cells_from h k (suc m) = 2 * cells (h (record { 0 = k })).grant + cells_from h (k + 1) m

-- the cells that are free, by the histories of the seven channels
unfoldable pub free_by : (ChannelNumber → History) → ℕ
free_by h = cell_count - cells_from h 1 7

abbrev pub free_cells : List ℕ → List Call → ℕ
free_cells p cs = free_by (λ (n : ChannelNumber). told_of n p cs)

-- the channel of a number stands open, by its history
abbrev pub standing : List ℕ → List Call → ℕ → Bool
standing p cs k = (told_of (record { 0 = k }) p cs).stands

-- of the numbers that stand open: every one from 1 to N does
abbrev pub AllOpen : ℕ → (ℕ → Bool) → Type 0
AllOpen n stands = (k : ℕ) → 1 ≤ k → k ≤ n → stands k ≡ true

-- k is the lowest unused one from 1 to N
pub record Lowest (n : ℕ) (stands : ℕ → Bool) (k : ℕ) : Type 0 where
  pub from : 1 ≤ k
  pub upto : k ≤ n
  pub unused : stands k ≡ false
  pub below : (j : ℕ) → 1 ≤ j → j < k → stands j ≡ true

-- an answer tells of an opening of the channel n
unfoldable pub opens_number : ChannelNumber → Option Result → Bool
opens_number n none = false
opens_number n (some (error e)) = false
opens_number n (some (problem cause)) = false
opens_number n (some (done x nothing)) = false
opens_number n (some (done x (opened s b g))) = same_number n s.number
opens_number n (some (done x (received d left))) = false
opens_number n (some (done x (sent room))) = false
opens_number n (some (done x (started m))) = false
opens_number n (some (done x (leaves m t))) = false
opens_number n (some (done x (reports r))) = false

-- a call may change the channel n: a start, a call of that number, a command to it, and one whose answer opens it
unfoldable pub touches : ChannelNumber → Call → Outcome → Bool
touches n (starting p) o = true
touches n (commanding terms s) o = same_number n (channel_of (command_seen s).destination) || opens_number n (heard o)
touches n (radio buffer m act) o = same_number n m
touches n (timing act) o = false
