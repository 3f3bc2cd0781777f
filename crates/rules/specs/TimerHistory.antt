-- What anyone outside can see of one timer: its latest start that was done, and the seconds since.
use Rattle.std.specs.Prelude.{ℕ, ◌+◌, ◌-◌, ◌*◌, ◌/◌, ◌%◌, ◌≤◌, ◌<◌, ◌≡◌, Bool, true, false, ◌&&◌, List, [], ◌∷◌, get_or, ltb, leb, eqb}
use Rattle.std.proofs.Math.Option.{Option, none, some}
use Rattle.rules.specs.declared.Time.{Time}
use Rattle.rules.specs.Checks.{◌⇒◌else◌}
use Rattle.rules.specs.Timers.{Timer, idle, running, waiting, timer_count, action_of, stop_action, time_in, no_time}
use Rattle.rules.specs.Reading.{Body, Command, bare, event_list, open_channel, close_channel, receive_data, send_data, start_timer, manage_timer}
use Rattle.rules.specs.Own.{Result, nothing, opened, received, sent, started, leaves, reports, error, problem, done}
use Rattle.rules.specs.Command.{Outcome, wrote, refused}
use Rattle.rules.specs.Bench.{Told, told, untold, bench_read}
use Rattle.rules.specs.TimerCalls.{second, envelope}
use Rattle.rules.specs.Run.{Call, starting, commanding, radio, timing}
use Rattle.rules.specs.State as state
use Rattle.rules.specs.Demands.{heard}
use Rattle.rules.specs.History.{Exchange, command_seen, seen_from}

-- a time in seconds, and the time of so many seconds
unfoldable pub seconds_of : Time → ℕ
seconds_of t = 3600 * t.hours + 60 * t.minutes + t.seconds

unfoldable pub clock_time : ℕ → Time
clock_time k = record { hours = k / 60 / 60; minutes = k / 60 % 60; seconds = k % 60 }

-- no start holds; or the timer was started with that time, and so many seconds passed since
pub data Since : Type 0 where
  unset : Since
  since : Time → ℕ → Since

-- it runs while fewer seconds passed than it was started with, and waits from then on
unfoldable pub runs : Since → Bool
runs unset = false
runs (since t k) = ltb k (seconds_of t)

unfoldable pub waits : Since → Bool
waits unset = false
waits (since t k) = leb (seconds_of t) k

-- the time of that start, and the time less the seconds since
unfoldable pub set_with : Since → Time
set_with unset = no_time
set_with (since t k) = t

unfoldable pub left_by : Since → Time
left_by unset = no_time
left_by (since t k) = clock_time (seconds_of t - k)

-- a second more
unfoldable pub one_second : Since → Since
one_second unset = unset
one_second (since t k) = since t (k + 1)

-- the time in a start
unfoldable pub time_set : Body → Time
time_set (bare t) = no_time
time_set (event_list es) = no_time
time_set (open_channel b size t) = no_time
time_set close_channel = no_time
time_set (receive_data n) = no_time
time_set (send_data s) = no_time
time_set (start_timer n v) = time_in v
time_set (manage_timer n) = no_time

-- what an answer to a command tells of the timer n: a start and a stop that were done
unfoldable pub answer_sets : ℕ → Since → Command → Result → Since
answer_sets n x c (done r (started m)) = eqb n m ⇒ since (time_set c.body) 0 else x
answer_sets n x c (done r (leaves m t)) = eqb n m && eqb (action_of c.qualifier) stop_action ⇒ unset else x
answer_sets n x c (done r nothing) = x
answer_sets n x c (done r (opened s b g)) = x
answer_sets n x c (done r (received s left)) = x
answer_sets n x c (done r (sent room)) = x
answer_sets n x c (done r (reports s)) = x
answer_sets n x c (error e) = x
answer_sets n x c (problem cause) = x

-- the answer is read as the bench reads it
unfoldable pub heard_sets : ℕ → Since → Command → Told → Since
heard_sets n x c (told r) = answer_sets n x c r.result
heard_sets n x c (untold r) = x

-- the timer that an envelope tells
unfoldable pub envelope_timer : List ℕ → ℕ
envelope_timer s = get_or s 8 0

-- what a call and how it ended tell of the timer n; a refusal tells nothing
unfoldable pub sets_after : ℕ → Since → Call → Outcome → Since
sets_after n x (starting p) o = unset
sets_after n x (commanding terms s) (wrote t) = heard_sets n x (command_seen s) (bench_read t)
sets_after n x (commanding terms s) (refused r) = x
sets_after n x (radio buffer m act) o = x
sets_after n x (timing second) o = one_second x
sets_after n x (timing (envelope buffer)) (wrote t) = eqb n (envelope_timer t) ⇒ unset else x
sets_after n x (timing (envelope buffer)) (refused r) = x

unfoldable pub sets_from : ℕ → Since → List Exchange → Since
sets_from n x [] = x
sets_from n x (e ∷ es) = sets_from n (sets_after n x e.call e.outcome) es

-- what was seen of the timer n on the way through a list of calls from the start
abbrev pub since_of : ℕ → List ℕ → List Call → Since
since_of n p cs = sets_from n unset (seen_from (state.start p) cs)

-- the timer that this tells
unfoldable pub timer_by : Since → Timer
timer_by unset = idle
timer_by (since t k) = ltb k (seconds_of t) ⇒ running (clock_time (seconds_of t - k)) t else waiting t

-- of the timers n is the lowest that waits
pub record LowestWaiting (h : ℕ → Since) (n : ℕ) : Type 0 where
  pub from : 1 ≤ n
  pub upto : n ≤ timer_count
  pub waits_it : waits (h n) ≡ true
  pub below : (m : ℕ) → 1 ≤ m → m < n → waits (h m) ≡ false

-- none of them waits
abbrev pub NoneWaiting : (ℕ → Since) → Type 0
NoneWaiting h = (n : ℕ) → 1 ≤ n → n ≤ timer_count → waits (h n) ≡ false

-- an answer tells of the timer n
unfoldable pub tells_timer : ℕ → Option Result → Bool
tells_timer n none = false
tells_timer n (some (error e)) = false
tells_timer n (some (problem cause)) = false
tells_timer n (some (done r nothing)) = false
tells_timer n (some (done r (opened s b g))) = false
tells_timer n (some (done r (received s left))) = false
tells_timer n (some (done r (sent room))) = false
tells_timer n (some (done r (started m))) = eqb n m
tells_timer n (some (done r (leaves m t))) = eqb n m
tells_timer n (some (done r (reports s))) = false

-- a call may change the timer n: a start, a second, a command whose answer tells of it, and an envelope of it
unfoldable pub touches_timer : ℕ → Call → Outcome → Bool
touches_timer n (starting p) o = true
touches_timer n (commanding terms s) o = tells_timer n (heard o)
touches_timer n (radio buffer m act) o = false
touches_timer n (timing second) o = true
touches_timer n (timing (envelope buffer)) (wrote t) = eqb n (envelope_timer t)
touches_timer n (timing (envelope buffer)) (refused r) = false
