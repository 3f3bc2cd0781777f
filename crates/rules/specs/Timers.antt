-- M-102, timers: a time as swapped digits, what a timer is, and what a second does to it.
use Rattle.std.specs.Prelude.{ℕ, ◌+◌, ◌-◌, ◌*◌, ◌/◌, ◌%◌, ◌≡◌, refl, Bool, true, false, not, ◌&&◌, List, [], ◌∷◌, map, get_or, ltb, leb, eqb}
use Rattle.rules.specs.declared.Details.{Details}
use Rattle.rules.specs.declared.Time.{Time}
use Rattle.rules.specs.Checks.{◌⇒◌else◌}

-- what is done with a timer: the qualifier's two low bits
unfoldable pub action_of : ℕ → ℕ
action_of q = q % 4

abbrev pub start_action : ℕ
start_action = 0

abbrev pub stop_action : ℕ
stop_action = 1

abbrev pub ask_action : ℕ
ask_action = 2

abbrev pub no_action : ℕ
no_action = 3

-- a command with these details starts a timer
unfoldable pub is_start : Details → Bool
is_start d = eqb d.kind 0x27 && eqb (action_of d.qualifier) start_action

-- eight timers, by their numbers
abbrev pub timer_count : ℕ
timer_count = 8

unfoldable pub is_timer : ℕ → Bool
is_timer n = leb 1 n && leb n timer_count

-- a number below 100 as swapped digits, its tens in the low half of the byte
unfoldable pub swapped : ℕ → ℕ
swapped n = 16 * (n % 10) + n / 10

-- and back
unfoldable pub unswapped : ℕ → ℕ
unswapped b = 10 * (b % 16) + b / 16

-- both halves of a byte are digits
unfoldable pub is_digits : ℕ → Bool
is_digits b = ltb (b % 16) 10 && ltb (b / 16) 10

pub swapped_of : map swapped (0 ∷ 5 ∷ 23 ∷ 59 ∷ []) ≡ 0x00 ∷ 0x50 ∷ 0x32 ∷ 0x95 ∷ []
unfolding swapped
swapped_of = refl

-- a time of so many hours, minutes and seconds
abbrev pub time : ℕ → ℕ → ℕ → Time
time h m s = record { hours = h; minutes = m; seconds = s }

-- hours, minutes and seconds, a byte each
unfoldable pub time_in : List ℕ → Time
time_in v = record { hours = unswapped (get_or v 0 0); minutes = unswapped (get_or v 1 0); seconds = unswapped (get_or v 2 0) }

unfoldable pub time_bytes : Time → List ℕ
time_bytes t = swapped t.hours ∷ swapped t.minutes ∷ swapped t.seconds ∷ []

-- hours up to 23, minutes and seconds up to 59
unfoldable pub of_day : Time → Bool
of_day t = leb t.hours 23 && leb t.minutes 59 && leb t.seconds 59

unfoldable pub is_zero : Time → Bool
is_zero t = eqb t.hours 0 && eqb t.minutes 0 && eqb t.seconds 0

-- from one second up to 23:59:59
unfoldable pub is_time : Time → Bool
is_time t = of_day t && not (is_zero t)

-- the last time of a day, and each bound passed; a second, and none
pub times_of :
    map is_time (time 23 59 59 ∷ time 24 0 0 ∷ time 0 60 0 ∷ time 0 0 60 ∷ time 0 0 1 ∷ time 0 0 0 ∷ []) ≡ true ∷ false ∷ false ∷ false ∷ true ∷ false ∷ []
unfolding is_time of_day is_zero
times_of = refl

abbrev pub no_time : Time
no_time = record { hours = 0; minutes = 0; seconds = 0 }

-- a second less than a time that is not zero
unfoldable pub less_second : Time → Time
less_second t =
    leb 1 t.seconds ⇒ record { hours = t.hours; minutes = t.minutes; seconds = t.seconds - 1 } else
    leb 1 t.minutes ⇒ record { hours = t.hours; minutes = t.minutes - 1; seconds = 59 } else
    record { hours = t.hours - 1; minutes = 59; seconds = 59 }

-- a timer neither runs nor waits; or runs, with the time left and the time that it was started with; or came to zero and waits
pub data Timer : Type 0 where
  idle : Timer
  running : Time → Time → Timer
  waiting : Time → Timer

-- one that comes to zero stops and waits
unfoldable pub runs_on : Time → Time → Timer
runs_on left from = is_zero left ⇒ waiting from else running left from

-- a second passes
unfoldable pub ticked : Timer → Timer
ticked idle = idle
ticked (running left from) = runs_on (less_second left) from
ticked (waiting from) = waiting from

unfoldable pub is_waiting : Timer → Bool
is_waiting idle = false
is_waiting (running left from) = false
is_waiting (waiting from) = true

-- the time left, and the time that it was started with; zero where there is none
unfoldable pub left_of : Timer → Time
left_of idle = no_time
left_of (running left from) = left
left_of (waiting from) = no_time

unfoldable pub started_of : Timer → Time
started_of idle = no_time
started_of (running left from) = from
started_of (waiting from) = from

-- how many timers stand before the first that waits; all of them where none does
unfoldable pub before_waiting : List Timer → ℕ
before_waiting [] = 0
before_waiting (t ∷ ts) = let k = before_waiting ts in is_waiting t ⇒ 0 else k + 1
