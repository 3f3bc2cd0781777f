-- "The line program": a line to a call or R9, an outcome to a printed line, and the program from lines to lines.
use Rattle.std.specs.Prelude.{ℕ, ◌+◌, ◌-◌, ◌*◌, ◌/◌, ◌%◌, Bool, true, false, ◌&&◌, ◌||◌, List, [], ◌∷◌, length, get_or, drop, ltb, leb, eqb}
use Rattle.std.proofs.Math.Option.{Option, none, some}
use Rattle.rules.specs.declared.ChannelNumber.{ChannelNumber}
use Rattle.rules.specs.declared.Refusal.TheVariants.{Unreadable}
use Rattle.rules.specs.Checks.{◌⇒◌else◌}
use Rattle.rules.specs.Results.{response_cap, event_cap}
use Rattle.rules.specs.Words.{number_of}
use Rattle.rules.specs.Pool.{grant_cap}
use Rattle.rules.specs.State.{State, start}
use Rattle.rules.specs.Reading.{pair_in}
use Rattle.rules.specs.Command.{Outcome, wrote, refused, lending}
use Rattle.rules.specs.Run.{Call, commanding, arriving, taking_out, dropping_link, step}

-- a hexadecimal digit in either case
unfoldable pub is_digit : ℕ → Bool
is_digit c = (leb 48 c && leb c 57) || (leb 65 c && leb c 70) || (leb 97 c && leb c 102)

-- what a digit stands for
unfoldable pub digit_value : ℕ → ℕ
digit_value c =
    leb c 57 ⇒ c - 48 else
    leb c 70 ⇒ c - 55 else
    c - 87

-- one byte more in front
unfoldable pub with_byte : Bool → ℕ → Option (List ℕ) → Option (List ℕ)
with_byte false b s = none
with_byte true b none = none
with_byte true b (some s) = some (b ∷ s)

-- the bytes of a line; odd digits or another character make it unreadable
unfoldable pub bytes_of : List ℕ → Option (List ℕ)
bytes_of [] = some []
bytes_of (c ∷ []) = none
bytes_of (c ∷ d ∷ l) = with_byte (is_digit c && is_digit d) (16 * digit_value c + digit_value d) (bytes_of l)

-- a frame of at most 1600 bytes
unfoldable pub frame_of : List ℕ → Option (List ℕ)
frame_of l = ltb 3200 (length l) ⇒ none else bytes_of l

-- a frame to a call: D0 a command, A0 an arrival, A1 a take, A2 a drop
unfoldable pub call_of : List ℕ → Option Call
call_of s =
    let first = get_or s 0 0 in
    let n : ChannelNumber = record { 0 = get_or s 1 0 } in
    let count = pair_in (drop 2 s) in
    eqb first 0xD0 ⇒ some (commanding (lending response_cap) s) else
    eqb first 0xA0 && leb 2 (length s) ⇒ some (arriving event_cap n (drop 2 s)) else
    eqb first 0xA1 && eqb (length s) 4 && leb count grant_cap ⇒ some (taking_out count n) else
    eqb first 0xA2 && eqb (length s) 2 ⇒ some (dropping_link event_cap n) else
    none

-- a capital digit
unfoldable pub digit_of : ℕ → ℕ
digit_of n = ltb n 10 ⇒ n + 48 else n + 55

unfoldable pub hex : List ℕ → List ℕ
hex [] = []
hex (b ∷ s) = digit_of (b / 16) ∷ digit_of (b % 16) ∷ hex s

-- a number's last decimal digit
abbrev pub last_digit : ℕ → ℕ
last_digit n = n % 10 + 48

-- how many of the four digits of a number below 10000 are zeros in front
unfoldable pub zeros_before : ℕ → ℕ
zeros_before n =
    ltb n 10 ⇒ 3 else
    ltb n 100 ⇒ 2 else
    ltb n 1000 ⇒ 1 else
    0

-- a number below 10000 in decimal, without zeros in front
unfoldable pub decimal : ℕ → List ℕ
decimal n = drop (zeros_before n) (last_digit (n / 1000) ∷ last_digit (n / 100) ∷ last_digit (n / 10) ∷ last_digit n ∷ [])

-- the bytes written, in capitals; "--" if none; or R and the number
unfoldable pub printed : Outcome → List ℕ
printed (wrote []) = 45 ∷ 45 ∷ []
printed (wrote (b ∷ s)) = hex (b ∷ s)
printed (refused r) = 82 ∷ decimal (number_of r)

-- a frame's call; a line without one is R9
unfoldable pub call_in : Option (List ℕ) → Option Call
call_in none = none
call_in (some s) = call_of s

-- the printed line and the state after it
pub record Printed : Type 0 where
  pub state : State
  pub line : List ℕ

unfoldable pub perform : State → Option Call → Printed
perform a none = record { state = a; line = printed (refused Unreadable) }
perform a (some c) = let r = step a c in record { state = r.state; line = printed r.outcome }

-- a line after the first
unfoldable pub line_step : State → List ℕ → Printed
line_step a l = perform a (call_in (frame_of l))

unfoldable pub lines_from : State → List (List ℕ) → List (List ℕ)
lines_from a [] = []
lines_from a (l ∷ ls) = let r = line_step a l in r.line ∷ lines_from r.state ls

-- the first line is the profile; an unreadable one prints R9 and counts as blank
unfoldable pub profile_then : Option (List ℕ) → List (List ℕ) → List (List ℕ)
profile_then none ls = printed (refused Unreadable) ∷ lines_from (start []) ls
profile_then (some p) ls = lines_from (start p) ls

-- the whole program, from lines to lines
unfoldable pub program : List (List ℕ) → List (List ℕ)
program [] = []
program (l ∷ ls) = profile_then (frame_of l) ls
