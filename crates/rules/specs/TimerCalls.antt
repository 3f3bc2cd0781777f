-- M-102, the calls of timers: a second passes, and the envelope of the lowest timer that waits; with R1 and R10.
use Rattle.std.specs.Prelude.{ℕ, ◌+◌, [], map, ltb, eqb}
use Rattle.rules.specs.declared.Refusal.TheVariants.{ShortBuffer, NoneWaits}
use Rattle.rules.specs.Checks.{◌⇒◌else◌}
use Rattle.rules.specs.Results.{envelope_cap}
use Rattle.rules.specs.Timers.{timer_count, idle, ticked, started_of, before_waiting}
use Rattle.rules.specs.State.{State, timer, with_timers, with_timer}
use Rattle.rules.specs.Written.{envelope_bytes}
use Rattle.rules.specs.Command.{Answer, answered, refusal}

-- a second passes: every timer that runs loses it
unfoldable pub passing : State → Answer
passing a = answered (with_timers a (map ticked a.timers)) []

-- the lowest timer that waits is told, with the time that it was started with, and waits no more
unfoldable pub enveloping : State → ℕ → Answer
enveloping a buffer =
    let k = before_waiting a.timers in
    let n = k + 1 in
    ltb buffer envelope_cap ⇒ refusal a ShortBuffer else
    eqb k timer_count ⇒ refusal a NoneWaits else
    answered (with_timer a n idle) (envelope_bytes n (started_of (timer a n)))

-- what the host does with the timers
pub data TimerAct : Type 0 where
  second : TimerAct
  envelope : ℕ → TimerAct

abbrev pub timer_call : State → TimerAct → Answer
timer_call a second = passing a
timer_call a (envelope buffer) = enveloping a buffer
