-- A call, one step, and a run over a list of calls from the start.
use Rattle.std.specs.Prelude.{ℕ, List, [], ◌∷◌}
use Rattle.rules.specs.declared.ChannelNumber.{ChannelNumber}
use Rattle.rules.specs.State.{State, start}
use Rattle.rules.specs.Command.{Outcome, Answer, answered, Terms, command}
use Rattle.rules.specs.Radio.{RadioAct, arrives, takes, drops, radio_call}
use Rattle.rules.specs.TimerCalls.{TimerAct, timer_call}

-- a call: a start with a profile, a command on its terms, what the radio does with a channel over a buffer of so many bytes, or what the host does with the timers
pub data Call : Type 0 where
  starting : List ℕ → Call
  commanding : Terms → List ℕ → Call
  radio : ℕ → ChannelNumber → RadioAct → Call
  timing : TimerAct → Call

-- the radio's calls, each by its name
abbrev pub arriving : ℕ → ChannelNumber → List ℕ → Call
arriving buffer n s = radio buffer n (arrives s)

abbrev pub taking_out : ℕ → ChannelNumber → Call
taking_out buffer n = radio buffer n takes

abbrev pub dropping_link : ℕ → ChannelNumber → Call
dropping_link buffer n = radio buffer n drops

-- one step; starting anew is a card reset
unfoldable pub step : State → Call → Answer
step a (starting p) = answered (start p) []
step a (commanding terms s) = command a terms s
step a (radio buffer n act) = radio_call a buffer n act
step a (timing act) = timer_call a act

-- the state after a list of calls
unfoldable pub after : State → List Call → State
after a [] = a
after a (c ∷ cs) = after (step a c).state cs

-- how each of a list of calls ended
unfoldable pub outcomes : State → List Call → List Outcome
outcomes a [] = []
outcomes a (c ∷ cs) = let r = step a c in r.outcome ∷ outcomes r.state cs

-- a run from the start
unfoldable pub run : List ℕ → List Call → List Outcome
run p cs = outcomes (start p) cs
