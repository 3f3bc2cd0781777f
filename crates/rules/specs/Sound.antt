-- What the start and every call keep: a sound state, and answers of a bounded size.
use Rattle.std.specs.Prelude.{ℕ, ◌≤◌, ◌≡◌, true, false, List, [], ◌∷◌, length}
use Rattle.rules.specs.declared.Way.{Way}
use Rattle.rules.specs.declared.Way.TheVariants.{Send}
use Rattle.rules.specs.Results.{response_cap, event_cap, envelope_cap}
use Rattle.rules.specs.Timers.{timer_count, Timer, idle, running, waiting, is_time}
use Rattle.rules.specs.State.{State, Chan, is_stream, queue, held, due, places_used}
use Rattle.rules.specs.Profile.{profile_size}
use Rattle.rules.specs.Datagrams.{place_count, total}
use Rattle.rules.specs.Pool.{cell_count, grant_cap, promised}
use Rattle.rules.specs.Command.{Outcome, wrote, refused}
use Rattle.rules.specs.Radio.{RadioAct, arrives, takes, drops}
use Rattle.rules.specs.TimerCalls.{TimerAct, second, envelope}
use Rattle.rules.specs.Run.{Call, starting, commanding, radio, timing}

-- every element has the property
abbrev pub Each : {A : Type 0} → (A → Type 0) → List A → Type 0
Each P [] = Unit {0}
Each P (x ∷ xs) = P x × Each P xs

-- the datagrams of a way: a stream has none; they have bytes, and all that are due; at most 16 are held, the unfinished one included
pub record SoundLengths (c : Chan) (w : Way) : Type 0 where
  pub none : is_stream c.carries ≡ true → (queue c w).lengths ≡ []
  pub some : Each (λ (k : ℕ). 1 ≤ k) (queue c w).lengths
  pub all : is_stream c.carries ≡ false → total (queue c w).lengths ≡ due c w
  pub few : places_used c w ≤ place_count

-- a channel: held at most the grant each way, the grant within the cap, ready bytes among those held, and its datagrams
pub record SoundChan (c : Chan) : Type 0 where
  pub capped : c.grant ≤ grant_cap
  pub fits : (w : Way) → length (held c w) ≤ c.grant
  pub ready_held : c.ready ≤ length (held c Send)
  pub lengths : (w : Way) → SoundLengths c w

-- a timer has times from one second up to 23:59:59
abbrev pub SoundTimer : Timer → Type 0
SoundTimer idle = Unit {0}
SoundTimer (running left from) = (is_time left ≡ true) × (is_time from ≡ true)
SoundTimer (waiting from) = is_time from ≡ true

-- a state: thirteen bytes of profile, seven sound channels, at most 256 cells promised, eight sound timers
pub record Sound (a : State) : Type 0 where
  pub thirteen : length a.profile ≡ profile_size
  pub seven : length a.chans ≡ 7
  pub each : Each SoundChan a.chans
  pub within : promised a ≤ cell_count
  pub eight : length a.timers ≡ timer_count
  pub timed : Each SoundTimer a.timers

-- the most bytes that a call writes: 255 for a response, 16 for an event, as many as are asked for by a take, 14 for an envelope
abbrev pub radio_most : ℕ → RadioAct → ℕ
radio_most buffer (arrives s) = event_cap
radio_most buffer takes = buffer
radio_most buffer drops = event_cap

abbrev pub timer_most : TimerAct → ℕ
timer_most second = 0
timer_most (envelope buffer) = envelope_cap

abbrev pub most : Call → ℕ
most (starting p) = 0
most (commanding terms s) = response_cap
most (radio buffer n act) = radio_most buffer act
most (timing act) = timer_most act

-- an outcome of at most so many bytes
abbrev pub Within : ℕ → Outcome → Type 0
Within k (wrote s) = length s ≤ k
Within k (refused r) = Unit {0}
