-- That a memory is good has one proof at most.
use Rattle.std.specs.Prelude.{ℕ, ◌≤◌, List, [], ◌∷◌}
use denote.Struct.Props.{props}
use mathlib.Core.HLevel.{×_prop, Unit-prop}
use Rattle.rules.specs.Timers.{Timer, idle, running, waiting}
use Rattle.rules.specs.State.{State, Chan}
use Rattle.rules.specs.declared.Way.{Way}
use Rattle.rules.specs.Sound.{Each, SoundLengths, SoundChan, SoundTimer, Sound}
use Rattle.tools.specs.Tools.{Memory, GoodMemory}

Each-prop : {A : Type 0} (P : A → Type 0) → ((x : A) → IsProp (P x)) → (s : List A) → IsProp (Each P s)
Each-prop P p [] = Unit-prop
Each-prop P p (x ∷ s) = ×_prop (p x) (Each-prop P p s)

SoundLengths-prop : (c : Chan) (w : Way) → IsProp (SoundLengths c w)
SoundLengths-prop c w = let e = Each-prop (λ (k : ℕ). 1 ≤ k) (λ k. hlevel props) in hlevel (props, e)

SoundChan-prop : (c : Chan) → IsProp (SoundChan c)
SoundChan-prop c = hlevel (props, SoundLengths-prop)

SoundTimer-prop : (t : Timer) → IsProp (SoundTimer t)
SoundTimer-prop idle = hlevel props
SoundTimer-prop (running left from) = hlevel props
SoundTimer-prop (waiting from) = hlevel props

Sound-prop : (a : State) → IsProp (Sound a)
Sound-prop a = let e = Each-prop SoundChan SoundChan-prop in let t = Each-prop SoundTimer SoundTimer-prop in hlevel (props, e, t)

pub GoodMemory-prop : (m : Memory) → IsProp (GoodMemory m)
GoodMemory-prop m = hlevel (props, Sound-prop)
