-- Records that the code handed back: each follows from the one before by the contract of a public call.
use Rattle.std.specs.Prelude.{ℕ, ◌≡◌, List, [], ◌∷◌, length}
use Rattle.rules.specs.State.{start}
use Rattle.rules.specs.Command.{Outcome, wrote, Answer, command, Terms}
use Rattle.rules.specs.Fetch.{Fetched, fetch}
use Rattle.rules.specs.Radio.{radio_call}
use Rattle.rules.specs.TimerCalls.{TimerAct, second, envelope, timer_call}
use Rattle.rules.specs.Run.{Call, starting, commanding, radio, timing}
use Rattle.rules.specs.History.{Exchange}
use Rattle.session.specs.declared.Session.{Session}
use Rattle.rules.specs.Words.{Ended}
use Rattle.session.specs.Picture.{Good, Shows, view}
use Rattle.session.specs.Calls.{Answers}
use Rattle.text.specs.Prints.{outcome_of}
use Rattle.rules.specs.Acts.{Act, calls, bursts, clears, burst_seen, gathered_by}
use Rattle.rules.specs.Separation.{Shown}
use Rattle.fetch.specs.Gathers.{gathered_of, gathered_in, Gathers, Leaves}

-- a call with a buffer of so many bytes left the record t, and this could be seen of it
pub record Left (x : Answer) (buffer : ℕ) (t : Session) (o : Outcome) : Type 0 where
  pub before : List ℕ
  pub after : List ℕ
  pub ended : Ended
  pub size : length before ≡ buffer
  pub answers : Answers x t.ledger t.pool ended before after
  pub seen : o ≡ outcome_of ended after

-- a start left the record t
pub record Started (p : List ℕ) (t : Session) (o : Outcome) : Type 0 where
  pub shows : Shows (start p) t.ledger t.pool
  pub good : Good t
  pub seen : o ≡ wrote []

-- the buffer that is lent to a call of the timers; a second has none
abbrev pub timer_buffer : TimerAct → ℕ
timer_buffer second = 0
timer_buffer (envelope buffer) = buffer

-- the record t follows from the record s by the contract of a call, which ended so
abbrev pub Called : Session → Call → Session → Outcome → Type 0
Called s (starting p) t o = Started p t o
Called s (commanding terms c) t o = Left (command (view s) terms c) terms.buffer t o
Called s (radio buffer n act) t o = Left (radio_call (view s) buffer n act) buffer t o
Called s (timing act) t o = Left (timer_call (view s) act) (timer_buffer act) t o

-- the record t follows from s by these calls, which ended so
abbrev pub Runs : Session → List Exchange → Session → Type 0
Runs s [] t = s ≡ t
Runs s (e ∷ es) t = (m : Session) × Called s e.call m e.outcome × Runs m es t

-- the record came from a start with this profile, and from these calls
pub record Reached (p : List ℕ) (es : List Exchange) (s : Session) : Type 0 where
  pub first : Session
  pub begun : Started p first (wrote [])
  pub run : Runs first es s

-- a burst with a buffer of so many bytes left the record t and the gathered record r, and this could be seen of it
pub record Burst (f : Fetched) (buffer : ℕ) (t : Session) (r : List ℕ) (o : Outcome) (left : ℕ) : Type 0 where
  pub before : List ℕ
  pub after : List ℕ
  pub ended : Ended
  pub size : length before ≡ buffer
  pub leaves : Leaves f t.ledger t.pool r ended before after
  pub told : o ≡ outcome_of ended after
  pub count : left ≡ length f.left

-- a burst over the record s and the gathered record g: the record t follows by what is seen of it, what is gathered is what was seen, and the record of that may be lent to the next burst
pub record BurstFollows (s : Session) (g : List ℕ) (terms : Terms) (bytes : List ℕ) (t : Session) (r : List ℕ) (o : Outcome) (left : ℕ) : Type 0 where
  pub runs : Runs s (burst_seen terms (gathered_in g) bytes left o) t
  pub gathered : gathered_in r ≡ gathered_by (gathered_in g) bytes o
  pub gathers : Gathers r

-- the record t and the gathered record r follow from s and g by an act of the host, of which this was seen
abbrev pub ActedOn : Session → List ℕ → Act → Session → List ℕ → Shown → Type 0
ActedOn s g (calls c) t r o = Called s c t o.outcome × (g ≡ r) × (o.left ≡ 0)
ActedOn s g (bursts terms bytes) t r o = Burst (fetch (view s) terms (gathered_in g) bytes) terms.buffer t r o.outcome o.left
ActedOn s g clears t r o = (s ≡ t) × (r ≡ gathered_of []) × (o ≡ record { outcome = wrote []; left = 0 })

-- and by these acts, act by act
abbrev pub ActsOn : Session → List ℕ → List Act → List Shown → Session → List ℕ → Type 0
ActsOn s g [] [] t r = (s ≡ t) × (g ≡ r)
ActsOn s g [] (o ∷ os) t r = ⊥
ActsOn s g (x ∷ xs) [] t r = ⊥
ActsOn s g (x ∷ xs) (o ∷ os) t r = (m : Session) × (k : List ℕ) × ActedOn s g x m k o × ActsOn m k xs os t r

-- the two records came from a start with this profile, from a start of what is gathered, and from these acts
pub record Hosted (p : List ℕ) (xs : List Act) (os : List Shown) (s : Session) (r : List ℕ) : Type 0 where
  pub first : Session
  pub begun : Started p first (wrote [])
  pub acts : ActsOn first (gathered_of []) xs os s r
