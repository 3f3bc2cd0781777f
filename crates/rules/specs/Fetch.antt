-- M-109, fetch bytes as they come off the line: one byte more, a burst as bytes until the first answer, and bursts in turn.
use Rattle.std.specs.Prelude.{ℕ, ◌+◌, ◌-◌, ◌≤◌, ◌<◌, ◌≡◌, refl, Bool, true, false, not, ◌||◌, List, [], ◌∷◌, ◌++◌, map, length, get_or, take, drop, ltb, eqb}
use Rattle.rules.specs.declared.Refusal.TheVariants.{ShortBuffer, CommandSize}
use Rattle.rules.specs.declared.Stage.{Stage}
use Rattle.rules.specs.declared.Stage.TheVariants.{Lacks, Overlong, Decided}
use Rattle.rules.specs.Checks.{◌⇒◌else◌, is_empty, same}
use Rattle.rules.specs.Results.{response_cap, command_cap}
use Rattle.rules.specs.Words.{number_of}
use Rattle.rules.specs.Frames.{LengthRead, len, no_length, long_length, length_at, framed}
use Rattle.rules.specs.State.{State}
use Rattle.rules.specs.Command.{Outcome, wrote, refused, Answer, answered, refusal, Terms, command}

-- of a length nothing came, or 81 alone
unfoldable pub length_to_come : List ℕ → Bool
length_to_come s = is_empty s || same s (0x81 ∷ [])

-- k bytes are here and m are lacking: none, or too many for 256 in all
unfoldable pub lacking_by : ℕ → ℕ → Stage
lacking_by k m =
    eqb m 0 ⇒ Decided else
    ltb command_cap (k + m) ⇒ Overlong else
    Lacks m

-- k bytes with this length
unfoldable pub stage_by : ℕ → LengthRead → Stage
stage_by k no_length = Decided
stage_by k (len n s) = lacking_by k (n - length s)

-- what gathered bytes are, by their outer head
unfoldable pub stage : List ℕ → Stage
stage s =
    is_empty s ⇒ Lacks 1 else
    not (eqb (get_or s 0 0) 0xD0) ⇒ Decided else
    length_to_come (drop 1 s) ⇒ Lacks 1 else
    stage_by (length s) (length_at (drop 1 s))

-- no byte; D0; D0 81; three bytes of MORE TIME; a command of four bytes without its last, and whole; 256 bytes called for, and 257; each wrong head
pub stage_of :
    map stage
    ([] ∷
    (0xD0 ∷ []) ∷
    (0xD0 ∷ 0x81 ∷ []) ∷
    (0xD0 ∷ 0x09 ∷ 0x81 ∷ []) ∷
    (0xD0 ∷ 0x02 ∷ 0x81 ∷ []) ∷
    (0xD0 ∷ 0x02 ∷ 0x81 ∷ 0x00 ∷ []) ∷
    (0xD0 ∷ 0x81 ∷ 0xFD ∷ []) ∷
    (0xD0 ∷ 0x81 ∷ 0xFE ∷ []) ∷
    (0xCF ∷ []) ∷
    (0xD0 ∷ 0x80 ∷ []) ∷
    (0xD0 ∷ 0x82 ∷ []) ∷
    (0xD0 ∷ 0x81 ∷ 0x7F ∷ []) ∷
    []) ≡
    Lacks 1 ∷ Lacks 1 ∷ Lacks 1 ∷ Lacks 8 ∷ Lacks 1 ∷ Decided ∷ Lacks 253 ∷ Overlong ∷ Decided ∷ Decided ∷ Decided ∷ Decided ∷ []
unfolding stage lacking_by stage_by length_to_come is_empty same ◌⇒◌else◌ long_length length_at
stage_of = refl

-- with further bytes these are a command of at most 256 bytes, and not with fewer than n
pub record Lacking (n : ℕ) (s : List ℕ) : Type 0 where
  pub further : List ℕ
  pub whole : framed (s ++ further) ≡ true
  pub within : length (s ++ further) ≤ command_cap
  pub some : 1 ≤ n
  pub least : (t : List ℕ) → length t < n → framed (s ++ t) ≡ false

-- with further bytes these are a command, and every such command has more than 256
pub record TooLong (s : List ℕ) : Type 0 where
  pub further : List ℕ
  pub whole : framed (s ++ further) ≡ true
  pub past : (t : List ℕ) → framed (s ++ t) ≡ true → command_cap < length (s ++ t)

-- what a stage means; where it is decided, these bytes with any behind them are no command
abbrev pub Means : Stage → List ℕ → Type 0
Means (Lacks n) s = Lacking n s
Means Overlong s = TooLong s
Means Decided s = (t : List ℕ) → is_empty t ≡ false → framed (s ++ t) ≡ false

-- what a byte comes to: these are gathered and more is to come, or the call ends and nothing is gathered
pub data Taken : Type 0 where
  gathers : List ℕ → Taken
  ends : Answer → Taken

-- a whole frame, and what can never be one, goes to the command call
unfoldable pub taken_at : State → Terms → List ℕ → Stage → Taken
taken_at a terms s (Lacks n) = gathers s
taken_at a terms s Overlong = ends (refusal a CommandSize)
taken_at a terms s Decided = ends (command a terms s)

-- one byte more
unfoldable pub one_more : State → Terms → List ℕ → ℕ → Taken
one_more a terms g b = let s = g ++ b ∷ [] in taken_at a terms s (stage s)

-- how a burst ends: the answer, what is gathered behind it, and the bytes that are left to the caller
pub record Fetched : Type 0 where
  pub answer : Answer
  pub gathered : List ℕ
  pub left : List ℕ

-- behind a byte of a burst stand the bytes s
unfoldable pub goes_on : Taken → List ℕ → (List ℕ → Fetched) → Fetched
goes_on (gathers g) s next = next g
goes_on (ends x) s next = record { answer = x; gathered = []; left = s }

-- a burst: byte after byte until the first answer; where there is none nothing is written
unfoldable pub burst : State → Terms → List ℕ → List ℕ → Fetched
burst a terms g [] = record { answer = answered a []; gathered = g; left = [] }
burst a terms g (b ∷ s) = goes_on (one_more a terms g b) s (λ (h : List ℕ). burst a terms h s)

-- the fetch call; with R1 the burst is not taken
unfoldable pub fetch : State → Terms → List ℕ → List ℕ → Fetched
fetch a terms g s =
    ltb terms.buffer response_cap ⇒ record { answer = refusal a ShortBuffer; gathered = g; left = s } else
    burst a terms g s

-- a turn of the host: the terms of its burst, and how many of the bytes not yet taken it hands in
pub record Turn : Type 0 where
  pub terms : Terms
  pub count : ℕ

-- what turns come to: the state, what is gathered, the answers and refusals in order, and the bytes not yet taken
pub record Turned : Type 0 where
  pub state : State
  pub gathered : List ℕ
  pub told : List Outcome
  pub rest : List ℕ

-- what a call tells of the bytes: nothing where more is to come, nor with R1, which tells of the buffer
unfoldable pub tellings : Outcome → List Outcome
tellings (wrote []) = []
tellings (wrote (b ∷ s)) = wrote (b ∷ s) ∷ []
tellings (refused r) = eqb (number_of r) 1 ⇒ [] else refused r ∷ []

-- turn after turn over the bytes s; those that were left are handed in again
unfoldable pub turned : State → List ℕ → List ℕ → List Turn → Turned
turned a g s [] = record { state = a; gathered = g; told = []; rest = s }
turned a g s (u ∷ us) =
    let f = fetch a u.terms g (take u.count s) in
    let r = turned f.answer.state f.gathered (f.left ++ drop u.count s) us in
    record { state = r.state; gathered = r.gathered; told = tellings f.answer.outcome ++ r.told; rest = r.rest }
