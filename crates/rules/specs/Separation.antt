-- M-110, one application's data tells nothing to another: two runs that differ in the data of one channel, and what of how they end may differ;
-- first of calls, then of acts, bursts among them; last what two states and the gathered bytes behind them have in common.
use Rattle.std.specs.Prelude.{ℕ, zero, suc, ◌+◌, ◌-◌, ◌≡◌, List, [], ◌∷◌, ◌++◌, length, get_or, take, eqb}
use Rattle.std.proofs.Math.Option.{Option, none, some}
use Rattle.rules.specs.declared.ChannelNumber.{ChannelNumber}
use Rattle.rules.specs.declared.Details.{Details}
use Rattle.rules.specs.declared.Stage.TheVariants.{Lacks}
use Rattle.rules.specs.declared.Way.{Way}
use Rattle.rules.specs.Checks.{◌⇒◌else◌}
use Rattle.rules.specs.Frames.{ObjectRead, object, faulty, object_at, length_bytes, walk, contents}
use Rattle.rules.specs.Table.{value_of}
use Rattle.rules.specs.State.{State, Chan, start, queue, held}
use Rattle.rules.specs.Reading.{details_in}
use Rattle.rules.specs.Own.{done, received}
use Rattle.rules.specs.Written.{response_bytes}
use Rattle.rules.specs.Command.{Outcome, wrote, Terms}
use Rattle.rules.specs.Fetch.{stage, fetch}
use Rattle.rules.specs.Run.{Call, commanding, arriving, taking_out, step}
use Rattle.rules.specs.Acts.{Act, calls, bursts, clears}

-- a command of this type to the channel n: by the first 01 and the first 02 that the walk meets, whatever the later steps say
pub record Asks (kind : ℕ) (n : ChannelNumber) (s : List ℕ) : Type 0 where
  pub typed : (details_in (value_of 0x01 (walk (contents s)).objects)).kind ≡ kind
  pub to : get_or (value_of 0x02 (walk (contents s)).objects) 1 0 ≡ 0x20 + n.0

-- the value of an object 36, and the bytes behind it
pub record Found : Type 0 where
  pub value : List ℕ
  pub behind : List ℕ

-- the first one that a walk over at most so many objects meets
unfoldable pub or_on : ObjectRead → (List ℕ → Option Found) → Option Found
or_on (faulty e) k = none
or_on (object o r) k = eqb 0x36 o.number ⇒ some (record { value = o.value; behind = r }) else k r

unfoldable pub first_up_to : ℕ → List ℕ → Option Found
first_up_to zero s = none
first_up_to (suc n) s = or_on (object_at s) (first_up_to n)

abbrev pub first_data : List ℕ → Option Found
first_data s = first_up_to (length s) s

-- a right frame around the bytes of a command's objects
abbrev pub framing : List ℕ → List ℕ
framing s = 0xD0 ∷ (length_bytes (length s) ++ s)

-- two SEND DATA to the channel n in right frames, equal but for the data, which is as long: the value of the first 36 that the walk meets
pub record OtherData (n : ChannelNumber) (s t : List ℕ) : Type 0 where
  pub front : List ℕ
  pub value : List ℕ
  pub other : List ℕ
  pub behind : List ℕ
  pub stands : s ≡ framing (front ++ (value ++ behind))
  pub replaced : t ≡ framing (front ++ (other ++ behind))
  pub long : length value ≡ length other
  pub found : first_data (front ++ (value ++ behind)) ≡ some (record { value = value; behind = behind })
  pub sends : Asks 0x43 n s

-- two calls: equal, or with other data of the channel n
pub data LikeCall (n : ChannelNumber) : Call → Call → Type 0 where
  equal : (c : Call) → LikeCall n c c
  arrives : (buffer : ℕ) (s t : List ℕ) → length s ≡ length t → LikeCall n (arriving buffer n s) (arriving buffer n t)
  sends : (terms : Terms) (s t : List ℕ) → OtherData n s t → LikeCall n (commanding terms s) (commanding terms t)

-- an answer to RECEIVE DATA
abbrev pub handing : Details → ℕ → List ℕ → ℕ → Outcome
handing d x v left = wrote (response_bytes (record { details = d; result = done x (received v left) }))

-- how two such calls may end: equally, or with other data in the answer to RECEIVE DATA on n or in a take on n, as many bytes
pub data LikeOutcome (n : ChannelNumber) : Call → Outcome → Outcome → Type 0 where
  equal : (c : Call) (o : Outcome) → LikeOutcome n c o o
  hands :
      (terms : Terms) (s : List ℕ) (d : Details) (x : ℕ) (v w : List ℕ) (left : ℕ) → Asks 0x42 n s → length v ≡ length w →
      LikeOutcome n (commanding terms s) (handing d x v left) (handing d x w left)
  takes : (buffer : ℕ) (v w : List ℕ) → length v ≡ length w → LikeOutcome n (taking_out buffer n) (wrote v) (wrote w)

-- lists of as many calls, call by call
pub data LikeCalls (n : ChannelNumber) : List Call → List Call → Type 0 where
  ends : LikeCalls n [] []
  more : (c d : Call) (cs ds : List Call) → LikeCall n c d → LikeCalls n cs ds → LikeCalls n (c ∷ cs) (d ∷ ds)

-- and how each ends
pub data LikeOutcomes (n : ChannelNumber) : List Call → List Outcome → List Outcome → Type 0 where
  ends : LikeOutcomes n [] [] []
  more :
      (c : Call) (o q : Outcome) (cs : List Call) (os qs : List Outcome) →
      LikeOutcome n c o q → LikeOutcomes n cs os qs → LikeOutcomes n (c ∷ cs) (o ∷ os) (q ∷ qs)

-- M-109: the outer head of bytes, D0 and the length, which 81 makes one byte longer
unfoldable pub outer_head : List ℕ → List ℕ
outer_head s = take (eqb (get_or s 1 0) 0x81 ⇒ 3 else 2) s

-- all bytes taken since the last answer: equal; two SEND DATA with other data; or, of a command that is not whole yet, as many with the same outer head
pub data LikeTaken (n : ChannelNumber) : List ℕ → List ℕ → Type 0 where
  equal : (s : List ℕ) → LikeTaken n s s
  sends : (s t : List ℕ) → OtherData n s t → LikeTaken n s t
  begun : (s t : List ℕ) (k : ℕ) → stage s ≡ Lacks k → length s ≡ length t → outer_head s ≡ outer_head t → LikeTaken n s t

-- what is seen of an act: how it ended, and how many bytes of a burst are left
pub record Shown : Type 0 where
  pub outcome : Outcome
  pub left : ℕ

-- what an act comes to: the state, what is gathered, and what is seen of it
pub record Did : Type 0 where
  pub state : State
  pub gathered : List ℕ
  pub shown : Shown

-- one act
unfoldable pub does : State → List ℕ → Act → Did
does a g (calls c) = let r = step a c in record { state = r.state; gathered = g; shown = record { outcome = r.outcome; left = 0 } }
does a g (bursts terms s) =
    let f = fetch a terms g s in
    record { state = f.answer.state; gathered = f.gathered; shown = record { outcome = f.answer.outcome; left = length f.left } }
does a g clears = record { state = a; gathered = []; shown = record { outcome = wrote []; left = 0 } }

-- what is seen of a list of acts
unfoldable pub shown_by : State → List ℕ → List Act → List Shown
shown_by a g [] = []
shown_by a g (x ∷ xs) = let r = does a g x in r.shown ∷ shown_by r.state r.gathered xs

-- what is gathered, and what a burst s takes behind it: both go by the terms and the bytes, whatever the session
abbrev pub gathered_after_lem : List ℕ → Act → List ℕ
gathered_after_lem g x = (does (start []) g x).gathered

abbrev pub taken_by : Terms → List ℕ → List ℕ → List ℕ
taken_by terms g s = g ++ take (length s - length (fetch (start []) terms g s).left) s

-- two acts beside the gathered bytes g and h: calls that are alike, or bursts of as many bytes on equal terms
pub data LikeAct (n : ChannelNumber) (g h : List ℕ) : Act → Act → Type 0 where
  called : (c d : Call) → LikeCall n c d → LikeAct n g h (calls c) (calls d)
  burst :
      (terms : Terms) (s t : List ℕ) → length s ≡ length t → LikeTaken n (taken_by terms g s) (taken_by terms h t) →
      LikeAct n g h (bursts terms s) (bursts terms t)
  cleared : LikeAct n g h clears clears

-- and what may differ in what is seen of them: a burst ends as the command of all bytes taken would
pub data LikeShown (n : ChannelNumber) (g : List ℕ) : Act → Shown → Shown → Type 0 where
  equal : (x : Act) (o : Shown) → LikeShown n g x o o
  called :
      (c : Call) (o q : Outcome) → LikeOutcome n c o q → LikeShown n g (calls c) (record { outcome = o; left = 0 }) (record { outcome = q; left = 0 })
  burst :
      (terms : Terms) (s : List ℕ) (o q : Outcome) (left : ℕ) → LikeOutcome n (commanding terms (taken_by terms g s)) o q →
      LikeShown n g (bursts terms s) (record { outcome = o; left = left }) (record { outcome = q; left = left })

-- lists of as many acts, act by act
pub data LikeActs (n : ChannelNumber) : List ℕ → List ℕ → List Act → List Act → Type 0 where
  ends : (g h : List ℕ) → LikeActs n g h [] []
  more :
      (g h : List ℕ) (x y : Act) (xs ys : List Act) → LikeAct n g h x y → LikeActs n (gathered_after_lem g x) (gathered_after_lem h y) xs ys →
      LikeActs n g h (x ∷ xs) (y ∷ ys)

-- and what is seen of each
pub data LikeShowns (n : ChannelNumber) : List ℕ → List Act → List Shown → List Shown → Type 0 where
  ends : (g : List ℕ) → LikeShowns n g [] [] []
  more :
      (g : List ℕ) (x : Act) (o q : Shown) (xs : List Act) (os qs : List Shown) → LikeShown n g x o q → LikeShowns n (gathered_after_lem g x) xs os qs →
      LikeShowns n g (x ∷ xs) (o ∷ os) (q ∷ qs)

-- two channels that hold other bytes, as many
pub record LikeChan (c d : Chan) : Type 0 where
  pub grant : c.grant ≡ d.grant
  pub link : c.link ≡ d.link
  pub carries : c.carries ≡ d.carries
  pub counts : (w : Way) → length (held c w) ≡ length (held d w)
  pub lengths : (w : Way) → (queue c w).lengths ≡ (queue d w).lengths
  pub ready : c.ready ≡ d.ready

-- channels that are equal but at place k, where they hold other bytes, as many
unfoldable pub LikeAt : ℕ → List Chan → List Chan → Type 0
LikeAt k [] [] = Unit {0}
LikeAt k [] (d ∷ ds) = ⊥
LikeAt k (c ∷ cs) [] = ⊥
LikeAt zero (c ∷ cs) (d ∷ ds) = LikeChan c d × (cs ≡ ds)
LikeAt (suc k) (c ∷ cs) (d ∷ ds) = (c ≡ d) × LikeAt k cs ds

-- states that are equal but for the bytes that the channel n holds, as many
pub record Like (n : ChannelNumber) (a b : State) : Type 0 where
  pub profile : a.profile ≡ b.profile
  pub events : a.events ≡ b.events
  pub chans : LikeAt (n.0 - 1) a.chans b.chans
  pub timers : a.timers ≡ b.timers

-- the gathered bytes: of a command that is not whole, as many in both, with the same outer head
pub record LikeGathered (g h : List ℕ) : Type 0 where
  pub count : ℕ
  pub lacks : stage g ≡ Lacks count
  pub long : length g ≡ length h
  pub head : outer_head g ≡ outer_head h
