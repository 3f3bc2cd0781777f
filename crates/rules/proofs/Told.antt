-- What the answers tell is true of the state after them, and the first steps of a reading, one by one.
-- Assumes nothing.
use Prim.Native.Nat.{ℕ, zero, suc, ◌+◌, ◌-◌, ◌%◌, ◌≤◌, ◌<◌}
use mathlib.Core.Path.{◌≡◌, refl, ap, ◌∙◌}
use mathlib.Core.Bool.{true}
use mathlib.Core.List.{List, [], ◌∷◌, ◌++◌}
use native.Mathlib.Omega.{arith}
use lib.ListN.{length, get_or, replicate}
use lib.Seq.{get_or-set_same, get_or-set_other, get_or-take}
use Rattle.rules.specs.declared.ChannelNumber.{ChannelNumber}
use Rattle.rules.specs.declared.DeviceIdentity.{DeviceIdentity}
use Rattle.rules.specs.declared.Ending.{Ending}
use Rattle.rules.specs.declared.Refusal.{Refusal}
use Rattle.rules.specs.declared.Refusal.TheVariants.{ShortBuffer, CommandSize, NoChannel, Unopened, Unlinked, Overfull, UnfitRecord, NoResponse, Unreadable, NoneWaits, NoPlace, Undersized, Malformed, ShortText, Unmendable, NoRecord, WrongCount}
use Rattle.rules.specs.Checks.{◌⇒◌else◌, is_empty}
use Rattle.rules.specs.Words.{number_of, refusal_of, identity_of, channel_of}
use Rattle.rules.specs.Frames.{ObjectRead, faulty, object_at, onward, walk_up_to, walk}
use Rattle.rules.specs.Profile.{bit, kept}
use Rattle.rules.specs.declared.Way.{Way}
use Rattle.rules.specs.declared.Way.TheVariants.{Receive, Send}
use Rattle.rules.specs.State.{State, Chan, closed, is_open, chan, with_chan, queue, with_queue, held, joined, counting, appended, whole, arrived}
use Rattle.rules.specs.Reading.{read_objects, wrong, zeros}
use Rattle.rules.specs.Command.{Answer, wrote}
use Rattle.rules.specs.Radio.{arrival}
use Rattle.rules.proofs.Laws.{branch, stop, skip}
use Rattle.rules.proofs.Cases.{arrival_cases}
use Rattle.rules.proofs.Soundness.{open_place}

-- a refusal and its number, there and back
pub refusal_back : (r : Refusal) → refusal_of (number_of r) ≡ r
unfolding refusal_of ◌⇒◌else◌
refusal_back ShortBuffer = refl
refusal_back CommandSize = refl
refusal_back NoChannel = refl
refusal_back Unopened = refl
refusal_back Unlinked = refl
refusal_back Overfull = refl
refusal_back UnfitRecord = refl
refusal_back NoResponse = refl
refusal_back Unreadable = refl
refusal_back NoneWaits = refl
refusal_back NoPlace = refl
refusal_back Undersized = refl
refusal_back Malformed = refl
refusal_back ShortText = refl
refusal_back Unmendable = refl
refusal_back NoRecord = refl
refusal_back WrongCount = refl

-- the numbers of refusals are small
pub number_small : (r : Refusal) → number_of r ≤ 18
number_small ShortBuffer = omega arith
number_small CommandSize = omega arith
number_small NoChannel = omega arith
number_small Unopened = omega arith
number_small Unlinked = omega arith
number_small Overfull = omega arith
number_small UnfitRecord = omega arith
number_small NoResponse = omega arith
number_small Unreadable = omega arith
number_small NoneWaits = omega arith
number_small NoPlace = omega arith
number_small Undersized = omega arith
number_small Malformed = omega arith
number_small ShortText = omega arith
number_small Unmendable = omega arith
number_small NoRecord = omega arith
number_small WrongCount = omega arith

-- a channel's number and its identity, there and back
pub number_back : (c : ChannelNumber) → c.0 < 256 → channel_of (identity_of c) ≡ c
number_back c h = let e : ((c.0 + 0x20) % 256 + 0xE0) % 256 ≡ c.0 = omega arith in λ i. record { 0 = e i }

pub identity_back : (d : DeviceIdentity) → d.0 < 256 → identity_of (channel_of d) ≡ d
identity_back d h = let e : ((d.0 + 0xE0) % 256 + 0x20) % 256 ≡ d.0 = omega arith in λ i. record { 0 = e i }

-- the identities 21 to 27 are the channels 1 to 7: 20 plus the number
pub identity_is : (c : ChannelNumber) → c.0 ≤ 7 → (identity_of c).0 ≡ 0x20 + c.0
identity_is c h = omega arith

-- what a session keeps of a profile has every bit of it, and 0 past its end
zero_get : (m k : ℕ) → ◌≡◌ {A = ℕ} (get_or (replicate m 0) k 0) 0
zero_get zero k = refl
zero_get (suc m) zero = refl
zero_get (suc m) (suc k) = zero_get m k

padded_get : (p : List ℕ) (m k : ℕ) → get_or (p ++ replicate m 0) k 0 ≡ get_or p k 0
padded_get [] m k = zero_get m k
padded_get (x ∷ p) m zero = refl
padded_get (x ∷ p) m (suc k) = padded_get p m k

pub kept_byte : (p : List ℕ) (k : ℕ) → k < 13 → get_or (kept p) k 0 ≡ get_or p k 0
unfolding kept
kept_byte p k h = get_or-take 13 (p ++ replicate 13 0) k 0 h ∙ padded_get p 13 k

pub kept_bit : (p : List ℕ) (byte n : ℕ) → 1 ≤ byte → byte ≤ 13 → bit (kept p) byte n ≡ bit p byte n
unfolding bit
kept_bit p byte n h₁ h₁₃ = rw (kept_byte p (byte - 1) (omega arith))

-- the changed channel is read back, and the others stay
pub chan_changed : (a : State) (n : ChannelNumber) (c : Chan) → n.0 - 1 < length a.chans → chan (with_chan a n c) n ≡ c
unfolding chan with_chan
chan_changed a n c h = get_or-set_same a.chans (n.0 - 1) c closed h

pub chan_other : (a : State) (n m : ChannelNumber) (c : Chan) → (m.0 - 1 ≡ n.0 - 1 → ⊥) → chan (with_chan a n c) m ≡ chan a m
unfolding chan with_chan
chan_other a n m c h = get_or-set_other a.chans (n.0 - 1) (m.0 - 1) c closed h

pub open_changed : (a : State) (n : ChannelNumber) (c : Chan) → is_open (chan a n) ≡ true → chan (with_chan a n c) n ≡ c
unfolding chan
open_changed a n c e = chan_changed a n c (open_place a.chans (n.0 - 1) e)

-- a whole datagram more changes no byte
pub whole_held : (c : Chan) (v w : Way) (k : ℕ) → held (whole c v k) w ≡ held c w
unfolding whole with_queue counting queue
whole_held c v w k = branch (λ (x : Chan). held x w ≡ held c w) _ _ _ (λ _. refl) (λ _. counted_held c v w k)
  where
    counted_held : (c : Chan) (v w : Way) (k : ℕ) → held (with_queue c v (counting (queue c v) k)) w ≡ held c w
    counted_held c Receive Receive k = refl
    counted_held c Receive Send k = refl
    counted_held c Send Receive k = refl
    counted_held c Send Send k = refl

arrived_held : (c : Chan) (s : List ℕ) → held (arrived c s) Receive ≡ held c Receive ++ s
unfolding arrived appended with_queue joined queue
arrived_held c s = whole_held (appended c Receive s) Receive Receive (length s)

-- an arrival that is not refused is stored whole, behind what was held
pub arrival_whole :
    (a : State) (buffer : ℕ) (n : ChannelNumber) (s t : List ℕ) → (arrival a buffer n s).outcome ≡ wrote t →
    held (chan (arrival a buffer n s).state n) Receive ≡ held (chan a n) Receive ++ s
arrival_whole a buffer n s t =
    arrival_cases (λ (r : Answer). r.outcome ≡ wrote t → held (chan r.state n) Receive ≡ held (chan a n) Receive ++ s) a (λ r e. cc) buffer n s
    (λ _ l _ _ _. ap (λ (c : Chan). held c Receive) (open_changed a n (arrived (chan a n) s) l.stands) ∙ arrived_held (chan a n) s)

faulty_walk : (b : ℕ) (r : List ℕ) (e : Ending) → object_at (b ∷ r) ≡ faulty e → is_empty (walk (b ∷ r)).objects ≡ true
unfolding walk walk_up_to onward is_empty
faulty_walk b r e o = ap (λ (x : ObjectRead). is_empty (onward (b ∷ r) x (walk_up_to (length r))).objects) o

-- step 3: no object at all, and a first object that is faulty
pub no_object : (p : List ℕ) → read_objects p [] ≡ wrong zeros 0x36
unfolding read_objects is_empty
no_object p = stop _ _ _ refl

pub faulty_object : (p : List ℕ) (b : ℕ) (r : List ℕ) (e : Ending) → object_at (b ∷ r) ≡ faulty e → read_objects p (b ∷ r) ≡ wrong zeros 0x32
unfolding read_objects is_empty
faulty_object p b r e o = skip _ _ _ refl ∙ stop _ _ _ (faulty_walk b r e o)
