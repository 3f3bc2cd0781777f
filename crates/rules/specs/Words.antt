-- The words of src/lib.rt: the paper's number of each refusal, and a channel's number beside its device identity.
use Rattle.std.specs.Prelude.{ℕ, ◌+◌, ◌%◌, ◌≡◌, false, eqb, Result, MatchResult}
use Rattle.rules.specs.Checks.{◌⇒◌else◌}
use Rattle.rules.specs.Table.{known}
use Rattle.rules.specs.Timers.{action_of, start_action, stop_action, ask_action, no_action}
use Rattle.rules.specs.declared.Action.{Action}
use Rattle.rules.specs.declared.Action.TheVariants.{Start, Stop, Ask, Nothing}
use Rattle.rules.specs.declared.CommandType.{CommandType}
use Rattle.rules.specs.declared.CommandType.TheVariants.{MoreTime, SetUpEventList, TimerManagement, OpenChannel, CloseChannel, ReceiveData, SendData, GetChannelStatus}
use Rattle.rules.specs.declared.UnknownType.{UnknownType}
use Rattle.rules.specs.declared.Refusal.{Refusal}
use Rattle.rules.specs.declared.Refusal.TheVariants.{ShortBuffer, CommandSize, NoChannel, Unopened, Unlinked, Overfull, UnfitRecord, NoResponse, Unreadable, NoneWaits, NoPlace, Undersized, Malformed, ShortText, Unmendable, NoRecord, WrongCount}
use Rattle.rules.specs.declared.ChannelNumber.{ChannelNumber}
use Rattle.rules.specs.declared.DeviceIdentity.{DeviceIdentity}

-- R1 to R14 and R16 to R18
abbrev pub number_of : Refusal → ℕ
number_of ShortBuffer = 1
number_of CommandSize = 2
number_of NoChannel = 3
number_of Unopened = 4
number_of Unlinked = 5
number_of Overfull = 6
number_of UnfitRecord = 7
number_of NoResponse = 8
number_of Unreadable = 9
number_of NoneWaits = 10
number_of NoPlace = 11
number_of Undersized = 12
number_of Malformed = 13
number_of ShortText = 14
number_of Unmendable = 16
number_of NoRecord = 17
number_of WrongCount = 18

-- the refusal of a number
unfoldable pub refusal_of : ℕ → Refusal
refusal_of n =
    eqb n 1 ⇒ ShortBuffer else
    eqb n 2 ⇒ CommandSize else
    eqb n 3 ⇒ NoChannel else
    eqb n 4 ⇒ Unopened else
    eqb n 5 ⇒ Unlinked else
    eqb n 6 ⇒ Overfull else
    eqb n 7 ⇒ UnfitRecord else
    eqb n 8 ⇒ NoResponse else
    eqb n 10 ⇒ NoneWaits else
    eqb n 11 ⇒ NoPlace else
    eqb n 12 ⇒ Undersized else
    eqb n 13 ⇒ Malformed else
    eqb n 14 ⇒ ShortText else
    eqb n 16 ⇒ Unmendable else
    eqb n 17 ⇒ NoRecord else
    eqb n 18 ⇒ WrongCount else
    Unreadable

-- how a call ended: with so many bytes written, or refused
abbrev pub Ended : Type 0
Ended = Result ℕ Refusal

-- identity is 20 plus number, as bytes
abbrev pub identity_of : ChannelNumber → DeviceIdentity
identity_of c = record { 0 = (c.0 + 0x20) % 256 }

-- and back
abbrev pub channel_of : DeviceIdentity → ChannelNumber
channel_of d = record { 0 = (d.0 + 0xE0) % 256 }

-- the byte of a type, and a byte read as a type of the table or none
abbrev pub byte_of : CommandType → ℕ
byte_of MoreTime = 0x02
byte_of SetUpEventList = 0x05
byte_of TimerManagement = 0x27
byte_of OpenChannel = 0x40
byte_of CloseChannel = 0x41
byte_of ReceiveData = 0x42
byte_of SendData = 0x43
byte_of GetChannelStatus = 0x44

abbrev pub Typed : ℕ → Result CommandType UnknownType → Type 0
Typed b r = MatchResult r (λ t. byte_of t ≡ b) (λ _. known b ≡ false)

-- the two low bits that ask for an action, and an action that a qualifier asks for
abbrev pub bits_of : Action → ℕ
bits_of Start = start_action
bits_of Stop = stop_action
bits_of Ask = ask_action
bits_of Nothing = no_action

abbrev pub Acts : ℕ → Action → Type 0
Acts q a = bits_of a ≡ action_of q
