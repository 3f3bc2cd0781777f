-- "Order of checks on a command", steps 2 to 8: from bytes to an error with its details, or to the command with its values.
use Rattle.std.specs.Prelude.{ℕ, ◌+◌, ◌*◌, Bool, true, false, not, ◌&&◌, List, [], ◌∷◌, length, get_or, drop, leb, eqb}
use Rattle.std.proofs.Math.Option.{Option, none, some}
use Rattle.rules.specs.declared.Details.{Details}
use Rattle.rules.specs.declared.DeviceIdentity.{DeviceIdentity}
use Rattle.rules.specs.declared.Ending.{Ending}
use Rattle.rules.specs.declared.Ending.TheVariants.{End, BadTag, BadLength, CutValue}
use Rattle.rules.specs.Checks.{◌⇒◌else◌, is_empty, some_of, member}
use Rattle.rules.specs.Results.{beyond_capabilities, type_not_understood, data_not_understood, values_missing}
use Rattle.rules.specs.Frames.{Object, walk, framed, contents}
use Rattle.rules.specs.Table.{row_of, known, sift, present, value_of, complete, measured}
use Rattle.rules.specs.Timers.{is_start}
use Rattle.rules.specs.Profile.{allows_type}

-- a bearer, object 35: its type and its parameters
pub record Bearer : Type 0 where
  pub kind : ℕ
  pub parameters : List ℕ

-- a transport level, object 3C: its protocol and its port
pub record Transport : Type 0 where
  pub protocol : ℕ
  pub port : ℕ

-- the values that a type has; one that changes nothing has none, and is told by its number
pub data Body : Type 0 where
  bare : ℕ → Body
  event_list : List ℕ → Body
  open_channel : Bearer → ℕ → Option Transport → Body
  close_channel : Body
  receive_data : ℕ → Body
  send_data : List ℕ → Body
  start_timer : ℕ → List ℕ → Body
  manage_timer : ℕ → Body

-- a command with its values
pub record Command : Type 0 where
  pub number : ℕ
  pub qualifier : ℕ
  pub source : DeviceIdentity
  pub destination : DeviceIdentity
  pub body : Body

-- the type that has these values
unfoldable pub kind_of : Body → ℕ
kind_of (bare t) = t
kind_of (event_list es) = 0x05
kind_of (open_channel b s t) = 0x40
kind_of close_channel = 0x41
kind_of (receive_data n) = 0x42
kind_of (send_data s) = 0x43
kind_of (start_timer n v) = 0x27
kind_of (manage_timer n) = 0x27

-- the details of a command: number, type, qualifier
unfoldable pub details_of : Command → Details
details_of c = record { number = c.number; kind = kind_of c.body; qualifier = c.qualifier }

-- details 00 00 00
unfoldable pub zeros : Details
zeros = record { number = 0; kind = 0; qualifier = 0 }

-- the value of object 01 as details
unfoldable pub details_in : List ℕ → Details
details_in v = record { number = get_or v 0 0; kind = get_or v 1 0; qualifier = get_or v 2 0 }

-- two bytes, high byte first
unfoldable pub pair_in : List ℕ → ℕ
pair_in v = 256 * get_or v 0 0 + get_or v 1 0

unfoldable pub bearer_in : List ℕ → Bearer
bearer_in v = record { kind = get_or v 0 0; parameters = drop 1 v }

unfoldable pub transport_in : List ℕ → Transport
transport_in v = record { protocol = get_or v 0 0; port = pair_in (drop 1 v) }

-- the values of a command with these details among the objects that count; those of a timer go by whether it is started
unfoldable pub body_in : Details → List Object → Body
body_in d os =
    let t = d.kind in
    eqb t 0x05 ⇒ event_list (value_of 0x19 os) else
    eqb t 0x40 ⇒
    open_channel (bearer_in (value_of 0x35 os)) (pair_in (value_of 0x39 os))
    (present 0x3C os ⇒ some (transport_in (value_of 0x3C os)) else none) else
    eqb t 0x41 ⇒ close_channel else
    eqb t 0x42 ⇒ receive_data (get_or (value_of 0x37 os) 0 0) else
    eqb t 0x43 ⇒ send_data (value_of 0x36 os) else
    is_start d ⇒ start_timer (get_or (value_of 0x24 os) 0 0) (value_of 0x25 os) else
    eqb t 0x27 ⇒ manage_timer (get_or (value_of 0x24 os) 0 0) else
    bare t

-- the command with these details among the objects that count
unfoldable pub command_in : Details → List Object → Command
command_in d os =
    record {
      number = d.number;
      qualifier = d.qualifier;
      source = record { 0 = get_or (value_of 0x02 os) 0 0 };
      destination = record { 0 = get_or (value_of 0x02 os) 1 0 };
      body = body_in d os;
    }

-- the types that go to the modem itself, 82; the others go to a channel
unfoldable pub to_modem : ℕ → Bool
to_modem t = member t (0x02 ∷ 0x05 ∷ 0x27 ∷ 0x40 ∷ 0x44 ∷ [])

-- step 8: from the card, 81, to the modem, 82, or to a channel, 21 to 27
unfoldable pub addressed : ℕ → DeviceIdentity → DeviceIdentity → Bool
addressed t from to =
    eqb from.0 0x81 &&
    (to_modem t ⇒ eqb to.0 0x82 else
    leb 0x21 to.0 && leb to.0 0x27)

-- the walk met a fault
unfoldable pub is_fault : Ending → Bool
is_fault End = false
is_fault BadTag = true
is_fault BadLength = true
is_fault CutValue = true

-- the first of the objects is 01 with length 3
unfoldable pub starts_with_details : List Object → Bool
starts_with_details [] = false
starts_with_details (o ∷ os) = eqb o.number 0x01 && eqb (length o.value) 3

-- an error with its details, or the command and whether an unexpected object was ignored
pub data Reading : Type 0 where
  wrong : Details → ℕ → Reading
  asked : Command → Bool → Reading

-- steps 3 to 8, in the paper's order, of the bytes s of a command's objects
unfoldable pub read_objects : List ℕ → List ℕ → Reading
read_objects p s =
    let w = walk s in
    let d = details_in (value_of 0x01 w.objects) in
    let r = row_of d in
    let o = sift r [] w.objects in
    let c = command_in d o.counting in
    -- 3
    is_empty s ⇒ wrong zeros values_missing else
    is_empty w.objects ⇒ wrong zeros data_not_understood else
    not (starts_with_details w.objects) ⇒ wrong zeros values_missing else
    -- 4
    is_fault w.ending ⇒ wrong d data_not_understood else
    -- 5
    not (known d.kind) ⇒ wrong d type_not_understood else
    not (allows_type p d) ⇒ wrong d beyond_capabilities else
    -- 6
    some_of (λ (x : Object). x.flag) o.unexpected ⇒ wrong d data_not_understood else
    -- 7
    not (complete r o.counting) ⇒ wrong d values_missing else
    not (measured o.counting) ⇒ wrong d data_not_understood else
    -- 8
    not (addressed d.kind c.source c.destination) ⇒ wrong d data_not_understood else
    asked c (not (is_empty o.unexpected))

-- step 2, and then the objects
unfoldable pub reading : List ℕ → List ℕ → Reading
reading p s =
    not (framed s) ⇒ wrong zeros data_not_understood else
    read_objects p (contents s)
