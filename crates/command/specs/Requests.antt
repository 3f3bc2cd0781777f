-- What a reading hands on: an error with its details, or what is asked, with places in the bytes of the objects.
use Rattle.std.specs.Prelude.{ℕ, ◌+◌, ◌-◌, ◌*◌, ◌≤◌, ◌<◌, ◌≡◌, Bool, true, false, List, [], length, drop, get_or, Option, Some, None, Result, Ok, Err, IfSome}
use Rattle.std.proofs.Math.Option as rules
use Rattle.rules.specs.declared.Details.{Details}
use Rattle.rules.specs.Checks.{◌⇒◌else◌, is_empty}
use Rattle.rules.specs.Frames.{framed, contents, walk}
use Rattle.rules.specs.Profile.{allows_type}
use Rattle.rules.specs.Table.{known, row_of, Sifted, sift, present, value_of, complete, bearer_fits}
use Rattle.rules.specs.Reading.{wrong, asked, Command, Body, Transport, bare, event_list, open_channel, close_channel, receive_data, send_data, start_timer, manage_timer, bearer_in, zeros, details_in, command_in, starts_with_details, is_fault, addressed, read_objects}
use Rattle.rules.specs.Own.{protocol_of}
use Rattle.octets.specs.Parts.{part}
use Rattle.objects.specs.Places.{Stands, place_of}
use Rattle.rules.specs.declared.Ending.{Ending}
use Rattle.command.specs.declared.First.{First}
use Rattle.command.specs.declared.Handler.{Handler}
use Rattle.command.specs.declared.Handler.TheVariants.{Bare, EventList, Open, Close, Receive, Send, StartTimer, ManageTimer}
use Rattle.command.specs.declared.Plan.{Plan}
use Rattle.command.specs.declared.Request.{Request}
use Rattle.command.specs.declared.Row.{Row}
use Rattle.command.specs.declared.Sorted.{Sorted}
use Rattle.command.specs.declared.Wrong.{Wrong}
use Rattle.command.specs.Plans.{handles, own_number, further_number, PlanOf}
use Rattle.command.specs.Surveys.{survey_of, all_stand}

-- the frame is right, and the objects start there
pub record FramedAt (s : List ℕ) (start : ℕ) : Type 0 where
  pub is : framed s ≡ true
  pub objects : contents s ≡ drop start s
  pub within : start ≤ length s

abbrev pub Frames : Option ℕ → List ℕ → Type 0
Frames (Some start) s = FramedAt s start
Frames None s = framed s ≡ false

-- the details, the sifted objects and the command of the bytes of a command's objects
abbrev pub the_details : List ℕ → Details
the_details s = details_in (value_of 0x01 (walk s).objects)

abbrev pub the_objects : List ℕ → Sifted
the_objects s = sift (row_of (the_details s)) [] (walk s).objects

abbrev pub the_command : List ℕ → Command
the_command s = command_in (the_details s) (the_objects s).counting

-- the size at a place, high byte first, and the protocol at that of a transport level; TCP where none stands
unfoldable pub size_at : List ℕ → ℕ → ℕ
size_at s at = 256 * get_or s at 0 + get_or s (at + 1) 0

abbrev pub protocol_at : List ℕ → Option ℕ → ℕ
protocol_at s None = 0x02
protocol_at s (Some at) = get_or s at 0

-- the own value of a request stands in the bytes, at its place
abbrev pub own : Request → List ℕ → List ℕ
own q s = part q.start (q.start + q.len) s

-- the bytes ask to open a channel: the bearer, the size and the protocol stand at their places
pub record Opens (q : Request) (s : List ℕ) (b : Body) : Type 0 where
  pub level : rules.Option Transport
  pub is : b ≡ open_channel (bearer_in (own q s)) (size_at s q.further) level
  pub protocol : protocol_of level ≡ protocol_at s q.transport
  pub bearer : bearer_fits (own q s) ≡ true
  pub size_within : q.further + 2 ≤ length s
  pub protocol_within : IfSome q.transport (λ at. at < length s)

abbrev pub BodyIs : Handler → Request → List ℕ → Body → Type 0
BodyIs Bare q s b = b ≡ bare q.details.kind
BodyIs EventList q s b = b ≡ event_list (own q s)
BodyIs Open q s b = Opens q s b
BodyIs Close q s b = b ≡ close_channel
BodyIs Receive q s b = (b ≡ receive_data (get_or s q.start 0)) × (q.len ≡ 1)
BodyIs Send q s b = b ≡ send_data (own q s)
BodyIs StartTimer q s b = (b ≡ start_timer (get_or s q.start 0) (part q.further (q.further + 3) s)) × (q.len ≡ 1) × (q.further + 3 ≤ length s)
BodyIs ManageTimer q s b = (b ≡ manage_timer (get_or s q.start 0)) × (q.len ≡ 1)

-- where the value of the first object of a number starts, if one stands
abbrev pub place_or_none : ℕ → List ℕ → Option ℕ
place_or_none n s = present n (walk s).objects ⇒ Some (place_of n s) else None

-- a request is what the bytes ask, and its places are those of the objects
pub record AskedFor (q : Request) (p s : List ℕ) : Type 0 where
  pub is : read_objects p s ≡ asked (the_command s) q.ignored
  pub details : the_details s ≡ q.details
  pub kind : handles q.handler q.details ≡ true
  pub destination : (the_command s).destination ≡ q.destination
  pub devices : addressed (the_details s).kind (the_command s).source (the_command s).destination ≡ true
  pub body : BodyIs q.handler q s (the_command s).body
  pub within : q.start + q.len ≤ length s
  pub own_place : q.start ≡ place_of (own_number q.handler) s
  pub own_length : q.len ≡ length (value_of (own_number q.handler) (walk s).objects)
  pub further_place : q.further ≡ place_of (further_number q.handler) s
  pub transport_place : q.transport ≡ place_or_none 0x3C s

abbrev pub Reads : Result Request Wrong → List ℕ → List ℕ → Type 0
Reads (Ok q) p s = AskedFor q p s
Reads (Err w) p s = read_objects p s ≡ wrong w.details w.result

-- the same once the details are known
abbrev pub Finds : Result Request ℕ → Details → List ℕ → List ℕ → Type 0
Finds (Ok q) d p s = AskedFor q p s
Finds (Err e) d p s = read_objects p s ≡ wrong d e

-- the first object is 01 with three bytes, and its value starts there
pub record Headed (s : List ℕ) (first : ℕ) : Type 0 where
  pub flag : Bool
  pub stands : Stands s 0 0x01 flag first 3 (first + 3)

-- the details at a place
abbrev pub details_at : List ℕ → ℕ → Details
details_at s at = record { number = get_or s at 0; kind = get_or s (at + 1) 0; qualifier = get_or s (at + 2) 0 }

-- step 3 is passed
pub record Began (s : List ℕ) : Type 0 where
  pub bytes : is_empty s ≡ false
  pub objects : is_empty (walk s).objects ≡ false
  pub details : starts_with_details (walk s).objects ≡ true

-- with these details
pub record Detailed (s : List ℕ) (d : Details) : Type 0 where
  pub began : Began s
  pub details : the_details s ≡ d
  pub small : length s ≤ 256

-- the first object tells the details, and its value starts there; or step 3 ends with this result
pub record Leads (s : List ℕ) (d : Details) (first : ℕ) : Type 0 where
  pub began : Began s
  pub details : the_details s ≡ d
  pub headed : Headed s first

abbrev pub Firsts : Result First ℕ → List ℕ → Type 0
Firsts (Ok f) s = Leads s f.details f.start
Firsts (Err e) s = (p : List ℕ) → read_objects p s ≡ wrong zeros e

-- steps 3 to 5 are passed
pub record Typed (p s : List ℕ) : Type 0 where
  pub began : Began s
  pub whole : is_fault (walk s).ending ≡ false
  pub kind : known (the_details s).kind ≡ true
  pub allowed : allows_type p (the_details s) ≡ true

-- the value of the first object of a number starts there, behind its length
pub record ValueAt (at : ℕ) (s : List ℕ) (number : ℕ) : Type 0 where
  pub there : present number (walk s).objects ≡ true
  pub value : value_of number (walk s).objects ≡ part at (at + length (value_of number (walk s).objects)) s
  pub within : at + length (value_of number (walk s).objects) ≤ length s
  pub behind : 1 ≤ at
  pub last : get_or s (at - 1) 0 ≡ length (value_of number (walk s).objects)
  pub place : at ≡ place_of number s

-- or none stands
abbrev pub StandsAt : Option ℕ → List ℕ → ℕ → Type 0
StandsAt (Some at) s number = ValueAt at s number
StandsAt None s number = present number (walk s).objects ≡ false

-- the objects are sorted: walked to the end, surveyed, and those that a row looks for found
pub record SortedBy (v : Sorted) (s : List ℕ) (row : Row) : Type 0 where
  pub whole : is_fault (walk s).ending ≡ false
  pub survey : v.survey ≡ survey_of (the_objects s)
  pub complete : all_stand v.devices v.own v.further ≡ complete (row_of (the_details s)) (the_objects s).counting
  pub devices : StandsAt v.devices s 0x02
  pub own : StandsAt v.own s row.own
  pub further : StandsAt v.further s row.further
  pub transport : StandsAt v.transport s 0x3C

-- or the walk came to a fault
abbrev pub Sorts : Result Sorted Ending → List ℕ → Row → Type 0
Sorts (Ok v) s row = SortedBy v s row
Sorts (Err e) s row = is_fault (walk s).ending ≡ true

-- a command whose details, plan and objects are known
pub record Begun (s : List ℕ) (d : Details) (plan : Plan) (v : Sorted) : Type 0 where
  pub began : Began s
  pub details : the_details s ≡ d
  pub planned : PlanOf plan (the_details s)
  pub sorted : SortedBy v s plan.row
