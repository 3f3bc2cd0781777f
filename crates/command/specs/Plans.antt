-- What a plan says of a type.
use Rattle.std.specs.Prelude.{ℕ, ◌≤◌, ◌≡◌, true, false, Bool, not, ◌&&◌, List, [], ◌∷◌, eqb, Option, Some, None}
use Rattle.rules.specs.declared.Action.{Action}
use Rattle.rules.specs.declared.Action.TheVariants.{Start, Stop, Ask, Nothing}
use Rattle.rules.specs.declared.Details.{Details}
use Rattle.rules.specs.Checks.{◌⇒◌else◌, every, member}
use Rattle.rules.specs.Timers.{is_start}
use Rattle.rules.specs.Profile.{profile_size, bit, allows_type}
use Rattle.rules.specs.Table.{known, row_of, times}
use Rattle.rules.specs.Own.{bare_types}
use Rattle.command.specs.declared.Handler.{Handler}
use Rattle.command.specs.declared.Handler.TheVariants.{Bare, EventList, Open, Close, Receive, Send, StartTimer, ManageTimer}
use Rattle.profile.specs.declared.Place.{Place}
use Rattle.command.specs.declared.Row.{Row}
use Rattle.command.specs.declared.Plan.{Plan}

-- a handler is for commands with such details
abbrev pub handles : Handler → Details → Bool
handles Bare d = member d.kind bare_types
handles EventList d = eqb d.kind 0x05
handles Open d = eqb d.kind 0x40
handles Close d = eqb d.kind 0x41
handles Receive d = eqb d.kind 0x42
handles Send d = eqb d.kind 0x43
handles StartTimer d = is_start d
handles ManageTimer d = eqb d.kind 0x27 && not (is_start d)

-- the required object that carries a type's own value, and the further one; 02 where there is none
abbrev pub own_number : Handler → ℕ
own_number Bare = 0x02
own_number EventList = 0x19
own_number Open = 0x35
own_number Close = 0x02
own_number Receive = 0x37
own_number Send = 0x36
own_number StartTimer = 0x24
own_number ManageTimer = 0x24

abbrev pub further_number : Handler → ℕ
further_number Bare = 0x02
further_number EventList = 0x02
further_number Open = 0x39
further_number Close = 0x02
further_number Receive = 0x02
further_number Send = 0x02
further_number StartTimer = 0x25
further_number ManageTimer = 0x02

-- the objects that a row requires
abbrev pub needed : Row → List ℕ
needed row = 0x01 ∷ 0x02 ∷ row.own ∷ row.further ∷ []

-- how often an object of a number may stand by a row: once where it is required, else as those with a name and those of OPEN CHANNEL
unfoldable pub besides_by : Row → ℕ → ℕ
besides_by row n =
    member n (0x05 ∷ 0x1E ∷ []) ⇒ (row.named ⇒ 1 else 0) else
    member n (0x3C ∷ 0x47 ∷ []) ⇒ (row.opening ⇒ 1 else 0) else
    member n (0x04 ∷ 0x0D ∷ 0x3E ∷ []) ⇒ (row.opening ⇒ 2 else 0) else
    0

unfoldable pub times_by : Row → ℕ → ℕ
times_by row n = member n (needed row) ⇒ 1 else besides_by row n

-- the row is that of the rules: the same objects may stand, as often, and the same are required
pub record RowFor (row : Row) (d : Details) : Type 0 where
  pub times_are : (n : ℕ) → times_by row n ≡ times (row_of d) n
  pub required : every (λ n. member n (row_of d).required) (needed row) ≡ true
  pub looked_for : every (λ n. member n (needed row)) (row_of d).required ≡ true

-- the bit of byte 8 that allows what is done with a timer
abbrev pub bit_of : Action → ℕ
bit_of Start = 1
bit_of Stop = 1
bit_of Ask = 2
bit_of Nothing = 1

-- the place is that of the profile rule
pub record PlaceFor (p : Place) (d : Details) : Type 0 where
  pub is : (q : List ℕ) → bit q p.byte p.bit ≡ allows_type q d
  pub byte_low : 1 ≤ p.byte
  pub byte_high : p.byte ≤ profile_size
  pub bit_low : 1 ≤ p.bit
  pub bit_high : p.bit ≤ 8

-- the plan is that of a command with these details
pub record PlanOf (p : Plan) (d : Details) : Type 0 where
  pub known_is : known d.kind ≡ true
  pub kind_is : handles p.handler d ≡ true
  pub own_is : p.row.own ≡ own_number p.handler
  pub further_is : p.row.further ≡ further_number p.handler
  pub opening_is : p.row.opening ≡ eqb d.kind 0x40
  pub place : PlaceFor p.place d
  pub row : RowFor p.row d

abbrev pub Plans : Option Plan → Details → Type 0
Plans (Some p) d = PlanOf p d
Plans None d = known d.kind ≡ false
