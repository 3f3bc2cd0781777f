-- What the bench reads from a place on, object by object, and what each part of the reader finds there.
use Rattle.std.specs.Prelude.{ℕ, ◌+◌, ◌%◌, ◌≤◌, ◌<◌, ◌≡◌, Bool, true, ◌&&◌, List, [], ◌∷◌, ◌++◌, map, length, get_or, drop, leb, Option, Some, None}
use Rattle.rules.specs.declared.Details.{Details}
use Rattle.rules.specs.declared.ChannelNumber.{ChannelNumber}
use Rattle.rules.specs.declared.Link.{Link}
use Rattle.rules.specs.declared.Refusal.TheVariants.{NoResponse}
use Rattle.rules.specs.Checks.{◌⇒◌else◌, same}
use Rattle.rules.specs.Frames.{Object, object, object_at, walk, object_bytes, written}
use Rattle.rules.specs.Timers.{time_in, is_time}
use Rattle.rules.specs.Pool.{grant_cap}
use Rattle.rules.specs.Reading.{pair_in, bearer_in}
use Rattle.rules.specs.Own.{Status, opened, leaves, statuses, reports, done}
use Rattle.rules.specs.Written.{Response, flagged, unflagged, pair_bytes, bearer_bytes, status_object, time_object, further_objects, result_bytes, result_objects}
use Rattle.rules.specs.Bench.{bearer_proper, rising, further_proper, result_proper, value_at, status_in, further_in, result_in, Told, told, untold}
use Rattle.objects.specs.Places.{object_of}
use Rattle.objects.specs.declared.Cursor.{Cursor}
use Rattle.objects.specs.declared.Object as objects
use Rattle.bench_reader.specs.declared.Further.{Further}
use Rattle.bench_reader.specs.declared.Response as heard
use Rattle.bench_reader.specs.Heard.{further_of, FurtherAt, heard_of, PlacesAt}

-- the object stands at a place in its written form, and next is the place behind it
pub record Holds (s : List ℕ) (at : ℕ) (o : Object) (next : ℕ) : Type 0 where
  pub is : object_at (drop at s) ≡ object o (drop next s)
  pub walked : (walk (drop at s)).objects ≡ o ∷ (walk (drop next s)).objects
  pub form : drop at s ≡ object_bytes o ++ drop next s
  pub behind : next ≡ at + length (object_bytes o)
  pub within : next ≤ length s

-- its value starts at start and has n bytes
pub record Valued (s : List ℕ) (at number : ℕ) (flag : Bool) (start n next : ℕ) : Type 0 where
  pub holds : Holds s at (object_of s number flag start n) next
  pub ends : next ≡ start + n

abbrev pub object_with : ℕ → Bool → List ℕ → Object
object_with number flag v = record { number = number; flag = flag; value = v }

-- no object of this number and flag stands at a place, whatever its value; none of this length; no status
pub record Absent (s : List ℕ) (at number : ℕ) (flag : Bool) : Type 0 where
  pub never : (v : List ℕ) (os : List Object) → drop at s ≡ written (object_with number flag v ∷ os) → ⊥

pub record Misfit (s : List ℕ) (at number : ℕ) (flag : Bool) (n : ℕ) : Type 0 where
  pub never : (v : List ℕ) (os : List Object) → length v ≡ n → drop at s ≡ written (object_with number flag v ∷ os) → ⊥

pub record Hidden (s : List ℕ) (at : ℕ) : Type 0 where
  pub never : (st : Status) (os : List Object) → rising 0 (st ∷ []) ≡ true → drop at s ≡ written (status_object st.number st.link ∷ os) → ⊥

-- a byte that is a tag: its low seven bits are a number, its top bit the flag
abbrev pub Tag : ℕ → Type 0
Tag tag = (1 ≤ tag % 0x80) × (tag % 0x80 ≤ 126)

-- an object of this number and flag, or none
abbrev pub Holder : Option objects.Object → List ℕ → ℕ → ℕ → Bool → Type 0
Holder (Some o) s at number flag = Valued s at number flag o.start o.len o.next.at
Holder None s at number flag = Absent s at number flag

-- one of these n bytes, and the place behind it
pub record Bytes (s : List ℕ) (at number : ℕ) (flag : Bool) (n : ℕ) (v : List ℕ) (next : ℕ) : Type 0 where
  pub holds : Holds s at (object_with number flag v) next
  pub long : length v ≡ n
  pub fits : (i : ℕ) → i < n → get_or v i 0 < 256

-- one of n bytes, or none
abbrev pub Lends : Option (List ℕ × Cursor) → List ℕ → ℕ → ℕ → Bool → ℕ → Type 0
Lends (Some p) s at number flag n = Bytes s at number flag n p.0 p.1.at
Lends None s at number flag n = Misfit s at number flag n

-- a status stands at a place, and next is the place behind it
pub record Displays (s : List ℕ) (at : ℕ) (st : Status) (next : ℕ) : Type 0 where
  pub holds : Holds s at (status_object st.number st.link) next
  pub numbered : rising 0 (st ∷ []) ≡ true

abbrev pub ShownAt : Option (ChannelNumber × Link × Cursor) → List ℕ → ℕ → Type 0
ShownAt (Some p) s at = Displays s at (record { number = p.0; link = p.1 }) p.2.at
ShownAt None s at = Hidden s at

-- the response, if a test is true and the objects stand in the bytes up to their end
unfoldable pub checked : Bool → List Object → List ℕ → Response → Told
checked b os t r = b && same (written os) t ⇒ told r else untold NoResponse

-- behind the devices: the result
unfoldable pub resulted : Details → List ℕ → Told
resulted d t =
    let os = (walk t).objects in
    let x = result_in d (value_at os 0) (drop 1 os) in
    checked (result_proper d x) (flagged 0x03 (result_bytes x) ∷ result_objects x) t (record { details = d; result = x })

-- details, but of type k
abbrev pub of_type : Details → ℕ → Details
of_type d k = record { number = d.number; kind = k; qualifier = d.qualifier }

-- behind the result x of a command of type k that succeeded
unfoldable pub followed : Details → ℕ → ℕ → List ℕ → Told
followed d k x t =
    let f = further_in (of_type d k) (walk t).objects in
    checked (further_proper (of_type d k) f) (further_objects f) t (record { details = d; result = done x f })

-- behind the status of an opened channel: the bearer and the grant
unfoldable pub borne : Details → ℕ → Status → List ℕ → Told
borne d x st t =
    let os = (walk t).objects in
    let b = bearer_in (value_at os 0) in
    let g = pair_in (value_at os 1) in
    checked (bearer_proper b && leb 1 g && leb g grant_cap) (unflagged 0x35 (bearer_bytes b) ∷ unflagged 0x39 (pair_bytes g) ∷ []) t
    (record { details = d; result = done x (opened st b g) })

-- behind the timer n that was stopped or asked for: the time left
unfoldable pub timed : Details → ℕ → ℕ → List ℕ → Told
timed d x n t =
    let v = time_in (value_at (walk t).objects 0) in
    checked (is_time v) (time_object v ∷ []) t (record { details = d; result = done x (leaves n v) })

-- statuses, at least one, that rise
unfoldable pub listed : Details → ℕ → List ℕ → Told
listed d x t =
    let ss = map (λ (o : Object). status_in o.value) (walk t).objects in
    checked (rising 0 ss) (map (λ (st : Status). status_object st.number st.link) ss) t (record { details = d; result = done x (reports (statuses ss)) })

-- what follows the result x of a response with details d: where the bytes end behind it, it is told, and its data stands in them
pub record Leads (t : Told) (d : Details) (x : ℕ) (s : List ℕ) (f : Further) (end : ℕ) : Type 0 where
  pub is : t ≡ checked true [] (drop end s) (record { details = d; result = done x (further_of f s) })
  pub at : length s ≤ end → FurtherAt f s

abbrev pub Follows : Told → Details → ℕ → List ℕ → Option (Further × Cursor) → Type 0
Follows t d x s (Some p) = Leads t d x s p.0 p.1.at
Follows t d x s None = t ≡ untold NoResponse

-- what the reader answers says what the bench reads
pub record Hears (t : Told) (s : List ℕ) (r : Option heard.Response) : Type 0 where
  pub is : t ≡ heard_of r s
  pub at : PlacesAt r s
