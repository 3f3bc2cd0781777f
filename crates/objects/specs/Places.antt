-- What the readers find at places, tied to the values of the rules.
use Rattle.std.specs.Prelude.{ℕ, zero, suc, ◌+◌, ◌-◌, ◌≤◌, ◌<◌, ◌≡◌, Bool, List, length, drop, get_or, eqb, Option, Some, None, Result, Ok, Err}
use Rattle.rules.specs.Checks.{◌⇒◌else◌}
use Rattle.rules.specs.Frames as frames
use Rattle.rules.specs.Frames.{long_tag, tag_at, tag, no_tag, length_at, len, no_length, ObjectRead, object_at, object, faulty}
use Rattle.octets.specs.Parts.{part}
use Rattle.rules.specs.declared.Ending.{Ending}
use Rattle.objects.specs.declared.Tag.{Tag}
use Rattle.objects.specs.declared.Length.{Length}
use Rattle.objects.specs.declared.Object.{Object}

-- a tag of this number and flag at `at`; its length stands at next
pub record TagAt (s : List ℕ) (at number : ℕ) (flag : Bool) (next : ℕ) : Type 0 where
  pub is : tag_at (drop at s) ≡ tag number flag (drop next s)
  pub behind : at < next
  pub within : next ≤ length s

abbrev pub Tags : Option Tag → List ℕ → ℕ → Type 0
Tags (Some t) s at = TagAt s at t.number t.flagged t.sized
Tags None s at = tag_at (drop at s) ≡ no_tag

-- the same of the two bytes behind a 7F
pub record LongTagAt (s : List ℕ) (at number : ℕ) (flag : Bool) (next : ℕ) : Type 0 where
  pub is : long_tag (drop at s) ≡ tag number flag (drop next s)
  pub behind : at < next
  pub within : next ≤ length s

abbrev pub LongTags : Option Tag → List ℕ → ℕ → Type 0
LongTags (Some t) s at = LongTagAt s at t.number t.flagged t.sized
LongTags None s at = long_tag (drop at s) ≡ no_tag

-- a length of n at `at`; what it counts starts at start, and its last byte is n in either form
pub record LengthAt (s : List ℕ) (at n start : ℕ) : Type 0 where
  pub is : length_at (drop at s) ≡ len n (drop start s)
  pub within : start ≤ length s
  pub behind : at < start
  pub last : get_or s (start - 1) 0 ≡ n

abbrev pub Measures : Option Length → List ℕ → ℕ → Type 0
Measures (Some l) s at = LengthAt s at l.count l.start
Measures None s at = length_at (drop at s) ≡ no_length

-- the object of this number and flag whose value is the n bytes from start on
abbrev pub object_of : List ℕ → ℕ → Bool → ℕ → ℕ → frames.Object
object_of s number flag start n = record { number = number; flag = flag; value = part start (start + n) s }

-- it stands at `at`, its length before its value, and next is the place behind it
pub record Stands (s : List ℕ) (at number : ℕ) (flag : Bool) (start n next : ℕ) : Type 0 where
  pub is : object_at (drop at s) ≡ object (object_of s number flag start n) (drop next s)
  pub ends : next ≡ start + n
  pub within : next ≤ length s
  pub behind : at + 2 ≤ start
  pub last : get_or s (start - 1) 0 ≡ n

abbrev pub Meets : Result Object Ending → List ℕ → ℕ → Type 0
Meets (Ok o) s at = Stands s at o.number o.flagged o.start o.len o.next.at
Meets (Err e) s at = object_at (drop at s) ≡ faulty e

-- where the value of the first object of a number starts: behind the bytes that neither it nor what stands after it has
unfoldable pub place_in : ℕ → List ℕ → ObjectRead → (List ℕ → ℕ) → ℕ
place_in number s (faulty e) k = 0
place_in number s (object o r) k =
    let before = length s - length r in
    let later = k r in
    eqb number o.number ⇒ before - length o.value else before + later

-- over at most so many objects
unfoldable pub place_up_to : ℕ → ℕ → List ℕ → ℕ
place_up_to number zero s = 0
place_up_to number (suc n) s = place_in number s (object_at s) (place_up_to number n)

-- bytes are never fewer than objects
abbrev pub place_of : ℕ → List ℕ → ℕ
place_of number s = place_up_to number (length s) s
