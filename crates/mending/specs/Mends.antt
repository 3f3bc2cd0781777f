-- A frame of an applet, mended: lengths in either form, objects up to the first fault, and the list of changes.
use Rattle.std.specs.Prelude.{ℕ, zero, suc, ◌+◌, ◌-◌, Bool, ◌&&◌, List, [], ◌∷◌, ◌++◌, length, get_or, take, drop, ltb, eqb}
use Rattle.rules.specs.Checks.{◌⇒◌else◌, is_empty, same}
use Rattle.rules.specs.Frames.{LengthRead, len, no_length, length_bytes, Object, TagRead, tag, no_tag, tag_at}

-- L, the outer length put right; S, an object's length shortened, at the place of its 81; T, all removed from a place on
pub data Change : Type 0 where
  outer_length : Change
  shortened : ℕ → Change
  truncated : ℕ → Change

-- the bytes in front of those that are left of them
unfoldable pub in_front : List ℕ → List ℕ → List ℕ
in_front s rest = take (length s - length rest) s

-- behind an 81: any byte
unfoldable pub any_length : List ℕ → LengthRead
any_length [] = no_length
any_length (b ∷ s) = len b s

-- a length as applets write it: one byte 00 to 7F, or 81 and any byte
unfoldable pub loose_length_at : List ℕ → LengthRead
loose_length_at [] = no_length
loose_length_at (b ∷ s) =
    ltb b 0x80 ⇒ len b s else
    eqb b 0x81 ⇒ any_length s else
    no_length

-- of the bytes of a length: 81, and a byte below 80
unfoldable pub is_overlong : List ℕ → Bool
is_overlong l = eqb (get_or l 0 0) 0x81 && ltb (get_or l 1 0) 0x80

-- the bytes of an object's tag and of its length as they stand, the object, and the bytes after it; or a fault
pub data LooseRead : Type 0 where
  loose : List ℕ → List ℕ → Object → List ℕ → LooseRead
  fault : LooseRead

-- the value must stand whole
unfoldable pub loose_value : List ℕ → ℕ → Bool → List ℕ → LengthRead → LooseRead
loose_value t number flag s no_length = fault
loose_value t number flag s (len n v) =
    ltb (length v) n ⇒ fault else
    loose t (in_front s v) (record { number = number; flag = flag; value = take n v }) (drop n v)

-- a length in either form and a value stand behind a tag
unfoldable pub loose_tag : List ℕ → TagRead → LooseRead
loose_tag s no_tag = fault
loose_tag s (tag number flag r) = loose_value (in_front s r) number flag r (loose_length_at r)

-- the object at the front of the bytes, its length in either form
unfoldable pub loose_at : List ℕ → LooseRead
loose_at s = loose_tag s (tag_at s)

-- what comes out of objects: their bytes, the objects themselves, and the changes by their places
pub record Mended : Type 0 where
  pub bytes : List ℕ
  pub objects : List Object
  pub changes : List Change

-- nothing is left
abbrev pub none_left : Mended
none_left = record { bytes = []; objects = []; changes = [] }

-- all is removed from a place on
abbrev pub cut_from : ℕ → Mended
cut_from place = record { bytes = []; objects = []; changes = truncated place ∷ [] }

-- one object more in front, its tag as it stands and its length in the shortest form
unfoldable pub with_object : ℕ → List ℕ → List ℕ → Object → Mended → Mended
with_object place t l o m =
    record {
      bytes = (t ++ (length_bytes (length o.value) ++ o.value)) ++ m.bytes;
      objects = o ∷ m.objects;
      changes = (is_overlong l ⇒ shortened (place + length t) ∷ [] else []) ++ m.changes;
    }

-- an object and what follows it, from the place behind it on; or the cut
unfoldable pub mend_on : ℕ → LooseRead → (ℕ → List ℕ → Mended) → Mended
mend_on place fault k = cut_from place
mend_on place (loose t l o r) k = with_object place t l o (k (place + length (t ++ (l ++ o.value))) r)

-- over at most so many objects
unfoldable pub mend_up_to : ℕ → ℕ → List ℕ → Mended
mend_up_to zero place s = none_left
mend_up_to (suc n) place [] = none_left
mend_up_to (suc n) place (b ∷ s) = mend_on place (loose_at (b ∷ s)) (mend_up_to n)

-- the objects from a place on, up to the first fault; bytes are never fewer than objects
unfoldable pub mend_from : ℕ → List ℕ → Mended
mend_from place s = mend_up_to (length s) place s

-- the bytes of the outer length and those behind it, or no head
pub data Head : Type 0 where
  head : List ℕ → List ℕ → Head
  no_head : Head

unfoldable pub head_of : List ℕ → LengthRead → Head
head_of s no_length = no_head
head_of s (len n r) = head (in_front s r) r

-- D0 and a length in either form, whatever it says
unfoldable pub outer_head : List ℕ → Head
outer_head [] = no_head
outer_head (b ∷ s) = eqb b 0xD0 ⇒ head_of s (loose_length_at s) else no_head

-- a frame and the changes that made it, or R16
pub data Mending : Type 0 where
  mended : List ℕ → List Change → Mending
  unmendable : Mending

-- D0, the length and the bytes
unfoldable pub framing : List ℕ → List ℕ
framing s = 0xD0 ∷ length_bytes (length s) ++ s

-- L where the bytes of the outer length change
unfoldable pub outer_change : List ℕ → List ℕ → List Change
outer_change was is = same was is ⇒ [] else outer_length ∷ []

-- R16 where no sound object remains, and for more than 256 bytes
unfoldable pub mends_behind : Head → Mending
mends_behind no_head = unmendable
mends_behind (head l s) =
    let m = mend_from (1 + length l) s in
    is_empty m.objects ⇒ unmendable else
    ltb 256 (length (framing m.bytes)) ⇒ unmendable else
    mended (framing m.bytes) (outer_change l (length_bytes (length m.bytes)) ++ m.changes)

-- all bytes behind the outer length are taken as objects
unfoldable pub mends : List ℕ → Mending
mends s = mends_behind (outer_head s)
