-- "Frames and objects": lengths, tags, an object, the walk and its first fault, the outer frame; and how an object is written.
use Rattle.std.specs.Prelude.{ℕ, zero, suc, ◌+◌, ◌*◌, ◌%◌, ◌≡◌, refl, Bool, false, ◌&&◌, ◌||◌, List, [], ◌∷◌, ◌++◌, length, get_or, take, drop, ltb, leb, eqb}
use Rattle.rules.specs.Checks.{◌⇒◌else◌, some_of}
use Rattle.rules.specs.declared.Ending.{Ending}
use Rattle.rules.specs.declared.Ending.TheVariants.{End, BadTag, BadLength, CutValue}

-- a length and the bytes after it, or no length
pub data LengthRead : Type 0 where
  len : ℕ → List ℕ → LengthRead
  no_length : LengthRead

-- the second byte of the longer form: 80 to FF
unfoldable pub long_length : List ℕ → LengthRead
long_length [] = no_length
long_length (b ∷ s) = leb 0x80 b ⇒ len b s else no_length

-- one byte 00 to 7F, or 81 and a byte 80 to FF; no other form is read
unfoldable pub length_at : List ℕ → LengthRead
length_at [] = no_length
length_at (b ∷ s) =
    ltb b 0x80 ⇒ len b s else
    eqb b 0x81 ⇒ long_length s else
    no_length

-- the shortest form, for writing
unfoldable pub length_bytes : ℕ → List ℕ
length_bytes n = ltb n 0x80 ⇒ n ∷ [] else 0x81 ∷ n ∷ []

-- an object: its tag number, its comprehension flag and its value
pub record Object : Type 0 where
  pub number : ℕ
  pub flag : Bool
  pub value : List ℕ

-- a tag's number, its comprehension flag and the bytes after it, or no tag
pub data TagRead : Type 0 where
  tag : ℕ → Bool → List ℕ → TagRead
  no_tag : TagRead

-- behind a 7F: the top bit of the second byte is the flag, its other seven bits and the third byte the number; 0 is a fault
unfoldable pub long_tag : List ℕ → TagRead
long_tag [] = no_tag
long_tag (b ∷ []) = no_tag
long_tag (b ∷ c ∷ s) =
    let number = 256 * (b % 0x80) + c in
    eqb number 0 ⇒ no_tag else
    tag number (leb 0x80 b) s

-- 7F begins a tag of three bytes; else the tag's top bit is the flag, its low seven bits the number, and 0 and 127 are faults
unfoldable pub tag_at : List ℕ → TagRead
tag_at [] = no_tag
tag_at (b ∷ s) =
    eqb b 0x7F ⇒ long_tag s else
    eqb (b % 0x80) 0 || eqb (b % 0x80) 0x7F ⇒ no_tag else
    tag (b % 0x80) (leb 0x80 b) s

-- an object and the bytes after it, or the fault
pub data ObjectRead : Type 0 where
  object : Object → List ℕ → ObjectRead
  faulty : Ending → ObjectRead

-- the value must stand whole
unfoldable pub value_after : ℕ → Bool → LengthRead → ObjectRead
value_after number flag no_length = faulty BadLength
value_after number flag (len n s) =
    ltb (length s) n ⇒ faulty CutValue else
    object (record { number = number; flag = flag; value = take n s }) (drop n s)

-- a length and a value stand behind a tag
unfoldable pub after_tag : TagRead → ObjectRead
after_tag no_tag = faulty BadTag
after_tag (tag number flag s) = value_after number flag (length_at s)

-- the object at the front of the bytes: a tag, a length, a value
unfoldable pub object_at : List ℕ → ObjectRead
object_at s = after_tag (tag_at s)

-- what a walk found: the objects before the end or the first fault, which of these it met, and the bytes from there on
pub record Walk : Type 0 where
  pub objects : List Object
  pub ending : Ending
  pub rest : List ℕ

-- one object more, or the stop at the bytes s
unfoldable pub onward : List ℕ → ObjectRead → (List ℕ → Walk) → Walk
onward s (faulty e) k = record { objects = []; ending = e; rest = s }
onward s (object o r) k = let w = k r in record { objects = o ∷ w.objects; ending = w.ending; rest = w.rest }

-- the walk, over at most so many objects
unfoldable pub walk_up_to : ℕ → List ℕ → Walk
walk_up_to zero s = record { objects = []; ending = End; rest = s }
walk_up_to (suc n) [] = record { objects = []; ending = End; rest = [] }
walk_up_to (suc n) (b ∷ s) = onward (b ∷ s) (object_at (b ∷ s)) (walk_up_to n)

-- the walk stops at the first fault; bytes are never fewer than objects
unfoldable pub walk : List ℕ → Walk
walk s = walk_up_to (length s) s

-- an object as bytes
unfoldable pub object_bytes : Object → List ℕ
object_bytes o =
    let tag = o.flag ⇒ o.number + 0x80 else o.number in
    tag ∷ length_bytes (length o.value) ++ o.value

-- objects as bytes, one after the other
unfoldable pub written : List Object → List ℕ
written [] = []
written (o ∷ os) = object_bytes o ++ written os

-- the length says exactly how many bytes follow it
unfoldable pub fills : LengthRead → Bool
fills no_length = false
fills (len n s) = eqb n (length s)

-- the bytes that follow a length
unfoldable pub following : LengthRead → List ℕ
following no_length = []
following (len n s) = s

-- a command is D0, a length, and as many bytes
unfoldable pub framed : List ℕ → Bool
framed s = eqb (get_or s 0 0) 0xD0 && fills (length_at (drop 1 s))

-- the bytes of a command's objects
unfoldable pub contents : List ℕ → List ℕ
contents s = following (length_at (drop 1 s))

-- a command as bytes
unfoldable pub frame : List Object → List ℕ
frame os = let s = written os in 0xD0 ∷ length_bytes (length s) ++ s

-- what is no frame: another first byte, a length that is none, a byte too many
pub no_frame : some_of framed ((0xCF ∷ 0x00 ∷ []) ∷ (0xD0 ∷ 0x82 ∷ []) ∷ (0xD0 ∷ 0x00 ∷ 0x00 ∷ []) ∷ []) ≡ false
unfolding some_of framed fills length_at long_length ◌⇒◌else◌
no_frame = refl
