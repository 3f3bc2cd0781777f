-- M-101, what command is at hand: the details of a command, from its outer head and its first object alone.
use Rattle.std.specs.Prelude.{ℕ, ◌+◌, ◌*◌, ◌||◌, ◌≡◌, refl, List, [], ◌∷◌, map, length, ltb}
use Rattle.rules.specs.declared.Details.{Details}
use Rattle.rules.specs.Checks.{◌⇒◌else◌, is_empty}
use Rattle.rules.specs.Results.{command_cap}
use Rattle.rules.specs.Frames.{Object, ObjectRead, object, faulty, long_length, length_at, long_tag, tag_at, value_after, after_tag, object_at, fills, following, framed, contents}
use Rattle.rules.specs.Table.{value_of}
use Rattle.rules.specs.Reading.{zeros, details_in, starts_with_details}

-- the object that was read, or none where it is faulty
unfoldable pub front_of : ObjectRead → List Object
front_of (faulty e) = []
front_of (object o r) = o ∷ []

-- the details that the first of some objects tells, as step 3 takes them: 01 with length 3; zeros where it is another, or where there is none
unfoldable pub details_first : List Object → Details
details_first os = starts_with_details os ⇒ details_in (value_of 0x01 os) else zeros

-- the details of a command; zeros where its outer frame is wrong
unfoldable pub details_told : List ℕ → Details
details_told s = framed s ⇒ details_first (front_of (object_at (contents s))) else zeros

-- number, type and qualifier in one number
unfoldable pub packed_details : Details → ℕ
packed_details d = 0x10000 * d.number + 0x100 * d.kind + d.qualifier

-- and R2, for bytes that are none or over 256
unfoldable pub at_hand : List ℕ → ℕ
at_hand s = is_empty s || ltb command_cap (length s) ⇒ 0x1000002 else packed_details (details_told s)

-- RECEIVE DATA, number 1, qualifier 5; no byte; an outer length that says one more; no object; a first one that is cut, of length 2, of another number; a fault behind it
pub at_hand_of :
    map at_hand
    ((0xD0 ∷ 0x05 ∷ 0x81 ∷ 0x03 ∷ 0x01 ∷ 0x42 ∷ 0x05 ∷ []) ∷
    [] ∷
    (0xD0 ∷ 0x06 ∷ 0x81 ∷ 0x03 ∷ 0x01 ∷ 0x42 ∷ 0x05 ∷ []) ∷
    (0xD0 ∷ 0x00 ∷ []) ∷
    (0xD0 ∷ 0x04 ∷ 0x81 ∷ 0x03 ∷ 0x01 ∷ 0x42 ∷ []) ∷
    (0xD0 ∷ 0x04 ∷ 0x81 ∷ 0x02 ∷ 0x01 ∷ 0x42 ∷ []) ∷
    (0xD0 ∷ 0x05 ∷ 0x82 ∷ 0x03 ∷ 0x01 ∷ 0x42 ∷ 0x05 ∷ []) ∷
    (0xD0 ∷ 0x06 ∷ 0x81 ∷ 0x03 ∷ 0x01 ∷ 0x42 ∷ 0x05 ∷ 0x00 ∷ []) ∷
    []) ≡
    0x014205 ∷ 0x1000002 ∷ 0 ∷ 0 ∷ 0 ∷ 0 ∷ 0 ∷ 0x014205 ∷ []
unfolding at_hand packed_details details_told details_first front_of is_empty ◌⇒◌else◌ long_length length_at long_tag tag_at value_after after_tag object_at fills following framed contents value_of zeros details_in starts_with_details
at_hand_of = refl
