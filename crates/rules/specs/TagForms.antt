-- A command written anew, each of its tags in either form.
use Rattle.std.specs.Prelude.{ℕ, ◌+◌, ◌/◌, ◌%◌, Bool, false, ◌||◌, List, [], ◌∷◌, ◌++◌, length, ltb}
use Rattle.rules.specs.Checks.{◌⇒◌else◌}
use Rattle.rules.specs.Frames.{Object, length_bytes, object_bytes, walk, contents}

-- a tag in three bytes: 7F, the flag and the number's upper seven bits, and its low byte
unfoldable pub long_tag_bytes : ℕ → Bool → List ℕ
long_tag_bytes n f = 0x7F ∷ (f ⇒ n / 256 + 0x80 else n / 256) ∷ n % 256 ∷ []

-- an object with its tag in three bytes where that is asked for; a number above 126 has no other form
unfoldable pub object_in : Bool → Object → List ℕ
object_in long o =
    long || ltb 126 o.number ⇒ long_tag_bytes o.number o.flag ++ (length_bytes (length o.value) ++ o.value) else
    object_bytes o

-- objects one after the other, the tag of each in the form of its place in the list; behind its end in one byte
unfoldable pub written_in : List Bool → List Object → List ℕ
written_in fs [] = []
written_in [] (o ∷ os) = object_in false o ++ written_in [] os
written_in (f ∷ fs) (o ∷ os) = object_in f o ++ written_in fs os

-- a command with its tags in these forms, up to its first fault if it has one, and the outer length put right
unfoldable pub retagged : List Bool → List ℕ → List ℕ
retagged fs s =
    let w = walk (contents s) in
    let t = written_in fs w.objects ++ w.rest in
    0xD0 ∷ (length_bytes (length t) ++ t)
