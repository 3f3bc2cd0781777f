-- What the readers find at places, tied to the mending of the bytes from there on.
use Rattle.std.specs.Prelude.{ℕ, ◌≤◌, ◌<◌, ◌≡◌, ◌&&◌, List, [], ◌∷◌, ◌++◌, length, drop, ltb, eqb, Option, Some, None}
use Rattle.rules.specs.Checks.{◌⇒◌else◌}
use Rattle.rules.specs.Frames.{len, no_length, length_bytes}
use Rattle.octets.specs.Parts.{part}
use Rattle.mending.specs.Mends.{outer_length, shortened, loose_length_at, is_overlong, cut_from, mend_from, Head, head}
use Rattle.mending.specs.Printed.{changes_text}
use Rattle.mending.specs.declared.Length.{Length}
use Rattle.mending.specs.declared.Object.{Object}

-- a length of n at `at`, its shortest form from `kept` on; what it counts starts at start
pub record LengthAt (s : List ℕ) (at n kept start : ℕ) : Type 0 where
  pub is : loose_length_at (drop at s) ≡ len n (drop start s)
  pub shortest : part kept start s ≡ length_bytes n
  pub overlong : is_overlong (part at start s) ≡ ltb at kept
  pub from : at ≤ kept
  pub behind : kept < start
  pub within : start ≤ length s

abbrev pub Measures : Option Length → List ℕ → ℕ → Type 0
Measures (Some l) s at = LengthAt s at l.said l.kept l.start
Measures None s at = loose_length_at (drop at s) ≡ no_length

-- an object at `at`, its length at `sized`: what comes out of it is its tag and the bytes from `kept` up to next
pub record Stands (s : List ℕ) (at sized kept next : ℕ) : Type 0 where
  pub bytes : (mend_from at (drop at s)).bytes ≡ (part at sized s ++ part kept next s) ++ (mend_from next (drop next s)).bytes
  pub changes : (mend_from at (drop at s)).changes ≡ (ltb sized kept ⇒ shortened sized ∷ [] else []) ++ (mend_from next (drop next s)).changes
  pub tagged : at < sized
  pub from : sized ≤ kept
  pub behind : kept < next
  pub within : next ≤ length s

-- at the end there is no object either
abbrev pub Finds : Option Object → List ℕ → ℕ → Type 0
Finds (Some o) s at = Stands s at o.sized o.kept o.next
Finds None s at = at < length s → mend_from at (drop at s) ≡ cut_from at

-- the place of the outer length, and a head that ends at a place
abbrev pub outer_place : ℕ
outer_place = 1

abbrev pub head_at : List ℕ → ℕ → Head
head_at s start = head (part outer_place start s) (drop start s)

-- what is told of an object by its places, and of the outer length by what it said
abbrev pub shortened_text : ℕ → ℕ → List ℕ
shortened_text sized kept = changes_text (ltb sized kept ⇒ shortened sized ∷ [] else [])

abbrev pub outer_text : ℕ → ℕ → ℕ → List ℕ
outer_text said kept count = changes_text (eqb said count && eqb kept outer_place ⇒ [] else outer_length ∷ [])
