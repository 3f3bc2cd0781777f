-- What the output and the list of changes tell of the input.
use Rattle.std.specs.Prelude.{ℕ, ◌+◌, ◌-◌, Bool, true, false, List, [], ◌∷◌, ◌++◌, take, drop}
use Rattle.mending.specs.Mends.{Change, outer_length, shortened, truncated}

-- the objects' bytes from a place on with each 81 back at its place
unfoldable pub unmended : ℕ → List ℕ → List Change → List ℕ
unmended place s [] = s
unmended place s (outer_length ∷ cs) = unmended place s cs
unmended place s (shortened p ∷ cs) = take (p - place) s ++ 0x81 ∷ unmended (p + 1) (drop (p - place) s) cs
unmended place s (truncated p ∷ cs) = unmended place s cs

-- the place of the cut, or the end
unfoldable pub cut_of : ℕ → List Change → ℕ
cut_of end [] = end
cut_of end (outer_length ∷ cs) = cut_of end cs
cut_of end (shortened p ∷ cs) = cut_of end cs
cut_of end (truncated p ∷ cs) = p

-- L stands in the list
unfoldable pub tells_outer : List Change → Bool
tells_outer [] = false
tells_outer (outer_length ∷ cs) = true
tells_outer (shortened p ∷ cs) = tells_outer cs
tells_outer (truncated p ∷ cs) = tells_outer cs

-- T stands in the list
unfoldable pub tells_cut : List Change → Bool
tells_cut [] = false
tells_cut (outer_length ∷ cs) = tells_cut cs
tells_cut (shortened p ∷ cs) = tells_cut cs
tells_cut (truncated p ∷ cs) = true
