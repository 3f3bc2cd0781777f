-- M-104, datagram channels: the lengths of the datagrams among the bytes of a way, oldest first, and the datagrams themselves.
use Rattle.std.specs.Prelude.{ℕ, zero, suc, ◌+◌, ◌-◌, List, [], ◌∷◌, ◌++◌, length, take, drop, ltb}
use Rattle.rules.specs.Checks.{◌⇒◌else◌, is_empty}

-- at most so many are held each way
abbrev pub place_count : ℕ
place_count = 16

-- bytes make one more, behind the others; no bytes make none
unfoldable pub another : List ℕ → ℕ → List ℕ
another ls zero = ls
another ls (suc k) = ls ++ suc k ∷ []

-- the first k bytes go; what is left of a datagram is the first
unfoldable pub lessened : List ℕ → ℕ → List ℕ
lessened [] k = []
lessened (x ∷ ls) k = ltb k x ⇒ (x - k) ∷ ls else ls

-- the bytes of all
unfoldable pub total : List ℕ → ℕ
total [] = 0
total (x ∷ ls) = x + total ls

-- datagrams of these lengths, from the front of the bytes
unfoldable pub pieces : List ℕ → List ℕ → List (List ℕ)
pieces [] s = []
pieces (x ∷ ls) s = take x s ∷ pieces ls (drop x s)

-- datagrams without their first k bytes; what is left of one is the first
unfoldable pub behind : ℕ → List (List ℕ) → List (List ℕ)
behind k [] = []
behind k (d ∷ ds) = let rest = behind (k - length d) ds in ltb k (length d) ⇒ drop k d ∷ ds else rest

-- one datagram more, if it has bytes
unfoldable pub joined_by : List (List ℕ) → List ℕ → List (List ℕ)
joined_by ds s = is_empty s ⇒ ds else ds ++ s ∷ []

-- their bytes, one after the other
unfoldable pub bytes_of : List (List ℕ) → List ℕ
bytes_of [] = []
bytes_of (d ∷ ds) = d ++ bytes_of ds
