-- What the leaves leave behind, as lists of bytes. `part a e d` is the bytes from a up to e.
use Rattle.std.specs.Prelude.{ℕ, ◌+◌, ◌-◌, List, ◌++◌, length, take, drop, replicate}

abbrev pub part : ℕ → ℕ → List ℕ → List ℕ
part a e d = take (e - a) (drop a d)

-- s stands from at on
unfoldable pub pasted : List ℕ → ℕ → List ℕ → List ℕ
pasted d at s = take at d ++ (s ++ drop (at + length s) d)

-- zeros stand from at up to end
unfoldable pub cleared : List ℕ → ℕ → ℕ → List ℕ
cleared d at end = pasted d at (replicate (end - at) 0)

-- the bytes from `from` up to end stand from `to` on
unfoldable pub moved : List ℕ → ℕ → ℕ → ℕ → List ℕ
moved d to from end = pasted d to (part from end d)

-- the k bytes at `at` are gone, those up to end moved down, zeros behind them
unfoldable pub cut_out : List ℕ → ℕ → ℕ → ℕ → List ℕ
cut_out d at k end = pasted d at (part (at + k) end d ++ replicate k 0)

-- k zeros stand at `at`, the bytes up to end moved up behind them
unfoldable pub spread : List ℕ → ℕ → ℕ → ℕ → List ℕ
spread d at k end = pasted d at (replicate k 0 ++ part at end d)

-- a lent buffer with s at its front; the bytes behind it are as they were
unfoldable pub overlaid : List ℕ → List ℕ → List ℕ
overlaid s d = s ++ drop (length s) d

-- a list and zeros behind it, n bytes in all
unfoldable pub pad : ℕ → List ℕ → List ℕ
pad n l = l ++ replicate (n - length l) 0
