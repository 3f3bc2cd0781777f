-- A tool over the bytes of its input: lines gathered byte by byte, and what is printed on the way. What it keeps between two lines is a K.
use Rattle.std.specs.Prelude.{ℕ, zero, suc, ◌+◌, ◌-◌, List, [], ◌∷◌, ◌++◌, length, take, drop, ltb, eqb}
use Rattle.rules.specs.Checks.{◌⇒◌else◌, is_empty, member}
use Rattle.rules.specs.Input.{Said}

-- the characters of a line that are kept, and the most that a tool prints for a line
abbrev pub kept_size : ℕ
kept_size = 8001

abbrev pub printed_size : ℕ
printed_size = 8192

-- a tool: of what is kept and of a line, what it comes to
abbrev pub Ends : Type 0 → Type 0
Ends K = K → List ℕ → Said K

-- a tool between two bytes of its input, and behind a piece of it with what it printed on the way
pub record Reader (K : Type 0) : Type 0 where
  pub kept : K
  pub pending : List ℕ

pub record Fed (K : Type 0) : Type 0 where
  pub reader : Reader K
  pub out : List ℕ

abbrev pub between : {K : Type 0} → K → Reader K
between k = record { kept = k; pending = [] }

-- the line is whole
abbrev pub ended : {K : Type 0} → Said K → Fed K
ended s = record { reader = between s.kept; out = s.out }

-- the line grows, and so much of it is kept
abbrev pub grown : {K : Type 0} → Reader K → List ℕ → Fed K
grown r s = record { reader = record { kept = r.kept; pending = take kept_size (r.pending ++ s) }; out = [] }

-- one byte more
unfoldable pub fed : {K : Type 0} → Ends K → Reader K → ℕ → Fed K
fed e r c =
    eqb c 10 ⇒ ended (e r.kept r.pending) else
    grown r (c ∷ [])

-- a piece of the input
unfoldable pub feeds : {K : Type 0} → Ends K → Reader K → List ℕ → Fed K
feeds e r [] = record { reader = r; out = [] }
feeds e r (c ∷ s) =
    let f = fed e r c in
    let g = feeds e f.reader s in
    record { reader = g.reader; out = f.out ++ g.out }

-- the input ends: what is left of it is a line, if there is anything
unfoldable pub finishes : {K : Type 0} → Ends K → Reader K → List ℕ
finishes e r = is_empty r.pending ⇒ [] else (e r.kept r.pending).out

-- pieces, one after the other
unfoldable pub joined : List (List ℕ) → List ℕ
joined [] = []
joined (s ∷ ss) = s ++ joined ss

-- all that is printed for an input that comes in these pieces
unfoldable pub printed_from : {K : Type 0} → Ends K → Reader K → List (List ℕ) → List ℕ
printed_from e r [] = finishes e r
printed_from e r (s ∷ ss) = let f = feeds e r s in f.out ++ printed_from e f.reader ss

-- of a whole input
unfoldable pub prints : {K : Type 0} → Ends K → K → List ℕ → List ℕ
prints e k s = printed_from e (between k) (s ∷ [])

-- line by line
unfoldable pub said_of : {K : Type 0} → Ends K → K → List (List ℕ) → List ℕ
said_of e k [] = []
said_of e k (l ∷ ls) = let s = e k (take kept_size l) in s.out ++ said_of e s.kept ls

-- the bytes before the first line feed
unfoldable pub before_feed : List ℕ → List ℕ
before_feed [] = []
before_feed (c ∷ s) = let rest = before_feed s in eqb c 10 ⇒ [] else c ∷ rest

-- the bytes up to the first line feed and with it; all, where there is none
unfoldable pub piece : List ℕ → List ℕ
piece s = before_feed s ++ (member 10 s ⇒ 10 ∷ [] else [])

-- those before it that are kept behind the so many that the line has
unfoldable pub fitting : ℕ → List ℕ → List ℕ
fitting had s = take (kept_size - had) (before_feed s)

-- how many bytes of a chunk are read: line after line, over at most so many, while the longest answer still fits the room
unfoldable pub read_up_to : {K : Type 0} → Ends K → ℕ → Reader K → List ℕ → ℕ → ℕ
read_up_to e zero r s room = 0
read_up_to e (suc n) r [] room = 0
read_up_to e (suc n) r (c ∷ s) room =
    let l = piece (c ∷ s) in
    let f = feeds e r l in
    let rest = read_up_to e n f.reader (drop (length l) (c ∷ s)) (room - length f.out) in
    ltb room printed_size ⇒ 0 else length l + rest

unfoldable pub read_within : {K : Type 0} → Ends K → Reader K → List ℕ → ℕ → ℕ
read_within e r s room = read_up_to e (length s) r s room

-- what ends the last line of an input, if anything of one is left
unfoldable pub last_piece : {K : Type 0} → Reader K → List ℕ
last_piece r = is_empty r.pending ⇒ [] else 10 ∷ []
