-- "Frames and objects", the table of the types: what is required, what may also stand, how often; the lengths.
use Rattle.std.specs.Prelude.{ℕ, ◌≡◌, refl, Bool, true, false, ◌||◌, List, [], ◌∷◌, map, length, get_or, ltb, eqb}
use Rattle.rules.specs.declared.Details.{Details}
use Rattle.rules.specs.Checks.{◌⇒◌else◌, is_empty, every, some_of, occurrences, member}
use Rattle.rules.specs.Frames.{Object}
use Rattle.rules.specs.Timers.{action_of, is_start}

-- a row: the type, the objects required, those that may also stand, and those of which two may stand
pub record Row : Type 0 where
  pub kind : ℕ
  pub required : List ℕ
  pub also : List ℕ
  pub twice : List ℕ

abbrev row : ℕ → List ℕ → List ℕ → List ℕ → Row
row k r a t = record { kind = k; required = r; also = a; twice = t }

-- MORE TIME, SET UP EVENT LIST, TIMER MANAGEMENT (but its start), OPEN CHANNEL, CLOSE CHANNEL, RECEIVE DATA, SEND DATA, GET CHANNEL STATUS
unfoldable pub table : List Row
table =
    row 0x02 (0x01 ∷ 0x02 ∷ []) [] [] ∷
    row 0x05 (0x01 ∷ 0x02 ∷ 0x19 ∷ []) [] [] ∷
    row 0x27 (0x01 ∷ 0x02 ∷ 0x24 ∷ []) [] [] ∷
    row 0x40 (0x01 ∷ 0x02 ∷ 0x35 ∷ 0x39 ∷ []) (0x05 ∷ 0x1E ∷ 0x3C ∷ 0x47 ∷ []) (0x04 ∷ 0x0D ∷ 0x3E ∷ []) ∷
    row 0x41 (0x01 ∷ 0x02 ∷ []) (0x05 ∷ 0x1E ∷ []) [] ∷
    row 0x42 (0x01 ∷ 0x02 ∷ 0x37 ∷ []) (0x05 ∷ 0x1E ∷ []) [] ∷
    row 0x43 (0x01 ∷ 0x02 ∷ 0x36 ∷ []) (0x05 ∷ 0x1E ∷ []) [] ∷
    row 0x44 (0x01 ∷ 0x02 ∷ []) [] [] ∷
    []

-- the type is one of the table
unfoldable pub known : ℕ → Bool
known t = member t (map (λ (r : Row). r.kind) table)

-- the row of a type among rows; nothing may stand for a type that has none
unfoldable pub row_among : ℕ → List Row → Row
row_among t [] = row t [] [] []
row_among t (r ∷ rs) = let s = row_among t rs in eqb t r.kind ⇒ r else s

-- the row of the start of a timer, which requires its time
abbrev pub start_row : Row
start_row = row 0x27 (0x01 ∷ 0x02 ∷ 0x24 ∷ 0x25 ∷ []) [] []

-- the row of a command with these details
unfoldable pub row_of : Details → Row
row_of d = is_start d ⇒ start_row else row_among d.kind table

-- how often an object of this number may stand
unfoldable pub times : Row → ℕ → ℕ
times r n =
    member n r.twice ⇒ 2 else
    member n r.required || member n r.also ⇒ 1 else
    0

-- in an OPEN CHANNEL: a required object, one that may also stand, one that may stand twice, and one that may not stand
pub times_40 : map (times (row_among 0x40 table)) (0x39 ∷ 0x3C ∷ 0x04 ∷ 0x37 ∷ []) ≡ 1 ∷ 1 ∷ 2 ∷ 0 ∷ []
unfolding times row_among table member some_of ◌⇒◌else◌
times_40 = refl

-- a time may stand in the start of a timer, and not in a stop, an ask or value 3
pub times_27 : map (λ (q : ℕ). times (row_of (record { number = 1; kind = 0x27; qualifier = q })) 0x25) (0 ∷ 1 ∷ 2 ∷ 3 ∷ 4 ∷ []) ≡ 1 ∷ 0 ∷ 0 ∷ 0 ∷ 1 ∷ []
unfolding times row_of row_among table is_start action_of member some_of ◌⇒◌else◌
times_27 = refl

-- the objects that count, and those that are unexpected
pub record Sifted : Type 0 where
  pub counting : List Object
  pub unexpected : List Object

-- anything else, or one too many, is unexpected; the first ones count. `seen` has the numbers of the objects before
unfoldable pub sift : Row → List ℕ → List Object → Sifted
sift r seen [] = record { counting = []; unexpected = [] }
sift r seen (o ∷ os) =
    let s = sift r (o.number ∷ seen) os in
    ltb (occurrences o.number seen) (times r o.number) ⇒
    record { counting = o ∷ s.counting; unexpected = s.unexpected } else
    record { counting = s.counting; unexpected = o ∷ s.unexpected }

-- an object of this number is among them
unfoldable pub present : ℕ → List Object → Bool
present n os = member n (map (λ (o : Object). o.number) os)

-- the value of the first object of this number
unfoldable pub value_of : ℕ → List Object → List ℕ
value_of n [] = []
value_of n (o ∷ os) = let v = value_of n os in eqb n o.number ⇒ o.value else v

-- every required object is there
unfoldable pub complete : Row → List Object → Bool
complete r os = every (λ n. present n os) r.required

-- 35 has 7 bytes for bearer type 02, 1 for type 03, at least 1 otherwise
unfoldable pub bearer_fits : List ℕ → Bool
bearer_fits v =
    is_empty v ⇒ false else
    eqb (get_or v 0 0) 0x02 ⇒ eqb (length v) 7 else
    eqb (get_or v 0 0) 0x03 ⇒ eqb (length v) 1 else
    true

-- the length that the value of an object of this number has; the other values have any
unfoldable pub length_fits : ℕ → List ℕ → Bool
length_fits n v =
    eqb n 0x01 || eqb n 0x25 || eqb n 0x3C ⇒ eqb (length v) 3 else
    eqb n 0x02 || eqb n 0x04 || eqb n 0x1E || eqb n 0x39 ⇒ eqb (length v) 2 else
    eqb n 0x24 || eqb n 0x37 ⇒ eqb (length v) 1 else
    eqb n 0x35 ⇒ bearer_fits v else
    true

-- every object has its length
unfoldable pub measured : List Object → Bool
measured = every (λ (o : Object). length_fits o.number o.value)
