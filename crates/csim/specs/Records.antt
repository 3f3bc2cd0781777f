-- A line of a +CSIM log: its shape, its frame, and the checks in their order.
use Rattle.std.specs.Prelude.{ℕ, ◌+◌, ◌-◌, ◌*◌, Bool, not, ◌&&◌, List, [], ◌∷◌, length, get_or, drop, eqb, leb, ltb, Option as CodeOption, Some, None}
use Rattle.std.proofs.Math.Option.{Option, none, some}
use Rattle.rules.specs.declared.Refusal.{Refusal}
use Rattle.rules.specs.declared.Refusal.TheVariants.{NoRecord, WrongCount}
use Rattle.rules.specs.Checks.{◌⇒◌else◌}
use Rattle.rules.specs.Lines.{bytes_of}
use Rattle.octets.specs.Parts.{part}
use Rattle.csim.specs.declared.Kind.{Kind}
use Rattle.csim.specs.Kinds.{header_of, leads, by_kind}

-- what a line gives: a kind with its data, or a refusal
pub data Imported : Type 0 where
  imported : Kind → List ℕ → Imported
  unfit : Refusal → Imported

-- a small letter as its capital, any other character as it is
unfoldable pub capital : ℕ → ℕ
capital c = leb 97 c && leb c 122 ⇒ c - 32 else c

-- a line without its blanks, in capitals
unfoldable pub cleaned : List ℕ → List ℕ
cleaned [] = []
cleaned (c ∷ l) = let rest = cleaned l in eqb c 32 ⇒ rest else capital c ∷ rest

-- AT+CSIM=
abbrev pub opening : List ℕ
opening = 65 ∷ 84 ∷ 43 ∷ 67 ∷ 83 ∷ 73 ∷ 77 ∷ 61 ∷ []

-- a comma and a quote
abbrev pub quoting : List ℕ
quoting = 44 ∷ 34 ∷ []

-- a decimal digit
unfoldable pub is_decimal : ℕ → Bool
is_decimal c = leb 48 c && leb c 57

-- the decimal digits at the front
unfoldable pub digits_in : List ℕ → List ℕ
digits_in [] = []
digits_in (c ∷ l) = let rest = digits_in l in is_decimal c ⇒ c ∷ rest else []

-- behind a count of k digits: a comma, a quote, and a last quote that is another one
unfoldable pub shape_behind : ℕ → List ℕ → CodeOption ℕ
shape_behind k c =
    eqb k 0 ⇒ None else
    not (leads quoting (drop (8 + k) c)) ⇒ None else
    leb (length c) (10 + k) ⇒ None else
    not (eqb (get_or c (length c - 1) 0) 34) ⇒ None else
    Some k

-- AT+CSIM=, the digits of a count, and what stands behind them: how many digits the count has, or none where the line has another shape
unfoldable pub shape_of : List ℕ → CodeOption ℕ
shape_of c = not (leads opening c) ⇒ None else shape_behind (length (digits_in (drop 8 c))) c

-- more than one digit, of which the first is 0
unfoldable pub leading_zero : List ℕ → Bool
leading_zero ds = ltb 1 (length ds) && eqb (get_or ds 0 0) 48

-- the number of decimal digits behind those that give n
unfoldable pub value_from : ℕ → List ℕ → ℕ
value_from n [] = n
value_from n (c ∷ l) = value_from (10 * n + (c - 48)) l

unfoldable pub count_is : List ℕ → ℕ → Bool
count_is ds n = eqb (value_from 0 ds) n

-- a frame with the header of a kind: R17 without data; then R18, by its count and by P3
unfoldable pub checked : Kind → List ℕ → List ℕ → Imported
checked k ds s =
    ltb (length s) 6 ⇒ unfit NoRecord else
    not (count_is ds (2 * length s)) ⇒ unfit WrongCount else
    not (eqb (get_or s 4 0) (length s - 5)) ⇒ unfit WrongCount else
    imported k (drop 5 s)

-- a frame behind its count, by its header; no frame and another header are R17
unfoldable pub framed : List ℕ → Option (List ℕ) → Imported
framed ds none = unfit NoRecord
framed ds (some s) = by_kind (λ (k : Kind). leads (header_of k) s) (λ (k : Kind). checked k ds s) (unfit NoRecord)

-- a count, and the characters between the quotes
unfoldable pub counted : List ℕ → List ℕ → Imported
counted ds q = leading_zero ds ⇒ unfit NoRecord else framed ds (bytes_of q)

-- a line without blanks, in capitals, by its shape; another shape is R17
unfoldable pub shaped : CodeOption ℕ → List ℕ → Imported
shaped None c = unfit NoRecord
shaped (Some k) c = counted (part 8 (8 + k) c) (part (10 + k) (length c - 1) c)

unfoldable pub record_in : List ℕ → Imported
record_in c = shaped (shape_of c) c

-- a line, whose blanks are passed over and whose letters are of either case
unfoldable pub imports : List ℕ → Imported
imports l = record_in (cleaned l)
