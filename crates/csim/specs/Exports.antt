-- A frame of a kind as a line of a +CSIM log, and our line that asks for it.
use Rattle.std.specs.Prelude.{ℕ, ◌+◌, ◌*◌, ◌||◌, List, [], ◌∷◌, ◌++◌, length, drop, ltb}
use Rattle.std.proofs.Math.Option.{Option, none, some}
use Rattle.rules.specs.Checks.{◌⇒◌else◌, is_empty}
use Rattle.rules.specs.Lines.{bytes_of, hex, decimal}
use Rattle.csim.specs.declared.Kind.{Kind}
use Rattle.csim.specs.Kinds.{header_of, lead_of, leads, by_kind}
use Rattle.csim.specs.Records.{opening, quoting}

-- the line: the count of its digits, and between quotes the header, P3 and the data
unfoldable pub export_of : Kind → List ℕ → List ℕ
export_of k d = opening ++ (decimal (2 * (5 + length d)) ++ (quoting ++ (hex (header_of k ++ length d ∷ d) ++ 34 ∷ [])))

-- 1 to 255 bytes; any other frame is R17
unfoldable pub export_in : Kind → Option (List ℕ) → Option (List ℕ)
export_in k none = none
export_in k (some d) = is_empty d || ltb 255 (length d) ⇒ none else some (export_of k d)

-- the digits behind the word of a kind and its blank
unfoldable pub export_behind : Kind → List ℕ → Option (List ℕ)
export_behind k l = export_in k (bytes_of (drop (length (lead_of k)) l))

-- a line of ours; one that begins with no word of the three is R17
unfoldable pub exports : List ℕ → Option (List ℕ)
exports l = by_kind (λ (k : Kind). leads (lead_of k) l) (λ (k : Kind). export_behind k l) none
