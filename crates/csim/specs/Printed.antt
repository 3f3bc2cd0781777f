-- What the two tools print for a line.
use Rattle.std.specs.Prelude.{ℕ, List, [], ◌∷◌, ◌++◌, length, ltb}
use Rattle.std.proofs.Math.Option.{Option, none, some}
use Rattle.rules.specs.declared.Refusal.TheVariants.{NoRecord}
use Rattle.rules.specs.Checks.{◌⇒◌else◌}
use Rattle.rules.specs.Lines.{hex}
use Rattle.rules.specs.Command.{refused}
use Rattle.text.specs.Prints.{line_of}
use Rattle.csim.specs.Kinds.{lead_of}
use Rattle.csim.specs.Records.{Imported, imported, unfit, imports}
use Rattle.csim.specs.Exports.{exports}

-- the most characters of a printed line: 260 bytes, and what a +CSIM line has around them
abbrev pub room : ℕ
room = 536

-- the most characters of a line that is read
abbrev pub longest : ℕ
longest = 3200

-- the kind's word, a blank and the digits; or the refusal
unfoldable pub record_line : Imported → List ℕ
record_line (imported k d) = lead_of k ++ (hex d ++ 10 ∷ [])
record_line (unfit r) = line_of (refused r)

-- a line over the limit of the tool is R17 before all else
unfoldable pub import_line : List ℕ → List ℕ
import_line l = ltb longest (length l) ⇒ line_of (refused NoRecord) else record_line (imports l)

-- the line for the log, or R17
unfoldable pub csim_line : Option (List ℕ) → List ℕ
csim_line none = line_of (refused NoRecord)
csim_line (some s) = s ++ 10 ∷ []

unfoldable pub export_line : List ℕ → List ℕ
export_line l = ltb longest (length l) ⇒ line_of (refused NoRecord) else csim_line (exports l)
