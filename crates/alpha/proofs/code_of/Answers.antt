-- `alpha::code_of` meets its contract: above the last, at its own place, or looked up.
-- Assumes nothing.
use native.Mathlib.Omega.{arith}
use mathlib.Core.Path.{ap, ◌∙◌, sym}
use lib.ListN.{get_or}
use Rattle.alpha.specs.Alphabet.{table}
use Rattle.alpha.proofs.Tables.{code_above, code_own}
use Rattle.alpha.proofs.code_of.Goals as goal

pub returns-then-unit-gt-LAST : goal.returns-then-unit-gt-LAST
returns-then-unit-gt-LAST c = search code_above

pub returns-then-from-unit : goal.returns-then-from-unit
unfolding table
returns-then-from-unit c = code_own _ (omega arith) (ap (λ i. get_or table i 0) (sym c.from.ensures) ∙ c.if-from-unit.true)
