-- `alpha::checked_unit` meets its contract: a code by the table, another byte by the pointer.
-- Assumes nothing.
use native.Mathlib.Omega.{arith}
use mathlib.Core.Path.{refl, ap}
use lib.ListN.{get_or}
use Rattle.alpha.specs.Alphabet.{table, unit_of}
use Rattle.alpha.proofs.Bases.{there_small, based_low, based_over}
use Rattle.alpha.proofs.checked_unit.Goals as goal

pub returns-then-b-lt-LIMIT : goal.returns-then-b-lt-LIMIT
unfolding unit_of table
returns-then-b-lt-LIMIT c = based_low _ _ c.requires _ (omega arith) (ap (λ i. get_or table i 0) c.from.ensures)

pub overflow_add-result : goal.overflow_add-result
overflow_add-result c = omega (arith, c.from-2.ensures, there_small _ _ c.requires (omega arith))

pub returns : goal.returns
returns c = based_over _ _ c.requires _ _ c.from-2.ensures (omega arith) refl
