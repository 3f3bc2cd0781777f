-- `alpha::based_unit` meets its contract: none for the escape, a code by the table, another byte by the pointer.
-- Assumes nothing.
use native.Mathlib.Omega.{arith}
use mathlib.Core.Path.{ap}
use Rattle.std.proofs.Common.{rules, tests}
use lib.ListN.{get_or}
use Rattle.alpha.specs.Alphabet.{table, unit_of}
use Rattle.alpha.proofs.Bases.{told_escape, told_code, told_high}
use Rattle.alpha.proofs.based_unit.Goals as goal

pub returns-then-b-eq-ESCAPE : goal.returns-then-b-eq-ESCAPE
returns-then-b-eq-ESCAPE c = search told_escape

pub returns-then-b-lt-LIMIT : goal.returns-then-b-lt-LIMIT
unfolding unit_of table
returns-then-b-lt-LIMIT c = told_code _ _ _ c.if-b-eq-ESCAPE.false (omega arith) (ap (λ i. get_or table i 0) c.from.ensures)

pub returns : goal.returns
returns c = told_high _ _ _ _ c.from-3.ensures (omega arith) (search (rules, tests))
