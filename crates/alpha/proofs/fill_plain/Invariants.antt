-- `alpha::fill_plain` meets its contract: the first i units stand in the buffer.
-- Assumes nothing.
use mathlib.Core.List.{map}
use Rattle.alpha.specs.Alphabet.{unit_of}
use Rattle.alpha.proofs.Fronts.{Front}
use Rattle.alpha.proofs.fill_plain.Given as goal

abbrev pub invariant-loop-i : goal.invariant-loop-i
invariant-loop-i l = Front (map unit_of l.s) l.initial.out l.i l.out
