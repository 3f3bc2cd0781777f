-- `alpha::fill_pairs` meets its contract: the first i units stand in the buffer.
-- Assumes nothing.
use mathlib.Core.List.{map}
use Rattle.alpha.specs.Bodies.{pair_unit}
use Rattle.alpha.proofs.Fronts.{Front}
use Rattle.alpha.proofs.fill_pairs.Given as goal

abbrev pub invariant-loop-i : goal.invariant-loop-i
invariant-loop-i l = Front (map pair_unit l.pairs) l.initial.out l.i l.out
