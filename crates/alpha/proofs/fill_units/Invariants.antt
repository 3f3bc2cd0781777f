-- `alpha::fill_units` meets its contract: the first i units stand in the buffer.
-- Assumes nothing.
use Rattle.text.specs.Frames.{frame_bytes}
use Rattle.alpha.specs.Printed.{units_from}
use Rattle.alpha.proofs.Fronts.{Front}
use Rattle.alpha.proofs.fill_units.Given as goal

abbrev pub invariant-loop-i : goal.invariant-loop-i
invariant-loop-i l = Front (frame_bytes (units_from l.line)) l.initial.out l.i l.out
