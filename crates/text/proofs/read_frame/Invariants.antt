-- `text::read_frame` meets its contract: the loop copies the bytes of a line that is readable.
-- Assumes nothing.
use Rattle.text.proofs.Fills.{Fills}
use Rattle.text.proofs.read_frame.Given as goal

abbrev pub invariant-loop-i : goal.invariant-loop-i
invariant-loop-i l = Fills l.line l.initial.out l.i l.out
