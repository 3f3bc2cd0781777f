-- `octets::move_down` meets its contract: the loop copies the part from its front, and reads each byte before it is written over.
-- Assumes nothing.
use Rattle.octets.specs.Parts.{part}
use Rattle.octets.proofs.Copies.{Copied}
use Rattle.octets.proofs.move_down.Given as goal

abbrev pub invariant-loop-i : goal.invariant-loop-i
invariant-loop-i l = Copied l.initial.d l.to (part l.from l.end l.initial.d) l.i l.d
