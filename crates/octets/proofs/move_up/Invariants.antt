-- `octets::move_up` meets its contract: the loop copies the part from its end, and reads each byte before it is written over.
-- Assumes nothing.
use Rattle.octets.specs.Parts.{part}
use Rattle.octets.proofs.Copies.{CopiedBack}
use Rattle.octets.proofs.move_up.Given as goal

abbrev pub invariant-loop-n : goal.invariant-loop-n
invariant-loop-n l = CopiedBack l.initial.d l.to (part l.from l.end l.initial.d) l.n l.d
