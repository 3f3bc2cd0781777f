-- `octets::put` meets its contract: the loop copies `s` from its front.
-- Assumes nothing.
use Rattle.octets.proofs.Copies.{Copied}
use Rattle.octets.proofs.put.Given as goal

abbrev pub invariant-loop-i : goal.invariant-loop-i
invariant-loop-i l = Copied l.initial.d l.at l.s l.i l.d
