-- `csim::clean` meets its contract: at every turn the characters before here stand in the buffer without their blanks.
-- Assumes nothing.
use Rattle.csim.proofs.Scans.{Cleaned}
use Rattle.csim.proofs.clean.Given as goal

abbrev pub invariant-loop-c : goal.invariant-loop-c
invariant-loop-c l = Cleaned l.line l.initial.out l.n l.c-index l.out
