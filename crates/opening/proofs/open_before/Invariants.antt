-- `opening::open_before` meets its contract: each turn sees one open channel more.
-- Assumes nothing.
use Prim.Native.Nat.{◌-◌}
use Rattle.opening.proofs.Unused.{Seen}
use Rattle.opening.proofs.open_before.Given as goal

abbrev pub invariant-loop-k : goal.invariant-loop-k
invariant-loop-k l = Seen l.ledger l.n l.k

abbrev pub decreases-loop-k : goal.decreases-loop-k
decreases-loop-k l = l.n - l.k
