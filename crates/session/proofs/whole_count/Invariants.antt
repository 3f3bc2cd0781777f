-- `session::whole_count` meets its contract: the lengths end at the first 0.
-- Assumes nothing.
use Prim.Native.Nat.{◌-◌, ◌≤◌}
use lib.ListN.{length}
use Rattle.rules.specs.Datagrams.{place_count}
use Rattle.session.specs.Book.{lengths_in}
use Rattle.session.proofs.whole_count.Given as goal

abbrev pub invariant-loop-i : goal.invariant-loop-i
invariant-loop-i l = l.i ≤ length (lengths_in l.ledger l.fn.n l.fn.way)

abbrev pub decreases-loop-i : goal.decreases-loop-i
decreases-loop-i l = place_count - l.i
