-- `responses::tell_statuses` meets its contract: each turn tells of one channel more.
-- Assumes nothing.
use Prim.Native.Nat.{◌-◌}
use Rattle.responses.proofs.Statuses.{Sofar}
use Rattle.responses.proofs.tell_statuses.Given as goal

abbrev pub invariant-loop-k : goal.invariant-loop-k
invariant-loop-k l = Sofar l.ledger l.head l.initial.out (l.k - 1) l.at l.out
