-- `session::count_less` meets its contract: the first length is fewer, or the loop moves the others to the front, and a 0 stands behind them.
-- Assumes nothing.
use Prim.Native.Nat.{◌+◌, ◌-◌}
use mathlib.Core.Path.{◌≡◌}
use lib.ListN.{drop}
use lib.Seq.{paste}
use Rattle.session.proofs.count_less.Given as goal

abbrev pub invariant-loop-i : goal.invariant-loop-i
invariant-loop-i l = l.ledger ≡ paste l.initial.ledger l.at (drop (l.at + 1) l.initial.ledger) (l.i - l.at)
