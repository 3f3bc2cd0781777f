-- `session::base` meets its contract: each turn adds the region of one channel more.
-- Assumes nothing.
use Prim.Native.Nat.{◌*◌, ◌≤◌}
use mathlib.Core.Path.{◌≡◌}
use Rattle.session.specs.Picture.{base_in}
use Rattle.session.proofs.base.Given as goal

abbrev pub invariant-loop-i : goal.invariant-loop-i
invariant-loop-i l = (l.at ≡ base_in l.ledger l.i) × (l.at ≤ 131072 * l.i)
