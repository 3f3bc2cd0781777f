-- `session::clear_but_profile` meets its contract: zeros, and over them what is kept of the profile.
-- Assumes nothing.
use Prim.Native.Nat.{◌-◌}
use mathlib.Core.Path.{◌≡◌}
use mathlib.Core.List.{◌++◌}
use lib.ListN.{take, replicate}
use Rattle.session.specs.Book.{ledger_size}
use Rattle.session.proofs.clear_but_profile.Given as goal

abbrev pub invariant-loop-i : goal.invariant-loop-i
invariant-loop-i l = l.ledger ≡ take l.i l.kept ++ replicate (ledger_size - l.i) 0
