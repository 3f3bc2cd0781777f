-- `own::all_allowed` meets its contract: each turn looks at one event more.
-- Assumes nothing.
use Prim.Native.Nat.{◌-◌, ◌≤◌}
use mathlib.Core.Path.{◌≡◌}
use lib.ListN.{length, drop}
use Rattle.rules.specs.Checks.{every}
use Rattle.rules.specs.Profile.{allows_event}
use Rattle.own.proofs.all_allowed.Given as goal

abbrev pub invariant-loop-i : goal.invariant-loop-i
invariant-loop-i l = (every (allows_event l.ledger) l.events ≡ every (allows_event l.ledger) (drop l.i l.events)) × (l.i ≤ length l.events)

abbrev pub decreases-loop-i : goal.decreases-loop-i
decreases-loop-i l = length l.events - l.i
