-- `timers::before_waiting` meets its contract: each turn looks at one timer more.
-- Assumes nothing.
use Prim.Native.Nat.{◌+◌, ◌-◌, ◌≤◌}
use mathlib.Core.Path.{◌≡◌}
use lib.ListN.{drop}
use Rattle.rules.specs.Timers.{timer_count, before_waiting}
use Rattle.session.specs.Picture.{Good, view}
use Rattle.timers.proofs.before_waiting.Given as goal

abbrev pub invariant-loop-i : goal.invariant-loop-i
invariant-loop-i l = Good l.session × (before_waiting (view l.session).timers ≡ l.i + before_waiting (drop l.i (view l.session).timers)) × (l.i ≤ timer_count)

abbrev pub decreases-loop-i : goal.decreases-loop-i
decreases-loop-i l = timer_count - l.i

-- whether the timer that a turn looks at waits
