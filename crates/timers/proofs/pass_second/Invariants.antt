-- `timers::pass_second` meets its contract: each turn one timer more loses a second.
-- Assumes nothing.
use Prim.Native.Nat.{◌-◌, ◌≤◌}
use mathlib.Core.Path.{◌≡◌}
use Rattle.rules.specs.Timers.{timer_count}
use Rattle.session.specs.Picture.{Good, view, ledger_of}
use Rattle.timers.proofs.Seconds.{partly}
use Rattle.timers.proofs.pass_second.Given as goal

abbrev pub invariant-loop-k : goal.invariant-loop-k
invariant-loop-k l = Good l.initial.session × (l.session.ledger ≡ ledger_of (partly (view l.initial.session) l.k)) × (l.session.pool ≡ l.initial.session.pool) × (l.k ≤ timer_count)

abbrev pub decreases-loop-k : goal.decreases-loop-k
decreases-loop-k l = timer_count - l.k
