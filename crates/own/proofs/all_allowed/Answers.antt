-- `own::all_allowed` meets its contract: each turn looks at one event more.
-- Assumes nothing.
use mathlib.Core.Path.{◌≡◌, refl, sym, ◌∙◌}
use mathlib.Core.Bool.{true, false}
use native.Mathlib.Omega.{arith}
use Rattle.rules.specs.Profile.{allows_event}
use Rattle.rules.proofs.Values.{every_at, every_end}
use Rattle.own.proofs.all_allowed.Goals as goal

pub loop-i-init : goal.loop-i-init
loop-i-init c = (refl, omega arith)

pub bounds-events-i : goal.bounds-events-i
bounds-events-i c = omega arith

pub allows_event-requires : goal.allows_event-requires
allows_event-requires c = c.requires

pub returns-then-not-allows_event : goal.returns-then-not-allows_event
returns-then-not-allows_event c = let r : c.allows_event.result ≡ false = c.if-not-allows_event.true in
    sym (every_at (allows_event c.args.ledger.now) _ _ false c.loop-i-test.true (sym c.allows_event.ensures ∙ r) c.loop-i.invariant.0)

pub overflow_add-i : goal.overflow_add-i
overflow_add-i c = omega arith

pub loop-i-smaller : goal.loop-i-smaller
loop-i-smaller c = omega arith

pub loop-i-preserved : goal.loop-i-preserved
loop-i-preserved c = let r : c.allows_event.result ≡ true = c.if-not-allows_event.false in
    (every_at (allows_event c.args.ledger.now) _ _ true c.loop-i-test.true (sym c.allows_event.ensures ∙ r) c.loop-i.invariant.0, omega arith)

pub returns : goal.returns
returns c = every_end (allows_event c.args.ledger.now) _ _ c.loop-i.invariant.1 c.loop-i-test.false c.loop-i.invariant.0
