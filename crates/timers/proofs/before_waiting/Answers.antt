-- `timers::before_waiting` meets its contract: each turn looks at one timer more.
-- Assumes nothing.
use mathlib.Core.Path.{◌≡◌, sym, ap, ◌∙◌}
use native.Mathlib.Omega.{arith}
use lib.ListN.{get_or}
use Rattle.rules.specs.Timers.{idle, is_waiting}
use Rattle.session.specs.Picture.{shown}
use Rattle.session.proofs.Facts.{good_table}
use Rattle.timers.specs.Ticks.{waits_at}
use Rattle.timers.proofs.Records.{place_within}
use Rattle.timers.proofs.Seconds.{waiting_here, waiting_on, waiting_none, waits_read}
use Rattle.timers.proofs.before_waiting.Goals as goal

pub loop-i-init : goal.loop-i-init
loop-i-init c = (c.requires, omega arith, omega arith)

pub place_of-requires : goal.place_of-requires
place_of-requires c = c.loop-i-test.true

pub waits-requires : goal.waits-requires
waits-requires c = let w = place_within _ c.loop-i-test.true in
    omega (arith, w, c.place_of.ensures)

pub returns-then-waits : goal.returns-then-waits
returns-then-waits c = waiting_here _ c.loop-i.i (omega (arith, c.loop-i.invariant.0.sound.eight, c.loop-i-test.true)) (sym ((let here : c.waits.result ≡ is_waiting (get_or (shown c.args.session.now.ledger c.args.session.now.pool).timers c.loop-i.i idle) =
    c.waits.ensures ∙ ap (waits_at _) c.place_of.ensures ∙ waits_read _ _ c.loop-i.invariant.0 c.loop-i.i c.loop-i-test.true in here)) ∙ c.if-waits.true) c.loop-i.invariant.1

pub overflow_add-i : goal.overflow_add-i
overflow_add-i c = omega arith

pub loop-i-smaller : goal.loop-i-smaller
loop-i-smaller c = omega arith

pub loop-i-preserved : goal.loop-i-preserved
loop-i-preserved c = (
  c.loop-i.invariant.0,
  waiting_on _ c.loop-i.i (omega (arith, c.loop-i.invariant.0.sound.eight, c.loop-i-test.true)) (sym ((let here : c.waits.result ≡ is_waiting (get_or (shown c.args.session.now.ledger c.args.session.now.pool).timers c.loop-i.i idle) =
      c.waits.ensures ∙ ap (waits_at _) c.place_of.ensures ∙ waits_read _ _ c.loop-i.invariant.0 c.loop-i.i c.loop-i-test.true in here)) ∙ c.if-waits.false) c.loop-i.invariant.1,
  omega (arith, c.loop-i-test.true),
)

pub returns : goal.returns
returns c = waiting_none _ c.loop-i.i (omega (arith, c.loop-i.invariant.0.sound.eight, c.loop-i.invariant.2, c.loop-i-test.false)) c.loop-i.invariant.1
