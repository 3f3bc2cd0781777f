-- `timers::pass_second` meets its contract: each turn one timer more loses a second.
-- Assumes nothing.
use mathlib.Core.Path.{refl, ap, ◌∙◌}
use native.Mathlib.Omega.{arith}
use Rattle.timers.specs.Ticks.{ticked_at}
use Rattle.timers.proofs.Records.{place_within}
use Rattle.timers.proofs.Seconds.{partly_none, partly_next, second_passed}
use Rattle.timers.proofs.pass_second.Goals as goal

pub loop-k-init : goal.loop-k-init
loop-k-init c = (c.requires, c.requires.shows.ledger ∙ partly_none _, refl, omega arith)

pub place_of-requires : goal.place_of-requires
place_of-requires c = c.loop-k-test.true

pub tick-requires : goal.tick-requires
tick-requires c = let w = place_within _ c.loop-k-test.true in
    omega (arith, w, c.place_of.ensures)

pub overflow_add-k : goal.overflow_add-k
overflow_add-k c = omega arith

pub loop-k-smaller : goal.loop-k-smaller
loop-k-smaller c = omega arith

pub loop-k-preserved : goal.loop-k-preserved
loop-k-preserved c = let g = c.loop-k.invariant.0 in
    (g, partly_next _ g.sound c.loop-k.k c.loop-k-test.true _ _ c.loop-k.invariant.1 (c.tick.ensures ∙ ap (ticked_at _) c.place_of.ensures), c.loop-k.invariant.2, omega (arith, c.loop-k-test.true))

pub returns : goal.returns
returns c = second_passed _ _ _ _ c.loop-k.k c.loop-k.invariant.0 c.loop-k.invariant.3 c.loop-k-test.false c.loop-k.invariant.1 c.loop-k.invariant.2
