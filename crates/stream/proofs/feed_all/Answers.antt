-- `stream::feed_all` meets its contract: the reader behind what is left of the piece is the one behind all of it.
-- Assumes nothing.
use mathlib.Core.Path.{sym, ◌∙◌}
use native.Mathlib.Omega.{arith}
use lib.Seq.{length-take-le}
use borrow.Author.Tests.{eqb-true, eqb-false}
use Rattle.flow.proofs.Filling.{fills_within}
use Rattle.flow.proofs.Pieces.{rest_fed, rest_within, rest_less, rest_none}
use Rattle.stream.proofs.feed_all.Goals as goal

pub slice_bounds-write-end : goal.slice_bounds-write-end
slice_bounds-write-end g c = fills_within c.fill-progress.ensures

pub slice_bounds-write-end-in-loop-rest : goal.slice_bounds-write-end-in-loop-rest
slice_bounds-write-end-in-loop-rest g c = sym (length-take-le _ _ (fills_within c.fill-progress.ensures))

pub slice_bounds-rest-count : goal.slice_bounds-rest-count
slice_bounds-rest-count g c = rest_within c.loop-rest.rest.now c.fill-progress.result c.fill-progress.ensures

pub slice_bounds-rest-start : goal.slice_bounds-rest-start
slice_bounds-rest-start g c = rest_within c.loop-rest.rest.now c.fill-progress.result c.fill-progress.ensures

pub loop-rest-smaller : goal.loop-rest-smaller
loop-rest-smaller g c =
    let some = eqb-false _ _ (sym c.is_empty.ensures ∙ c.loop-rest-test.true) in
    rest_less c.loop-rest.rest.now c.fill-progress.result c.fill-progress.ensures (omega arith) (omega arith)

pub loop-rest-preserved : goal.loop-rest-preserved
loop-rest-preserved g c = rest_fed c.loop-rest.rest.now c.fill-progress.result c.fill-progress.ensures ∙ c.loop-rest.invariant

pub returns : goal.returns
returns g c = rest_none _ _ c.loop-rest.rest.now (eqb-true _ _ (sym c.is_empty.ensures ∙ c.loop-rest-test.false)) ∙ c.loop-rest.invariant
