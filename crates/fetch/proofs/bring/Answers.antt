-- `fetch::bring` meets its contract: at each turn as many bytes are brought as are surely lacking.
-- Assumes nothing.
use mathlib.Core.Path.{sym, ap, ◌∙◌}
use native.Mathlib.Omega.{arith}
use lib.Seq.{length-take-le}
use Rattle.fetch.specs.Gathers.{is_lacking}
use Rattle.fetch.proofs.Bringing.{bring_none, bring_more, bring_short, bring_fits, bring_stop, bring_end}
use Rattle.fetch.proofs.bring.Goals as goal

pub loop-taken-init : goal.loop-taken-init
loop-taken-init c = bring_none _ _ _ c.requires.0 c.requires.1

pub overflow_add-count : goal.overflow_add-count
overflow_add-count c = let f = c.loop-taken.invariant.fits in omega (arith, f)

pub slice_bounds-stage_of-end : goal.slice_bounds-stage_of-end
slice_bounds-stage_of-end c = let f = c.loop-taken.invariant.fits in let z = c.loop-taken.invariant.size in omega (arith, f, z)

pub slice_bounds-stage_of-end-in-loop-taken : goal.slice_bounds-stage_of-end-in-loop-taken
slice_bounds-stage_of-end-in-loop-taken c = let f = c.loop-taken.invariant.fits in let z = c.loop-taken.invariant.size in sym (length-take-le _ _ (omega (arith, f, z)))

pub stage_of-requires : goal.stage_of-requires
stage_of-requires c = bring_short _ _ _ c.requires.0 _ _ c.loop-taken.invariant

pub overflow_add-end : goal.overflow_add-end
overflow_add-end c = let k = c.min.ensures in omega (arith, k)

pub put_part-requires : goal.put_part-requires
put_part-requires c = let k = c.min.ensures in
    let w = c.loop-taken.invariant.within in
    let z = c.loop-taken.invariant.size in
    let f = (bring_fits _ _ _ c.requires.0 _ _ c.loop-taken.invariant _ (sym c.stage_of.ensures ∙ c.in-Lacks.is)).0 in (omega arith, omega (arith, k, w), omega (arith, k, z, f))

pub loop-taken-smaller : goal.loop-taken-smaller
loop-taken-smaller c = let k = c.min.ensures in
    let f = (bring_fits _ _ _ c.requires.0 _ _ c.loop-taken.invariant _ (sym c.stage_of.ensures ∙ c.in-Lacks.is)).1 in omega (arith, k, f)

pub loop-taken-preserved : goal.loop-taken-preserved
loop-taken-preserved c = let k = c.min.ensures in
    bring_more _ _ _ c.requires.0 _ _ c.loop-taken.invariant _ _ _ (sym c.stage_of.ensures ∙ c.in-Lacks.is) (omega (arith, k)) c.put_part.ensures

pub returns-in-Overlong : goal.returns-in-Overlong
unfolding is_lacking
returns-in-Overlong c = record { value = (bring_stop _ _ _ c.requires.0 _ _ c.loop-taken.invariant (ap is_lacking (sym c.stage_of.ensures ∙ c.in-Overlong.is))).0; gathered_after = (bring_stop _ _ _ c.requires.0 _ _ c.loop-taken.invariant (ap is_lacking (sym c.stage_of.ensures ∙ c.in-Overlong.is))).1 }

pub returns-in-Decided : goal.returns-in-Decided
unfolding is_lacking
returns-in-Decided c = record { value = (bring_stop _ _ _ c.requires.0 _ _ c.loop-taken.invariant (ap is_lacking (sym c.stage_of.ensures ∙ c.in-Decided.is))).0; gathered_after = (bring_stop _ _ _ c.requires.0 _ _ c.loop-taken.invariant (ap is_lacking (sym c.stage_of.ensures ∙ c.in-Decided.is))).1 }

pub shape_of-gathered : goal.shape_of-gathered
shape_of-gathered c = c.loop-taken.invariant.size ∙ sym c.requires.0

pub returns : goal.returns
returns c = let w = c.loop-taken.invariant.within in
    record { value = (bring_end _ _ _ c.requires.0 _ _ c.loop-taken.invariant (omega (arith, c.loop-taken-test.false))).0; gathered_after = (bring_end _ _ _ c.requires.0 _ _ c.loop-taken.invariant (omega (arith, c.loop-taken-test.false))).1 }
