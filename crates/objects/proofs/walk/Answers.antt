-- `objects::walk` meets its contract: at every turn the walk ends as the walk from here does.
-- Assumes nothing.
use Rattle.objects.proofs.Walking.{ends_start, ends_on, ends_end, ends_fault, nearer}
use Rattle.objects.proofs.walk.Goals as goal

pub loop-c-init : goal.loop-c-init
loop-c-init c = ends_start _

pub object-requires : goal.object-requires
object-requires c = tt

pub loop-c-smaller : goal.loop-c-smaller
loop-c-smaller c = nearer c.in-Ok.ensures

pub loop-c-preserved : goal.loop-c-preserved
loop-c-preserved c = ends_on c.loop-c.invariant c.in-Ok.ensures

pub returns-then-s-at : goal.returns-then-s-at
returns-then-s-at c = record { ending_value = (ends_end _ _ c.loop-c.invariant c.if-s-at.true).0; s_value = (ends_end _ _ c.loop-c.invariant c.if-s-at.true).1 }

pub returns-in-Err : goal.returns-in-Err
returns-in-Err c =
    let ends = ends_fault _ _ _ c.loop-c.invariant c.if-s-at.false c.in-Err.ensures in
    record { ending_value = ends.0; s_value = ends.1 }
