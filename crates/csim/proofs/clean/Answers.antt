-- `csim::clean` meets its contract: at every turn the characters before here stand in the buffer without their blanks.
-- Assumes nothing.
use native.Mathlib.Omega.{arith}
use Rattle.csim.proofs.Scans.{cleaned_none, cleaned_until, cleaned_room, cleaned_blank, cleaned_more}
use Rattle.csim.proofs.clean.Goals as goal
use Rattle.csim.proofs.clean.Goals.{then-c-ne-BLANK, else-c-ne-BLANK}

pub loop-c-init : goal.loop-c-init
loop-c-init c = search cleaned_none

pub bounds-out-n : goal.bounds-out-n
bounds-out-n c = cleaned_room _ _ _ _ _ c.loop-c.invariant c.requires c.loop-c-test.true

pub overflow_add-n : goal.overflow_add-n
overflow_add-n c = omega (arith, cleaned_until _ _ _ _ _ c.loop-c.invariant c.requires)

pub loop-c-preserved : goal.loop-c-preserved
loop-c-preserved c =
    elim c.if-c-ne-BLANK.branch [
      | then-c-ne-BLANK w ↦ rw (w.n-is, w.out-is) (cleaned_more _ _ _ _ _ c.loop-c.invariant c.requires _ c.loop-c-test.true w.if-c-ne-BLANK.true w.to_ascii_uppercase.ensures.value)
      | else-c-ne-BLANK w ↦ rw (w.n-is, w.out-is) (cleaned_blank _ _ _ _ _ c.loop-c.invariant c.requires c.loop-c-test.true w.if-c-ne-BLANK.false)
    ]
