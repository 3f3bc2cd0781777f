-- `mending::mend_objects` meets its contract: at every turn what comes out from here on is left to be written.
-- Assumes nothing.
use Rattle.mending.proofs.Left.{left_whole, left_none, bytes_room, end_bytes, object_left}
use Rattle.mending.proofs.mend_objects.Goals as goal

pub loop-sized-init : goal.loop-sized-init
loop-sized-init c = left_whole _ _ _ (bytes_room c.args.s.now c.args.out.now c.args.from c.requires)

pub loop-sized-preserved : goal.loop-sized-preserved
loop-sized-preserved c = object_left c.in-Some.ensures c.loop-sized.invariant c.put_part.ensures c.put_part-in-Some.ensures

pub returns : goal.returns
returns c = left_none c.loop-sized.invariant (end_bytes _ _ c.in_default.ensures)
