-- `stream::run` meets its contract: what is to be written at the end stands within the output.
-- Assumes nothing.
use mathlib.Core.Path.{sym}
use lib.Seq.{length-take-le}
use Rattle.flow.proofs.Filling.{fills_within}
use Rattle.stream.proofs.run.Goals as goal

pub slice_bounds-write-end : goal.slice_bounds-write-end
slice_bounds-write-end g c = fills_within c.finish-last.ensures

pub slice_bounds-write-end-then-n-eq0 : goal.slice_bounds-write-end-then-n-eq0
slice_bounds-write-end-then-n-eq0 g c = sym (length-take-le _ _ (fills_within c.finish-last.ensures))
