-- `mending::tell_mended` meets its contract: what is told of its frame.
-- Assumes nothing.
use mathlib.Core.Path.{refl}
use Rattle.mending.specs.Printed.{frame_line, mend_line}
use Rattle.mending.proofs.tell_mended.Goals as goal

pub returns : goal.returns
unfolding mend_line frame_line
returns c = c.answer.ensures frame_line refl (λ s out end out' h. h)
