-- `details::tell_details` meets its contract: what is told of its frame.
-- Assumes nothing.
use mathlib.Core.Path.{refl}
use Rattle.details.specs.Printed.{hand_line, details_line}
use Rattle.details.proofs.tell_details.Goals as goal

pub returns : goal.returns
unfolding details_line hand_line
returns c = c.answer.ensures hand_line refl (λ s out end out' h. h)
