-- `alpha::tell_alpha_read` meets its contract: what is told of its frame.
-- Assumes nothing.
use mathlib.Core.Path.{refl}
use Rattle.alpha.specs.Printed.{value_line, alpha_read_line}
use Rattle.alpha.proofs.tell_alpha_read.Goals as goal

pub returns : goal.returns
unfolding alpha_read_line value_line
returns c = c.answer.ensures value_line refl (λ s out end out' h. h)
