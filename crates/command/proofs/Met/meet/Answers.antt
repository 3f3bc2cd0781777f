-- `command::Met::meet` meets its contract: the first in its slot, or one more.
-- Assumes nothing.
use Rattle.command.proofs.Sifting.{met_first, met_more}
use Rattle.command.proofs.Met.meet.Goals as goal
use Rattle.command.proofs.Met.meet.Goals.{then-before-eq0, else-before-eq0}

pub returns-clause-after : goal.returns-clause-after
returns-clause-after c =
    elim c.if-before-eq0.branch [
      | then-before-eq0 w ↦ rw (w.self-is, c.slot-k.ensures.0) (met_first _ _ _ (rw c.slot-k.ensures.0 at w.if-before-eq0.true))
      | else-before-eq0 w ↦ rw (w.self-is, c.slot-k.ensures.0) (met_more _ _ _ (rw c.slot-k.ensures.0 at w.if-before-eq0.false))
    ]
