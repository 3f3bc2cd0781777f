-- The contract of the tool settles its outcome.
-- Assumes nothing.
use mathlib.Core.Path.{sym, ◌∙◌}
use Rattle.outcomes.specs.Determined.{Determined}
use Rattle.details.proofs.tell_details.Kinds as tell-details-kinds
use Rattle.details.proofs.tell_details.Reads as tell-details-reads

pub tell_details_settled : Determined 2 tell-details-kinds.ps tell-details-kinds.r tell-details-reads.Pre tell-details-reads.Post
tell_details_settled κs a _ x y v w p q = (p.place ∙ sym q.place, λ i. (tt, ((p.stands ∙ sym q.stands) i, v.1.1)))
