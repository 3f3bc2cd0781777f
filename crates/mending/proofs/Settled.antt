-- The contract of the tool settles its outcome.
-- Assumes nothing.
use mathlib.Core.Path.{sym, ◌∙◌}
use Rattle.outcomes.specs.Determined.{Determined}
use Rattle.mending.proofs.tell_mended.Kinds as tell-mended-kinds
use Rattle.mending.proofs.tell_mended.Reads as tell-mended-reads

pub tell_mended_settled : Determined 2 tell-mended-kinds.ps tell-mended-kinds.r tell-mended-reads.Pre tell-mended-reads.Post
tell_mended_settled κs a _ x y v w p q = (p.place ∙ sym q.place, λ i. (tt, ((p.stands ∙ sym q.stands) i, v.1.1)))
