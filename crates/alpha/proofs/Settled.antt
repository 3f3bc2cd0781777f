-- The contracts of the calls and of the tools settle their outcomes.
-- Assumes nothing.
use mathlib.Core.Path.{sym, ◌∙◌}
use Rattle.outcomes.specs.Determined.{Determined}
use Rattle.alpha.proofs.read.Kinds as read-kinds
use Rattle.alpha.proofs.read.Reads as read-reads
use Rattle.alpha.proofs.write.Kinds as write-kinds
use Rattle.alpha.proofs.write.Reads as write-reads
use Rattle.alpha.proofs.tell_alpha_read.Kinds as tell-alpha-read-kinds
use Rattle.alpha.proofs.tell_alpha_read.Reads as tell-alpha-read-reads
use Rattle.alpha.proofs.tell_alpha_write.Kinds as tell-alpha-write-kinds
use Rattle.alpha.proofs.tell_alpha_write.Reads as tell-alpha-write-reads

pub read_settled : Determined 2 read-kinds.ps read-kinds.r read-reads.Pre read-reads.Post
read_settled κs a _ x y v w p q = (p.0 ∙ sym q.0, λ i. (tt, ((p.1 ∙ sym q.1) i, tt)))

pub write_settled : Determined 2 write-kinds.ps write-kinds.r write-reads.Pre write-reads.Post
write_settled κs a _ x y v w p q = (p.0 ∙ sym q.0, λ i. (tt, ((p.1 ∙ sym q.1) i, tt)))

pub tell_alpha_read_settled : Determined 2 tell-alpha-read-kinds.ps tell-alpha-read-kinds.r tell-alpha-read-reads.Pre tell-alpha-read-reads.Post
tell_alpha_read_settled κs a _ x y v w p q = (p.place ∙ sym q.place, λ i. (tt, ((p.stands ∙ sym q.stands) i, v.1.1)))

pub tell_alpha_write_settled : Determined 2 tell-alpha-write-kinds.ps tell-alpha-write-kinds.r tell-alpha-write-reads.Pre tell-alpha-write-reads.Post
tell_alpha_write_settled κs a _ x y v w p q = (p.place ∙ sym q.place, λ i. (tt, ((p.stands ∙ sym q.stands) i, v.1.1)))
