-- The contract of the writer settles its outcome.
-- Assumes nothing.
use mathlib.Core.Path.{sym, ◌∙◌}
use Rattle.outcomes.specs.Determined.{Determined}
use Rattle.bench_writer.proofs.write.Kinds as write-kinds
use Rattle.bench_writer.proofs.write.Reads as write-reads

pub write_settled : Determined 2 write-kinds.ps write-kinds.r write-reads.Pre write-reads.Post
write_settled κs a _ x y v w p q = (p.0 ∙ sym q.0, λ i. (tt, (tt, ((p.1 ∙ sym q.1) i, tt))))
