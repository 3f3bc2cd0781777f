-- The contract of the tool settles its outcome.
-- Assumes nothing.
use mathlib.Core.Path.{sym, ◌∙◌}
use Rattle.outcomes.specs.Determined.{Determined}
use Rattle.bench.proofs.tell_bench.Kinds as tell-bench-kinds
use Rattle.bench.proofs.tell_bench.Reads as tell-bench-reads

pub tell_bench_settled : Determined 2 tell-bench-kinds.ps tell-bench-kinds.r tell-bench-reads.Pre tell-bench-reads.Post
tell_bench_settled κs a _ x y v w p q = (p.place ∙ sym q.place, λ i. (tt, ((p.stands ∙ sym q.stands) i, v.1.1)))
