-- `bench::tell_bench` meets its contract: what is told of its frame.
-- Assumes nothing.
use mathlib.Core.Path.{refl}
use Rattle.bench.specs.Printed.{reply_line, bench_line}
use Rattle.bench.proofs.tell_bench.Goals as goal

pub returns : goal.returns
unfolding bench_line reply_line
returns c = c.answer.ensures reply_line refl (λ s out end out' h. h)
