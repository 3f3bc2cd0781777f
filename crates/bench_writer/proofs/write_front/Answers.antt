-- `bench_writer::write_front` meets its contract: D0 and the length, then the objects 01 and 02.
-- Assumes nothing.
use mathlib.Core.Path.{refl}
use native.Mathlib.Omega.{arith}
use Rattle.bench_writer.specs.Wrote.{front_bytes}
use Rattle.bench_writer.proofs.Writes.{tagged}
use Rattle.bench_writer.proofs.write_front.Goals as goal

pub returns : goal.returns
unfolding front_bytes
returns c = tagged _ _ _ _ _ _ _ _ _ (omega arith) c.write_length-start.ensures.out_after c.write_length-start.ensures.value c.put.ensures refl
