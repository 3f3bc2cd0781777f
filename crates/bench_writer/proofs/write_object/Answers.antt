-- `bench_writer::write_object` meets its contract: tag and length, then the value.
-- Assumes nothing.
use mathlib.Core.Path.{refl}
use native.Mathlib.Omega.{arith}
use Rattle.bench_writer.proofs.Writes.{tagged}
use Rattle.bench_writer.proofs.write_object.Goals as goal

pub returns : goal.returns
returns c = tagged _ _ _ _ _ _ _ _ _ (omega arith) c.write_length-start.ensures.out_after c.write_length-start.ensures.value c.put.ensures refl
