-- `bench_writer::level_size` meets its contract.
-- Assumes nothing.
use Rattle.rules.specs.Bench.{transport_objects}
use Rattle.rules.specs.Written.{pair_bytes}
use Rattle.rules.specs.Frames.{length_bytes, object_bytes, written}
use Rattle.rules.specs.Checks.{◌⇒◌else◌}
use Rattle.bench_writer.specs.Records.{level_of}
use Rattle.bench_writer.proofs.level_size.Goals as goal

pub returns-in-None : goal.returns-in-None
unfolding written transport_objects level_of
returns-in-None c = rw c.in-None.is

pub returns-in-Some : goal.returns-in-Some
unfolding written object_bytes length_bytes pair_bytes transport_objects level_of ◌⇒◌else◌
returns-in-Some c = rw c.in-Some.is
