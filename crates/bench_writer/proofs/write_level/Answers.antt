-- `bench_writer::write_level` meets its contract: nothing, or one object.
-- Assumes nothing.
use mathlib.Core.Path.{◌∙◌}
use native.Mathlib.Omega.{arith}
use Rattle.rules.specs.Frames.{length_bytes}
use Rattle.rules.specs.Written.{pair_bytes}
use Rattle.rules.specs.Bench.{transport_objects}
use Rattle.bench_writer.specs.Records.{level_of}
use Rattle.bench_writer.proofs.Writes.{unwritten, unflagged_alone, pair_is}
use Rattle.bench_writer.proofs.write_level.Goals as goal

pub returns-in_default : goal.returns-in_default
unfolding transport_objects level_of
returns-in_default c = rw c.in_default.is (unwritten _ _ (omega arith))

pub returns : goal.returns
unfolding length_bytes pair_bytes transport_objects level_of
returns c =
    let w = rw (c.to_be_bytes.ensures ∙ pair_is c.in-Some.level.port (omega arith)) at c.write_object.ensures in
    rw c.in-Some.is (unflagged_alone _ _ _ _ _ _ w)
