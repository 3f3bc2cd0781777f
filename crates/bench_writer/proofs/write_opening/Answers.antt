-- `bench_writer::write_opening` meets its contract: bearer, size and transport level, each behind the last.
-- Assumes nothing.
use mathlib.Core.Path.{ap, ◌∙◌}
use lib.ListN.{length, length-append}
use Rattle.rules.specs.Frames.{length_bytes}
use Rattle.rules.proofs.Sizes.{length_bytes_lem}
use native.Mathlib.Omega.{arith}
use Rattle.rules.specs.Frames.{object_bytes}
use Rattle.rules.specs.Checks.{◌⇒◌else◌}
use Rattle.bench_writer.proofs.Writes.{pair_is, opening_wrote}
use Rattle.bench_writer.proofs.write_opening.Goals as goal

pub returns : goal.returns
unfolding object_bytes ◌⇒◌else◌
returns c =
    let w = rw (c.to_be_bytes.ensures ∙ pair_is c.args.size (omega arith)) at c.write_object-behind.ensures in
    opening_wrote _ _ _ c.args.level _ _ c.requires c.put.ensures c.put-2.ensures w c.write_level.ensures

pub write_level-requires : goal.write_level-requires
write_level-requires c = let p = c.to_be_bytes.result in omega (arith, length-append (length_bytes (length p)) p, length_bytes_lem (length p), ap length c.to_be_bytes.ensures)
