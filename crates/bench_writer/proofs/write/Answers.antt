-- `bench_writer::write` meets its contract: R1, R7, and then the front and the values.
-- Assumes nothing.
use mathlib.Core.Path.{sym, ◌∙◌}
use Rattle.bench_writer.proofs.Writes.{joined, wrote_ends, whole}
use Rattle.bench_writer.proofs.write.Goals as goal

pub returns : goal.returns
returns c =
    let bytes = c.args.bytes.now in
    let addressed = sym c.is_addressed.ensures ∙ c.if-not-is_addressed.false in
    let proper = sym c.is_proper.ensures ∙ c.if-not-is_proper.false in
    let both =
    wrote_ends _ _ _ _ _ (whole c.args.order bytes _ _ _ c.if-out-lt-COMMAND.false (c.kind_of-kind.ensures bytes) addressed proper c.body_size-size.ensures)
    (joined _ _ _ _ _ _ _ _ c.write_front-at.ensures c.write_body.ensures) in
    record { value = both.0; out_after = both.1 }
