-- `bench_reader::bytes_of` meets its contract: an object of another length has not these bytes.
-- Assumes nothing.
use mathlib.Core.Path.{◌∙◌}
use mathlib.Core.Bool.{false≢true}
use Rattle.bench_reader.proofs.Standing.{other_length, bytes_met}
use Rattle.bench_reader.proofs.bytes_of.Goals as goal

pub returns-in_err-bytes : goal.returns-in_err-bytes
returns-in_err-bytes g c =
    rw c.from_residual-in_err-bytes.ensures (other_length c.in_ok-object.ensures _ c.requires (λ l. false≢true (c.in_err-bytes.ensures.variant ∙ c.try_from.ensures.0 l)))

pub returns : goal.returns
returns g c = bytes_met c.in_ok-object.ensures _ _ _ c.try_from.ensures.1 c.in_ok-bytes.ensures.value c.type_inv.s
