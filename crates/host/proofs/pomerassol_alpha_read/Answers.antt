-- `host::pomerassol_alpha_read` meets its contract: a lent buffer has less than the flag.
-- Assumes nothing.
use native.Mathlib.Omega.{arith}
use Rattle.host.proofs.Packing.{text_read}
use Rattle.host.proofs.pomerassol_alpha_read.Goals as goal

pub returns : goal.returns
returns c = record { texts = text_read _ _ _ _ (omega arith) c.read.ensures.value c.pack_text.ensures; out_after = c.read.ensures.out_after }
