-- `host::pomerassol_alpha_write` meets its contract: a lent buffer has less than the flag.
-- Assumes nothing.
use native.Mathlib.Omega.{arith}
use Rattle.host.proofs.Packing.{text_written}
use Rattle.host.proofs.pomerassol_alpha_write.Goals as goal

pub returns : goal.returns
returns c = record { texts = text_written _ _ _ _ (omega arith) c.write.ensures.value c.pack_text.ensures; out_after = c.write.ensures.out_after }
