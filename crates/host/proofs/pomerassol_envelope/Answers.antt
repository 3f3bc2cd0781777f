-- `host::pomerassol_envelope` meets its contract: that of the envelope over the lent record, packed.
-- Assumes nothing.
use Rattle.rules.specs.TimerCalls.{envelope}
use Rattle.rules.specs.Run.{timing, step}
use Rattle.host.proofs.Packing.{answer_fits, answer_packs}
use Rattle.host.proofs.pomerassol_envelope.Goals as goal

pub pack-requires : goal.pack-requires
unfolding step
pack-requires c = answer_fits _ (timing (envelope _)) _ _ _ _ _ c.envelope_in.ensures c.requires.sound

pub returns : goal.returns
unfolding step
returns c = answer_packs _ (timing (envelope _)) _ _ _ _ _ c.envelope_in.ensures _ c.pack.ensures
