-- `host::pomerassol_arrival` meets its contract: that of the arrival over the lent record, packed.
-- Assumes nothing.
use Rattle.rules.specs.Run.{arriving, step}
use Rattle.host.proofs.Packing.{answer_fits, answer_packs}
use Rattle.host.proofs.pomerassol_arrival.Goals as goal

pub pack-requires : goal.pack-requires
unfolding step
pack-requires c = answer_fits _ (arriving _ _ _) _ _ _ _ _ c.arrival_in.ensures c.requires.sound

pub returns : goal.returns
unfolding step
returns c = answer_packs _ (arriving _ _ _) _ _ _ _ _ c.arrival_in.ensures _ c.pack.ensures
