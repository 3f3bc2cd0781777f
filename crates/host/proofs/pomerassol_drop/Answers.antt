-- `host::pomerassol_drop` meets its contract: that of the drop over the lent record, packed.
-- Assumes nothing.
use Rattle.rules.specs.Run.{dropping_link, step}
use Rattle.host.proofs.Packing.{answer_fits, answer_packs}
use Rattle.host.proofs.pomerassol_drop.Goals as goal

pub pack-requires : goal.pack-requires
unfolding step
pack-requires c = answer_fits _ (dropping_link _ _) _ _ _ _ _ c.dropping_in.ensures c.requires.sound

pub returns : goal.returns
unfolding step
returns c = answer_packs _ (dropping_link _ _) _ _ _ _ _ c.dropping_in.ensures _ c.pack.ensures
