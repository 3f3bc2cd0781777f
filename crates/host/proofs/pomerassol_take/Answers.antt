-- `host::pomerassol_take` meets its contract: that of the take over the lent record, packed.
-- Assumes nothing.
use Rattle.rules.specs.Run.{taking_out, step}
use Rattle.host.proofs.Packing.{answer_fits, answer_packs}
use Rattle.host.proofs.pomerassol_take.Goals as goal

pub pack-requires : goal.pack-requires
unfolding step
pack-requires c = answer_fits _ (taking_out _ _) _ _ _ _ _ c.taking_in.ensures c.requires.sound

pub returns : goal.returns
unfolding step
returns c = answer_packs _ (taking_out _ _) _ _ _ _ _ c.taking_in.ensures _ c.pack.ensures
