-- `host::pomerassol_command` meets its contract: that of the command call over the lent record, packed.
-- Assumes nothing.
use Rattle.rules.specs.Run.{commanding, step}
use Rattle.host.proofs.Packing.{answer_fits, answer_packs}
use Rattle.host.proofs.pomerassol_command.Goals as goal

pub pack-requires : goal.pack-requires
unfolding step
pack-requires c = answer_fits _ (commanding _ _) _ _ _ _ _ c.command_in.ensures c.requires.sound

pub returns : goal.returns
unfolding step
returns c = answer_packs _ (commanding _ _) _ _ _ _ _ c.command_in.ensures _ c.pack.ensures
