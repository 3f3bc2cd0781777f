-- `command::channel_plan` meets its contract: byte 12, and the type less 3F, are the profile rule's place.
-- Assumes nothing.
use Rattle.command.proofs.Tables.{channel_place}
use Rattle.command.proofs.channel_plan.Goals as goal

pub returns-clause-place_value : goal.returns-clause-place_value
returns-clause-place_value c = channel_place _ c.requires.0 c.requires.1
