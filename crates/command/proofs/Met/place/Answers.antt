-- `command::Met::place` meets its contract: an empty slot, and one where the first starts.
-- Assumes nothing.
use Rattle.command.proofs.Sifting.{place_none, place_some}
use Rattle.command.proofs.Met.place.Goals as goal

pub returns-in-0 : goal.returns-in-0
returns-in-0 c = place_none c.args.self.now _ c.slot.ensures.0 c.in-0.is

pub returns-in_default : goal.returns-in_default
returns-in_default c = let k = c.slot.ensures.0 in search place_some
