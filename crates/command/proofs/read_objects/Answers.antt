-- `command::read_objects` meets its contract: step 3, and those behind it.
-- Assumes nothing.
use Rattle.rules.specs.Reading.{zeros}
use Rattle.command.proofs.read_objects.Goals as goal

pub returns-in-Err : goal.returns-in-Err
unfolding zeros
returns-in-Err c = c.in-Err.ensures _
