-- `command::details_told` meets its contract: a wrong frame, the details of the first object, or none.
-- Assumes nothing.
use Rattle.rules.specs.Reading.{zeros}
use Rattle.command.proofs.Opening.{hand_told, hand_absent, hand_unframed}
use Rattle.command.proofs.details_told.Goals as goal

pub returns-in_default : goal.returns-in_default
unfolding zeros
returns-in_default c = hand_unframed _ c.in_default.ensures

pub returns-in-Ok : goal.returns-in-Ok
returns-in-Ok c = hand_told _ c.in-Some.ensures c.in-Ok.ensures

pub returns-in-Err : goal.returns-in-Err
unfolding zeros
returns-in-Err c = hand_absent _ c.in-Some.ensures c.in-Err.ensures
