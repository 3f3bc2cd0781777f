-- `command::bearer_fits` meets its contract: each answer is that of the law for its case.
-- Assumes nothing.
use Rattle.command.proofs.Lengths.{bearer_none, bearer_two, bearer_three, bearer_any}
use Rattle.command.proofs.bearer_fits.Goals as goal

pub returns-in-empty : goal.returns-in-empty
returns-in-empty c = search bearer_none

pub returns-in-2 : goal.returns-in-2
returns-in-2 c = search bearer_two

pub returns-in-3 : goal.returns-in-3
returns-in-3 c = search bearer_three

pub returns-in_default : goal.returns-in_default
returns-in_default c = search bearer_any
