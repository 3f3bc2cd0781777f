-- `command::slot` meets its contract.
-- Assumes nothing.
use borrow.Author.Rules.{rules}
use Rattle.rules.proofs.Laws.{checks}
use Rattle.command.specs.Surveys.{slot_of}
use Rattle.command.proofs.slot.Goals as goal

pub returns-then-number-lt-SLOTS : goal.returns-then-number-lt-SLOTS
unfolding slot_of
returns-then-number-lt-SLOTS c = (search checks, search rules)

pub returns : goal.returns
unfolding slot_of
returns c = (search checks, search rules)
