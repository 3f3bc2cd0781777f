-- `command::read_unknown` meets its contract: step 4, and step 5 for a type that is not one of the table.
-- Assumes nothing.
use mathlib.Core.Path.{sym, ◌∙◌}
use Rattle.command.proofs.Opening.{cut_read, unknown_read}
use Rattle.command.proofs.read_unknown.Goals as goal

pub returns-in-End : goal.returns-in-End
returns-in-End c = unknown_read c.requires.0 (sym c.in-End.is ∙ c.walk.ensures.ending_value) c.requires.1

pub returns-in_default : goal.returns-in_default
returns-in_default c = cut_read c.requires.0 _ c.walk.ensures.ending_value c.in_default.not-End
