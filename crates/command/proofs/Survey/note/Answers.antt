-- `command::Survey::note` meets its contract: an object that counts, and any other.
-- Assumes nothing.
use mathlib.Core.Path.{sym}
use Rattle.rules.proofs.Laws.{stop, skip}
use Rattle.command.specs.Surveys.{noted}
use Rattle.command.proofs.Survey.note.Goals as goal

pub returns-then-counts : goal.returns-then-counts
unfolding noted
returns-then-counts c = sym (stop _ _ _ c.if-counts.true)

pub returns : goal.returns
unfolding noted
returns c = sym (skip _ _ _ c.if-counts.false)
