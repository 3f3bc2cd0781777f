-- `own::short_or` meets its contract.
-- Assumes nothing.
use mathlib.Core.Path.{sym, ◌∙◌}
use Rattle.rules.proofs.Laws.{stop, skip}
use Rattle.own.proofs.short_or.Goals as goal

pub returns-then-short : goal.returns-then-short
returns-then-short c = sym (stop _ _ _ c.if-short.true)

pub returns : goal.returns
returns c = c.plain.ensures ∙ sym (skip _ _ _ c.if-short.false)
