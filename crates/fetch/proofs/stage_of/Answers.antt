-- `fetch::stage_of` meets its contract: each answer is that of the law for its case.
-- Assumes nothing.
use mathlib.Core.Path.{sym, ◌∙◌}
use Rattle.fetch.proofs.Heads.{stage_none, stage_other, stage_to_come, stage_unsized, stage_sized}
use Rattle.fetch.proofs.stage_of.Goals as goal

pub returns-then-s-eq0 : goal.returns-then-s-eq0
returns-then-s-eq0 c = search stage_none

pub returns-then-s : goal.returns-then-s
returns-then-s c = search stage_other

pub returns-then-length_to_come : goal.returns-then-length_to_come
returns-then-length_to_come c = stage_to_come _ c.if-s-eq0.false c.if-s.false (sym c.if-length_to_come.true ∙ c.length_to_come.ensures)

pub returns-in-Some : goal.returns-in-Some
returns-in-Some c = c.lacking.ensures
    ∙ stage_sized _ c.if-s-eq0.false c.if-s.false (sym c.if-length_to_come.false ∙ c.length_to_come.ensures) _ _ c.in-Some.ensures

pub returns-in-None : goal.returns-in-None
returns-in-None c = stage_unsized _ c.if-s-eq0.false c.if-s.false (sym c.if-length_to_come.false ∙ c.length_to_come.ensures) c.in-None.ensures
