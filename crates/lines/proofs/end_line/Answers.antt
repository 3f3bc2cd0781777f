-- `lines::end_line` meets its contract: a line after the first, or the first.
-- Assumes nothing.
use mathlib.Core.Path.{◌∙◌}
use Rattle.rules.specs.Lines.{call_of}
use Rattle.rules.specs.Input.{line_ends}
use Rattle.rules.proofs.Laws.{stop, skip}
use Rattle.lines.specs.Says.{answer_to}
use Rattle.lines.proofs.Telling.{ends_says}
use Rattle.lines.proofs.Acting.{goes_is}
use Rattle.lines.proofs.end_line.Goals as goal

pub perform-requires-clause-answering : goal.perform-requires-clause-answering
perform-requires-clause-answering c = (λ a s. answer_to a (call_of s), λ x s reply e x' reply' h. h)

pub returns-then-begun : goal.returns-then-begun
unfolding line_ends
returns-then-begun c = ends_says _ _ _ _ _ _ _ _ (stop _ _ _ c.if-begun.true ∙ goes_is _ _) (c.perform.ensures _ (λ x s reply e x' reply' h. h))

pub returns : goal.returns
unfolding line_ends
returns c = ends_says _ _ _ _ _ _ _ _ (skip _ _ _ c.if-begun.false) c.begin.ensures
