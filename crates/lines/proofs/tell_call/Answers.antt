-- `lines::tell_call` meets its contract: the first line, or a line after it.
-- Assumes nothing.
use Rattle.rules.proofs.Laws.{stop, skip}
use Rattle.lines.specs.Asks.{frame_for, calls_ends}
use Rattle.lines.proofs.Telling.{ends_says}
use Rattle.lines.proofs.tell_call.Goals as goal

pub returns-then-not-begun : goal.returns-then-not-begun
unfolding calls_ends
returns-then-not-begun c = ends_says _ _ _ _ _ _ _ _ (skip _ _ _ c.if-not-begun.true) c.begin.ensures

pub perform-requires-clause-answering : goal.perform-requires-clause-answering
perform-requires-clause-answering c = (frame_for, λ x s reply e x' reply' h. h)

pub returns : goal.returns
unfolding calls_ends
returns c = ends_says _ _ _ _ _ _ _ _ (stop _ _ _ c.if-not-begun.false) (c.perform.ensures frame_for (λ x s reply e x' reply' h. h))
