-- `bench_reader::read_opened` meets its contract: a status that is not dropped, and what follows.
-- Assumes nothing.
use mathlib.Core.Path.{sym, ◌∙◌}
use Rattle.bench_reader.proofs.Standing.{follows_as}
use Rattle.bench_reader.proofs.Following.{same_dropped, opened_missed, opened_dropped, opened_fits}
use Rattle.bench_reader.proofs.read_opened.Goals as goal

pub returns-in_err-number : goal.returns-in_err-number
returns-in_err-number c = λ d x. rw c.from_residual.ensures (opened_missed d x c.in_err-number.ensures)

pub returns-then-eq : goal.returns-then-eq
returns-then-eq c = λ d x. opened_dropped d x c.in_ok-number.ensures (sym (same_dropped _) ∙ sym c.eq.ensures ∙ c.if-eq.true)

pub returns : goal.returns
returns c = λ d x. follows_as d x _ _ (opened_fits d x c.in_ok-number.ensures (sym (same_dropped _) ∙ sym c.eq.ensures ∙ c.if-eq.false)) (c.read_bearer.ensures d x)
