-- `own::plain` meets its contract.
-- Assumes nothing.
use mathlib.Core.Path.{refl, sym}
use Rattle.rules.specs.Own.{plain}
use Rattle.rules.proofs.Laws.{stop, skip}
use Rattle.own.proofs.plain.Goals as goal

pub returns-then-ignored : goal.returns-then-ignored
unfolding plain
returns-then-ignored c = rw c.if-ignored.true (sym (stop _ _ _ refl))

pub returns : goal.returns
unfolding plain
returns c = rw c.if-ignored.false (sym (skip _ _ _ refl))
