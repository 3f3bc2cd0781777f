-- `opening::link_by` meets its contract: each case of the definition.
-- Assumes nothing.
use mathlib.Core.Path.{sym}
use borrow.Author.Tests.{eq-eqb, ne_eqb}
use Rattle.rules.specs.Own.{bit1}
use Rattle.rules.proofs.Laws.{stop, skip}
use Rattle.opening.proofs.link_by.Goals as goal

pub returns-then-qualifier-eq1 : goal.returns-then-qualifier-eq1
unfolding bit1
returns-then-qualifier-eq1 c = sym (stop _ _ _ (eq-eqb _ 1 c.if-qualifier-eq1.true))

pub returns : goal.returns
unfolding bit1
returns c = sym (skip _ _ _ (ne_eqb _ 1 c.if-qualifier-eq1.false))
