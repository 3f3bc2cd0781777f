-- `opening::carried_by` meets its contract: each case of the definition.
-- Assumes nothing.
use mathlib.Core.Path.{sym}
use borrow.Author.Tests.{eq-eqb, ne_eqb}
use Rattle.rules.specs.Own.{carried_by}
use Rattle.rules.proofs.Laws.{stop, skip}
use Rattle.opening.proofs.carried_by.Goals as goal

pub returns-then-protocol-eq-UDP : goal.returns-then-protocol-eq-UDP
unfolding carried_by
returns-then-protocol-eq-UDP c = sym (stop _ _ _ (eq-eqb _ 0x01 c.if-protocol-eq-UDP.true))

pub returns : goal.returns
unfolding carried_by
returns c = sym (skip _ _ _ (ne_eqb _ 0x01 c.if-protocol-eq-UDP.false))
