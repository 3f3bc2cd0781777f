-- `command::Row::times` meets its contract: each line of the definition.
-- Assumes nothing.
use Prim.Native.Nat.{ℕ, ◌*◌}
use mathlib.Core.Path.{ap, ◌∙◌}
use borrow.Author.Rules.{rules}
use Rattle.command.proofs.Tables.{times_required, times_besides, besides_named, besides_once, besides_twice, besides_none}
use Rattle.command.proofs.Row.times.Goals as goal

pub returns-then-needs : goal.returns-then-needs
returns-then-needs c = times_required _ _ c.needs.ensures c.if-needs.true

pub returns-in-5 : goal.returns-in-5
returns-in-5 c = times_besides _ _ c.needs.ensures c.if-needs.false (c.from.ensures ∙ besides_named _ _ c.in-5.is)

pub returns-in-60 : goal.returns-in-60
returns-in-60 c = times_besides _ _ c.needs.ensures c.if-needs.false (c.from-in-60.ensures ∙ besides_once _ _ c.in-60.is)

pub returns-in-4 : goal.returns-in-4
returns-in-4 c = times_besides _ _ c.needs.ensures c.if-needs.false (ap (λ (k : ℕ). 2 * k) c.from-in-4.ensures ∙ besides_twice _ _ c.in-4.is)

pub returns-in_default : goal.returns-in_default
returns-in_default c = times_besides _ _ c.needs.ensures c.if-needs.false (besides_none _ _ (search rules))
