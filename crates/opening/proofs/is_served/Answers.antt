-- `opening::is_served` meets its contract: each case of the definition.
-- Assumes nothing.
use mathlib.Core.Path.{refl}
use borrow.Author.Tests.{ne_eqb}
use Rattle.rules.specs.Own.{served}
use Rattle.opening.proofs.is_served.Goals as goal

pub returns-in-1 : goal.returns-in-1
unfolding served
returns-in-1 c = rw c.in-1.is refl

pub returns-in-2 : goal.returns-in-2
unfolding served
returns-in-2 c = rw c.in-2.is refl

pub returns-in_default : goal.returns-in_default
unfolding served
returns-in_default c = rw (ne_eqb c.args.protocol 0x01 c.in_default.in_default-own.rest.0.1, ne_eqb c.args.protocol 0x02 c.in_default.in_default-own.rest.1) refl
