-- `session::start_of` meets its contract: each way of the definition.
-- Assumes nothing.
use Prim.Native.Nat.{◌+◌}
use mathlib.Core.Path.{sym, ap, ◌∙◌}
use native.Mathlib.Nat.{add-zero}
use Rattle.session.specs.Picture.{offset, space, start_in}
use Rattle.session.proofs.start_of.Goals as goal

pub returns-in-Receive : goal.returns-in-Receive
unfolding offset
returns-in-Receive c = c.base-at.ensures.value ∙ sym (ap (start_in c.args.ledger.now c.args.n c.args.grant) c.in-Receive.is ∙ add-zero _)

pub returns-in-Send : goal.returns-in-Send
unfolding offset space
returns-in-Send c = (λ i. c.base-at.ensures.value i + c.space.ensures.value i) ∙ sym (ap (start_in c.args.ledger.now c.args.n c.args.grant) c.in-Send.is)
