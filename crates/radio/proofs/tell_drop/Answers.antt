-- `radio::tell_drop` meets its contract: what is put in is the event.
-- Assumes nothing.
use mathlib.Core.Path.{◌∙◌}
use Rattle.radio.proofs.Ends.{drop_event_lem}
use Rattle.radio.proofs.tell_drop.Goals as goal

pub returns-clause-told : goal.returns-clause-told
returns-clause-told c = c.put.ensures ∙ drop_event_lem c.args.out.now c.args.n
