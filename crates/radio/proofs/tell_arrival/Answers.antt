-- `radio::tell_arrival` meets its contract: what is put in is the event.
-- Assumes nothing.
use mathlib.Core.Path.{◌∙◌}
use Rattle.radio.proofs.Ends.{arrival_event_lem}
use Rattle.radio.proofs.tell_arrival.Goals as goal

pub returns-clause-told : goal.returns-clause-told
returns-clause-told c = c.put.ensures ∙ arrival_event_lem c.args.out.now c.args.n c.args.count _ c.capped.ensures
