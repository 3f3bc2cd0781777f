-- `timers::tell_envelope` meets its contract: what `put` puts in is the envelope.
-- Assumes nothing.
use Rattle.timers.proofs.Writes.{envelope_stands}
use Rattle.timers.proofs.tell_envelope.Goals as goal

pub time_bytes-time-requires : goal.time_bytes-time-requires
time_bytes-time-requires c = c.requires.1

pub returns : goal.returns
returns c = envelope_stands c.args.n c.args.from _ c.args.out.now _ c.time_bytes-time.ensures c.put.ensures
