-- `host::pack_text` meets its contract: a case for each way to end.
-- Assumes nothing.
use Rattle.host.specs.Packed.{packed_text}
use Rattle.host.proofs.pack_text.Goals as goal

pub returns-in-Ok : goal.returns-in-Ok
unfolding packed_text
returns-in-Ok c = rw c.in-Ok.is

pub returns-in-Err : goal.returns-in-Err
unfolding packed_text
returns-in-Err c = rw (c.in-Err.is, c.number.ensures)
