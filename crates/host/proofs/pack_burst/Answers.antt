-- `host::pack_burst` meets its contract: the bytes left, or as many as can be told.
-- Assumes nothing.
use Rattle.host.proofs.Packing.{burst_few, burst_many}
use Rattle.host.proofs.pack_burst.Goals as goal

pub returns-then-left-lt-LEFT_CAP : goal.returns-then-left-lt-LEFT_CAP
returns-then-left-lt-LEFT_CAP c = burst_few _ _ c.pack-told.ensures c.if-left-lt-LEFT_CAP.true

pub returns : goal.returns
returns c = burst_many _ _ c.pack-told.ensures c.if-left-lt-LEFT_CAP.false
