-- `bench_reader::last` meets its contract: the bytes end here, or go on.
-- Assumes nothing.
use Rattle.bench_reader.proofs.Standing.{last_heard, last_silent}
use Rattle.bench_reader.proofs.last.Goals as goal

pub returns-then-c-s : goal.returns-then-c-s
returns-then-c-s c = search last_silent

pub returns : goal.returns
returns c = last_heard _ _ _ _ c.if-c-s.false (c.requires c.if-c-s.false)
