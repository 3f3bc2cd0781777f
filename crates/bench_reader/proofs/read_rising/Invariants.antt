-- `bench_reader::read_rising` meets its contract: at every turn so many statuses stand before here, the last of which has this number.
-- Assumes nothing.
use Prim.Native.Nat.{◌-◌}
use lib.ListN.{length}
use Rattle.bench_reader.proofs.Rising.{Rises}
use Rattle.bench_reader.proofs.read_rising.Given as goal

abbrev pub invariant-loop-here : goal.invariant-loop-here
invariant-loop-here l = Rises l.s l.start l.here.at l.count l.highest

abbrev pub decreases-loop-here : goal.decreases-loop-here
decreases-loop-here l = length l.s - l.here.at
