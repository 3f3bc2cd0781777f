-- `stream::feed_all` meets its contract: the reader behind what is left of the piece is the one behind all of it.
-- Assumes nothing.
use mathlib.Core.Path.{◌≡◌}
use lib.ListN.{length}
use Rattle.flow.specs.Flow.{feeds}
use Rattle.tools.specs.Tools.{ends}
use Rattle.tools.specs.Machines.{reader_of}
use Rattle.stream.proofs.feed_all.Given as goal

abbrev pub invariant-loop-rest : goal.invariant-loop-rest
invariant-loop-rest g l = (feeds (ends l.tool) (reader_of l.machine) l.rest).reader ≡ (feeds (ends l.tool) (reader_of l.initial.machine) l.piece).reader

abbrev pub decreases-loop-rest : goal.decreases-loop-rest
decreases-loop-rest g l = length l.rest
