-- `alpha::put_pairs` meets its contract: the room, the mark, and the pairs.
-- Assumes nothing.
use native.Mathlib.Omega.{arith}
use lib.ListN.{length-set}
use Rattle.alpha.proofs.Layings.{short_pairs, headed_pairs, pairs_same}
use Rattle.alpha.proofs.put_pairs.Goals as goal

pub returns-then-room-eq0 : goal.returns-then-room-eq0
returns-then-room-eq0 c = short_pairs _ _ (omega arith)

pub write_pairs-requires : goal.write_pairs-requires
write_pairs-requires c = simp length-set (omega arith)

pub shape_of-out : goal.shape_of-out
shape_of-out c = pairs_same c.args.units.now c.args.out.now _ (omega arith) c.write_pairs.ensures

pub returns : goal.returns
returns c = headed_pairs _ _ _ (omega arith) c.write_pairs.ensures
