-- `bench::read_opening` meets its contract: without a transport level, or with one.
-- Assumes nothing.
use mathlib.Core.Path.{refl}
use native.Mathlib.Omega.{arith}
use Rattle.bench_writer.specs.Records.{body_of, level_of}
use Rattle.bench.proofs.Records.{opening_without, opening_with}
use Rattle.bench.proofs.read_opening.Goals as goal
use Rattle.bench.proofs.read_opening.Goals.{in-empty, in-len3}

pub returns : goal.returns
unfolding body_of level_of
returns c =
    let s = c.in_ok-bytes.ensures.cases in
    let size = c.from_be_bytes-2.ensures in
    elim c.if-rest-lt1.branch [
      | in-empty w ↦ rw w.level-is (opening_without _ c.from.ensures s.1 s.2 (omega arith) (omega arith))
      | in-len3 w ↦ rw w.level-is (opening_with _ c.from.ensures s.1 s.2 (omega arith) refl (let port = w.from_be_bytes.ensures in omega arith) (omega arith))
    ]
