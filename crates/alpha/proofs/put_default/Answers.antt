-- `alpha::put_default` meets its contract: the room, and the bytes.
-- Assumes nothing.
use native.Mathlib.Omega.{arith}
use Rattle.alpha.proofs.Layings.{coded_short, coded_wrote}
use Rattle.alpha.proofs.put_default.Goals as goal
use Rattle.alpha.proofs.put_default.Goals.{then-room-extras-via-then-room-extras, then-room-extras-via-else-room-extras+then-room-extras-2}

pub returns-then-room-extras : goal.returns-then-room-extras
returns-then-room-extras c =
    coded_short _ _ _ c.requires
    (elim c.then-room-extras.branch [
      | then-room-extras-via-then-room-extras w ↦ omega arith
      | then-room-extras-via-else-room-extras+then-room-extras-2 w ↦ omega arith
    ])

pub returns : goal.returns
returns c = coded_wrote _ _ _ c.requires _ (omega arith) c.write_default.ensures
