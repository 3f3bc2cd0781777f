-- The contract of OPEN CHANNEL settles its outcome.
-- Assumes nothing.
use Rattle.outcomes.specs.Determined.{Determined}
use Rattle.session.proofs.Alike.{lent_alike, session_told}
use Rattle.own.proofs.Settled.{count_told}
use Rattle.opening.proofs.open.Kinds as open-kinds
use Rattle.opening.proofs.open.Reads as open-reads

pub open_settled : Determined 3 open-kinds.ps open-kinds.r open-reads.Pre open-reads.Post
open_settled κs a _ x y v w p q = (count_told p q, λ i. (session_told v.0 w.0 p q i, (tt, (tt, (tt, (tt, (tt, (lent_alike p q i, tt))))))))
