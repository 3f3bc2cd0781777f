-- The contract of the command call settles its outcome.
-- Assumes nothing.
use Rattle.outcomes.specs.Determined.{Determined}
use Rattle.session.proofs.Alike.{ended_alike, lent_alike, session_told, answered_alike}
use Rattle.modem.proofs.command_in.Kinds as command-in-kinds
use Rattle.modem.proofs.command_in.Reads as command-in-reads
use Rattle.modem.proofs.command.Kinds as command-kinds
use Rattle.modem.proofs.command.Reads as command-reads

pub command_in_settled : Determined 3 command-in-kinds.ps command-in-kinds.r command-in-reads.Pre command-in-reads.Post
command_in_settled κs a _ x y v w p q = (ended_alike p q, λ i. (session_told v.0 w.0 p q i, (tt, (lent_alike p q i, tt))))

pub command_settled : Determined 2 command-kinds.ps command-kinds.r command-reads.Pre command-reads.Post
command_settled κs a _ x y v w p q = (answered_alike x y p q, λ i. (tt, (tt, (lent_alike p q i, tt))))
