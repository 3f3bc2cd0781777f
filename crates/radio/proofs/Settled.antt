-- Each contract of the radio settles its outcome.
-- Assumes nothing.
use Rattle.outcomes.specs.Determined.{Determined}
use Rattle.session.proofs.Alike.{ended_alike, lent_alike, session_told, answered_alike}
use Rattle.radio.proofs.arrival_in.Kinds as arrival-in-kinds
use Rattle.radio.proofs.arrival_in.Reads as arrival-in-reads
use Rattle.radio.proofs.taking_in.Kinds as taking-in-kinds
use Rattle.radio.proofs.taking_in.Reads as taking-in-reads
use Rattle.radio.proofs.dropping_in.Kinds as dropping-in-kinds
use Rattle.radio.proofs.dropping_in.Reads as dropping-in-reads
use Rattle.radio.proofs.arrival.Kinds as arrival-kinds
use Rattle.radio.proofs.arrival.Reads as arrival-reads
use Rattle.radio.proofs.take.Kinds as take-kinds
use Rattle.radio.proofs.take.Reads as take-reads
use Rattle.radio.proofs.drop.Kinds as drop-kinds
use Rattle.radio.proofs.drop.Reads as drop-reads

pub arrival_in_settled : Determined 3 arrival-in-kinds.ps arrival-in-kinds.r arrival-in-reads.Pre arrival-in-reads.Post
arrival_in_settled κs a _ x y v w p q = (ended_alike p q, λ i. (session_told v.0 w.0 p q i, (tt, (tt, (lent_alike p q i, tt)))))

pub taking_in_settled : Determined 2 taking-in-kinds.ps taking-in-kinds.r taking-in-reads.Pre taking-in-reads.Post
taking_in_settled κs a _ x y v w p q = (ended_alike p q, λ i. (session_told v.0 w.0 p q i, (tt, (lent_alike p q i, tt))))

pub dropping_in_settled : Determined 2 dropping-in-kinds.ps dropping-in-kinds.r dropping-in-reads.Pre dropping-in-reads.Post
dropping_in_settled κs a _ x y v w p q = (ended_alike p q, λ i. (session_told v.0 w.0 p q i, (tt, (lent_alike p q i, tt))))

pub arrival_settled : Determined 2 arrival-kinds.ps arrival-kinds.r arrival-reads.Pre arrival-reads.Post
arrival_settled κs a _ x y v w p q = (answered_alike x y p q, λ i. (tt, (tt, (tt, (lent_alike p q i, tt)))))

pub take_settled : Determined 1 take-kinds.ps take-kinds.r take-reads.Pre take-reads.Post
take_settled κs a _ x y v w p q = (answered_alike x y p q, λ i. (tt, (tt, (lent_alike p q i, tt))))

pub drop_settled : Determined 1 drop-kinds.ps drop-kinds.r drop-reads.Pre drop-reads.Post
drop_settled κs a _ x y v w p q = (answered_alike x y p q, λ i. (tt, (tt, (lent_alike p q i, tt))))
