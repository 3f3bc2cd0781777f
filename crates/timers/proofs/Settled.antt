-- Each contract of the timers settles its outcome.
-- Assumes nothing.
use mathlib.Core.Path.{refl}
use Rattle.outcomes.specs.Determined.{Determined}
use Rattle.session.proofs.Alike.{ended_alike, lent_alike, session_told}
use Rattle.own.proofs.Settled.{count_told}
use Rattle.timers.proofs.start_timer.Kinds as start-timer-kinds
use Rattle.timers.proofs.start_timer.Reads as start-timer-reads
use Rattle.timers.proofs.manage_timer.Kinds as manage-timer-kinds
use Rattle.timers.proofs.manage_timer.Reads as manage-timer-reads
use Rattle.timers.proofs.pass_second.Kinds as pass-second-kinds
use Rattle.timers.proofs.pass_second.Reads as pass-second-reads
use Rattle.timers.proofs.envelope_in.Kinds as envelope-in-kinds
use Rattle.timers.proofs.envelope_in.Reads as envelope-in-reads

pub start_timer_settled : Determined 3 start-timer-kinds.ps start-timer-kinds.r start-timer-reads.Pre start-timer-reads.Post
start_timer_settled κs a _ x y v w p q = (count_told p q, λ i. (session_told v.0 w.0 p q i, (tt, (tt, (tt, (tt, (lent_alike p q i, tt)))))))

pub manage_timer_settled : Determined 2 manage-timer-kinds.ps manage-timer-kinds.r manage-timer-reads.Pre manage-timer-reads.Post
manage_timer_settled κs a _ x y v w p q = (count_told p q, λ i. (session_told v.0 w.0 p q i, (tt, (tt, (tt, (lent_alike p q i, tt))))))

pub pass_second_settled : Determined 1 pass-second-kinds.ps pass-second-kinds.r pass-second-reads.Pre pass-second-reads.Post
pass_second_settled κs a _ x y v w p q = (refl, λ i. (session_told v.0 w.0 p q i, tt))

pub envelope_in_settled : Determined 2 envelope-in-kinds.ps envelope-in-kinds.r envelope-in-reads.Pre envelope-in-reads.Post
envelope_in_settled κs a _ x y v w p q = (ended_alike p q, λ i. (session_told v.0 w.0 p q i, (lent_alike p q i, tt)))
