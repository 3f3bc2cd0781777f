-- Each contract of the own checks settles its outcome.
-- Assumes nothing.
use Prim.Native.Nat.{ℕ}
use mathlib.Core.Path.{◌≡◌, refl, sym, ap, ◌∙◌}
use mathlib.Core.List.{List}
use Rattle.outcomes.specs.Determined.{Determined}
use Rattle.rules.specs.Command.{Answer}
use Rattle.rules.specs.Words.{Ended}
use Rattle.std.specs.Prelude.{Ok, Err}
use Rattle.session.specs.Calls.{Answers}
use Rattle.session.proofs.Alike.{ended_alike, lent_alike, session_told}
use Rattle.own.proofs.plain.Kinds as plain-kinds
use Rattle.own.proofs.plain.Reads as plain-reads
use Rattle.own.proofs.short_or.Kinds as short-or-kinds
use Rattle.own.proofs.short_or.Reads as short-or-reads
use Rattle.own.proofs.tell.Kinds as tell-kinds
use Rattle.own.proofs.tell.Reads as tell-reads
use Rattle.own.proofs.list_events.Kinds as list-events-kinds
use Rattle.own.proofs.list_events.Reads as list-events-reads
use Rattle.own.proofs.close.Kinds as close-kinds
use Rattle.own.proofs.close.Reads as close-reads
use Rattle.own.proofs.receive.Kinds as receive-kinds
use Rattle.own.proofs.receive.Reads as receive-reads
use Rattle.own.proofs.send.Kinds as send-kinds
use Rattle.own.proofs.send.Reads as send-reads

pub plain_settled : Determined 0 plain-kinds.ps plain-kinds.r plain-reads.Pre plain-reads.Post
plain_settled κs a _ x y v w p q = (p ∙ sym q, refl)

pub short_or_settled : Determined 0 short-or-kinds.ps short-or-kinds.r short-or-reads.Pre short-or-reads.Post
short_or_settled κs a _ x y v w p q = (p ∙ sym q, refl)

-- two counts told in one answer
abbrev counted : Ended → ℕ
counted (Ok k) = k
counted (Err r) = 0

pub count_told :
    {r : Answer} {t u p q before after after' : List ℕ} {x y : ℕ} → Answers r t p (Ok x) before after → Answers r u q (Ok y) before after' → x ≡ y
count_told s z = ap counted (ended_alike s z)

pub tell_settled : Determined 2 tell-kinds.ps tell-kinds.r tell-reads.Pre tell-reads.Post
tell_settled κs a _ x y v w p q = (count_told p q, λ i. (tt, (tt, (tt, (lent_alike p q i, tt)))))

pub list_events_settled : Determined 3 list-events-kinds.ps list-events-kinds.r list-events-reads.Pre list-events-reads.Post
list_events_settled κs a _ x y v w p q = (count_told p q, λ i. (session_told v.0 w.0 p q i, (tt, (tt, (tt, (lent_alike p q i, tt))))))

pub close_settled : Determined 2 close-kinds.ps close-kinds.r close-reads.Pre close-reads.Post
close_settled κs a _ x y v w p q = (count_told p q, λ i. (session_told v.0 w.0 p q i, (tt, (tt, (tt, (lent_alike p q i, tt))))))

pub receive_settled : Determined 2 receive-kinds.ps receive-kinds.r receive-reads.Pre receive-reads.Post
receive_settled κs a _ x y v w p q = (count_told p q, λ i. (session_told v.0 w.0 p q i, (tt, (tt, (tt, (tt, (lent_alike p q i, tt)))))))

pub send_settled : Determined 3 send-kinds.ps send-kinds.r send-reads.Pre send-reads.Post
send_settled κs a _ x y v w p q = (count_told p q, λ i. (session_told v.0 w.0 p q i, (tt, (tt, (tt, (tt, (lent_alike p q i, tt)))))))
