-- Each public contract of the lines settles its outcome.
-- Assumes nothing.
use Prim.Native.Nat.{ℕ}
use mathlib.Core.Path.{◌≡◌, sym, ap, ◌∙◌}
use mathlib.Core.List.{List}
use Rattle.rules.specs.State.{State}
use Rattle.rules.specs.Input.{Said}
use Rattle.session.specs.Picture.{shown, ledger_of, pool_of}
use Rattle.outcomes.specs.Determined.{Determined}
use Rattle.lines.specs.Says.{Says}
use Rattle.lines.proofs.begin.Kinds as begin-kinds
use Rattle.lines.proofs.begin.Reads as begin-reads
use Rattle.lines.proofs.end_line.Kinds as end-line-kinds
use Rattle.lines.proofs.end_line.Reads as end-line-reads
use Rattle.lines.proofs.tell_call.Kinds as tell-call-kinds
use Rattle.lines.proofs.tell_call.Reads as tell-call-reads

-- two ends of a line leave one session
module _ {f : Said State} {t p u q before after after' : List ℕ} {m n at : ℕ} (g : Says f t p m before at after) (h : Says f u q n before at after') where
  shown_same : shown t p ≡ shown u q
  shown_same = g.state ∙ sym h.state

  ledger_same : t ≡ u
  ledger_same = g.good.shows.ledger ∙ ap ledger_of shown_same ∙ sym h.good.shows.ledger

  pool_same : p ≡ q
  pool_same = g.good.shows.pool ∙ ap pool_of shown_same ∙ sym h.good.shows.pool

pub begin_settled : Determined 3 begin-kinds.ps begin-kinds.r begin-reads.Pre begin-reads.Post
begin_settled κs a _ x y v w p q =
    (p.place ∙ sym q.place, λ i. (record { ledger = ledger_same p q i; pool = pool_same p q i }, (tt, ((p.stands ∙ sym q.stands) i, (tt, tt)))))

pub end_line_settled : Determined 3 end-line-kinds.ps end-line-kinds.r end-line-reads.Pre end-line-reads.Post
end_line_settled κs a _ x y v w p q =
    (p.place ∙ sym q.place, λ i. (tt, (record { ledger = ledger_same p q i; pool = pool_same p q i }, (tt, ((p.stands ∙ sym q.stands) i, (tt, tt))))))

pub tell_call_settled : Determined 3 tell-call-kinds.ps tell-call-kinds.r tell-call-reads.Pre tell-call-reads.Post
tell_call_settled κs a _ x y v w p q =
    (p.place ∙ sym q.place, λ i. (tt, (record { ledger = ledger_same p q i; pool = pool_same p q i }, (tt, ((p.stands ∙ sym q.stands) i, (tt, tt))))))
