-- The public contract settles its outcome: the place behind what is printed, the session, the gathered record and the output.
-- Assumes nothing.
use mathlib.Core.Path.{◌≡◌, sym, ap, ◌∙◌}
use mathlib.Core.List.{List}
use Prim.Native.Nat.{ℕ}
use Rattle.rules.specs.Input.{Said}
use Rattle.session.specs.Picture.{ledger_of, pool_of}
use Rattle.fetch.specs.Gathers.{gathered_of}
use Rattle.outcomes.specs.Determined.{Determined}
use Rattle.bursts.specs.Bursts.{Awaits, awaits_in, Tells}
use Rattle.bursts.proofs.tell_burst.Kinds as tell-burst-kinds
use Rattle.bursts.proofs.tell_burst.Reads as tell-burst-reads

module _ {f : Said Awaits} {t p g u q h before after after' : List ℕ} {m n at : ℕ} (x : Tells f t p g m before at after) (y : Tells f u q h n before at after') where
  same : awaits_in t p g ≡ awaits_in u q h
  same = x.kept ∙ sym y.kept

  ledger_same : t ≡ u
  ledger_same = x.good.shows.ledger ∙ ap (λ (k : Awaits). ledger_of k.state) same ∙ sym y.good.shows.ledger

  pool_same : p ≡ q
  pool_same = x.good.shows.pool ∙ ap (λ (k : Awaits). pool_of k.state) same ∙ sym y.good.shows.pool

  gathered_same : g ≡ h
  gathered_same = x.gathers.is ∙ ap (λ (k : Awaits). gathered_of k.gathered) same ∙ sym y.gathers.is

pub tell_burst_settled : Determined 4 tell-burst-kinds.ps tell-burst-kinds.r tell-burst-reads.Pre tell-burst-reads.Post
tell_burst_settled κs a _ x y v w p q = (
  p.prints.place ∙ sym q.prints.place,
  λ i. (tt, (record { ledger = ledger_same p q i; pool = pool_same p q i }, (gathered_same p q i, (tt, ((p.prints.stands ∙ sym q.prints.stands) i, (tt, tt)))))),
)
