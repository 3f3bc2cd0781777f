-- The contract of each public function settles its outcome: how it ended and what is left, the session, the gathered record and the buffer.
-- Assumes nothing.
use Prim.Native.Nat.{ℕ}
use mathlib.Core.Path.{◌≡◌, refl, sym, ◌∙◌}
use mathlib.Core.List.{List}
use Rattle.outcomes.specs.Determined.{Determined}
use Rattle.rules.specs.Fetch as rules
use Rattle.session.proofs.Alike.{ended_alike, lent_alike, session_told}
use Rattle.fetch.specs.declared.Fetched.{Fetched}
use Rattle.fetch.specs.Gathers.{Fetches}
use Rattle.fetch.proofs.fetch_in.Kinds as fetch-in-kinds
use Rattle.fetch.proofs.fetch_in.Reads as fetch-in-reads
use Rattle.fetch.proofs.start_gathered.Kinds as start-gathered-kinds
use Rattle.fetch.proofs.start_gathered.Reads as start-gathered-reads

-- two that hand back one answer
fetched_alike : {f : rules.Fetched} {t u p q r s before after after' : List ℕ} (x y : Fetched) → Fetches f t p r x before after → Fetches f u q s y before after' → x ≡ y
fetched_alike x y h k = λ i. record { ended = ended_alike h.leaves.answers k.leaves.answers i; left = (h.left ∙ sym k.left) i }

pub fetch_in_settled : Determined 4 fetch-in-kinds.ps fetch-in-kinds.r fetch-in-reads.Pre fetch-in-reads.Post
fetch_in_settled κs a _ x y v w p q =
    let h = p.leaves.answers in
    let k = q.leaves.answers in
    (fetched_alike x y p q, λ i. (session_told v.0 w.0 h k i, ((p.leaves.gathered ∙ sym q.leaves.gathered) i, (tt, (lent_alike h k i, tt)))))

pub start_gathered_settled : Determined 1 start-gathered-kinds.ps start-gathered-kinds.r start-gathered-reads.Pre start-gathered-reads.Post
start_gathered_settled κs a _ x y v w p q = (refl, λ i. ((p ∙ sym q) i, tt))
