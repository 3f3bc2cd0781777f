-- The contract of each exported call settles its outcome: the number, the record and the buffer.
-- Assumes nothing.
use Prim.Native.Nat.{ℕ}
use mathlib.Core.Path.{◌≡◌, refl, sym, ◌∙◌}
use mathlib.Core.List.{List}
use Rattle.outcomes.specs.Determined.{Determined}
use Rattle.outcomes.specs.Settles.{Settles}
use Rattle.outcomes.proofs.Claims.{from_claims}
use Rattle.rules.specs.Command.{Answer}
use Rattle.session.specs.declared.Session.{Session}
use Rattle.session.proofs.Alike.{lent_alike, ledger_told, pool_told, session_alike}
use Rattle.host.specs.Packed.{Hosts}
use Rattle.host.proofs.pomerassol_details.Kinds as details-kinds
use Rattle.host.proofs.pomerassol_details.Reads as details-reads
use Rattle.host.proofs.pomerassol_alpha_read.Kinds as alpha-read-kinds
use Rattle.host.proofs.pomerassol_alpha_read.Reads as alpha-read-reads
use Rattle.host.proofs.pomerassol_alpha_write.Kinds as alpha-write-kinds
use Rattle.host.proofs.pomerassol_alpha_write.Reads as alpha-write-reads
use Rattle.host.specs.contracts.pomerassol_start as start-call
use Rattle.host.specs.contracts.pomerassol_command as command-call
use Rattle.host.specs.contracts.pomerassol_arrival as arrival-call
use Rattle.host.specs.contracts.pomerassol_take as take_call
use Rattle.host.specs.contracts.pomerassol_drop as drop-call
use Rattle.host.specs.contracts.pomerassol_second as second_call
use Rattle.host.specs.contracts.pomerassol_envelope as envelope-call
use Rattle.host.specs.contracts.pomerassol_fetch as fetch-call
use Rattle.host.proofs.pomerassol_fetch_start.Kinds as fetch-start-kinds
use Rattle.host.proofs.pomerassol_fetch_start.Reads as fetch-start-reads

-- two that hand back one answer
module _ {r : Answer} {m n : ℕ} {before after after' : List ℕ} (s t : Session) (p : Hosts r s m before after) (q : Hosts r t n before after') where
  pub number_alike : m ≡ n
  number_alike = p.told ∙ sym q.told

  pub record_alike : s ≡ t
  record_alike = λ i. record { ledger = ledger_told p.answers q.answers i; pool = pool_told p.answers q.answers i }

  pub buffer_alike : after ≡ after'
  buffer_alike = lent_alike p.answers q.answers

pub start_settled : Settles start-call.ended (λ M 𝓤 𝓛. start-call.clauses 𝓛)
start_settled M 𝓤 𝓛 mem run κs a g x y v w =
    from_claims 𝓤 _ _ _ _ (λ p q. (λ i. tt, λ i. (session_alike v.0 w.0 p.0 q.0 i, (tt, tt))))

pub command_settled : Settles command-call.ended (λ M 𝓤 𝓛. command-call.clauses 𝓛)
command_settled M 𝓤 𝓛 mem run κs a g x y v w =
    from_claims 𝓤 _ _ _ _
    (λ p q. (number_alike v.0 w.0 p q, λ i. (record_alike v.0 w.0 p q i, (tt, (buffer_alike v.0 w.0 p q i, tt)))))

pub arrival_settled : Settles arrival-call.ended (λ M 𝓤 𝓛. arrival-call.clauses 𝓛)
arrival_settled M 𝓤 𝓛 mem run κs a g x y v w =
    from_claims 𝓤 _ _ _ _
    (λ p q. (number_alike v.0 w.0 p q, λ i. (record_alike v.0 w.0 p q i, (tt, (tt, (buffer_alike v.0 w.0 p q i, tt))))))

pub take_settled : Settles take_call.ended (λ M 𝓤 𝓛. take_call.clauses 𝓛)
take_settled M 𝓤 𝓛 mem run κs a g x y v w =
    from_claims 𝓤 _ _ _ _
    (λ p q. (number_alike v.0 w.0 p q, λ i. (record_alike v.0 w.0 p q i, (tt, (buffer_alike v.0 w.0 p q i, tt)))))

pub drop_settled : Settles drop-call.ended (λ M 𝓤 𝓛. drop-call.clauses 𝓛)
drop_settled M 𝓤 𝓛 mem run κs a g x y v w =
    from_claims 𝓤 _ _ _ _
    (λ p q. (number_alike v.0 w.0 p q, λ i. (record_alike v.0 w.0 p q i, (tt, (buffer_alike v.0 w.0 p q i, tt)))))

pub envelope_settled : Settles envelope-call.ended (λ M 𝓤 𝓛. envelope-call.clauses 𝓛)
envelope_settled M 𝓤 𝓛 mem run κs a g x y v w =
    from_claims 𝓤 _ _ _ _
    (λ p q. (number_alike v.0 w.0 p q, λ i. (record_alike v.0 w.0 p q i, (buffer_alike v.0 w.0 p q i, tt))))

pub second_settled : Settles second_call.ended (λ M 𝓤 𝓛. second_call.clauses 𝓛)
second_settled M 𝓤 𝓛 mem run κs a g x y v w =
    from_claims 𝓤 _ _ _ _ (λ p q. (λ i. tt, λ i. (session_alike v.0 w.0 p.shows q.shows i, tt)))

pub details_settled : Determined 1 details-kinds.ps details-kinds.r details-reads.Pre details-reads.Post
details_settled κs a _ x y v w p q = (p ∙ sym q, refl)

pub alpha_read_settled : Determined 2 alpha-read-kinds.ps alpha-read-kinds.r alpha-read-reads.Pre alpha-read-reads.Post
alpha_read_settled κs a _ x y v w p q = (p.0.told ∙ sym q.0.told, λ i. (tt, ((p.1 ∙ sym q.1) i, tt)))

pub alpha_write_settled : Determined 2 alpha-write-kinds.ps alpha-write-kinds.r alpha-write-reads.Pre alpha-write-reads.Post
alpha_write_settled κs a _ x y v w p q = (p.0.told ∙ sym q.0.told, λ i. (tt, ((p.1 ∙ sym q.1) i, tt)))

pub fetch_start_settled : Determined 1 fetch-start-kinds.ps fetch-start-kinds.r fetch-start-reads.Pre fetch-start-reads.Post
fetch_start_settled κs a _ x y v w p q = (refl, λ i. ((p ∙ sym q) i, tt))

pub fetch_settled : Settles fetch-call.ended (λ M 𝓤 𝓛. fetch-call.clauses 𝓛)
fetch_settled M 𝓤 𝓛 mem run κs a g x y v w =
    from_claims 𝓤 _ _ _ _
    (λ p q.
    let h = p.leaves.answers in
    let k = q.leaves.answers in
    (p.told ∙ sym q.told, λ i. (session_alike v.0 w.0 h.shows k.shows i, ((p.leaves.gathered ∙ sym q.leaves.gathered) i, (tt, (lent_alike h k i, tt))))))
