-- The contract of each exported call is one step of a run, with how it ended read back from its number.
-- So `reached_good` and `reached_follows` (bridge/proofs/Bridge.antt) speak of a record that came from `pomerassol_start` and these calls.
-- Assumes nothing.
use Prim.Native.Nat.{ℕ, min}
use mathlib.Core.Path.{◌≡◌, refl, ap, ◌∙◌}
use mathlib.Core.List.{List, []}
use contract.Lifetimes.{Lfts}
use lib.ListN.{length}
use denote.Triple.Clauses.{Lasts, at_exit}
use borrow.Fn.Kinds.{Dens, res_t, ended_of as exits}
use Rattle.outcomes.specs.Claims.{Claims}
use Rattle.outcomes.proofs.Claims.{from_claim, from_last}
use Rattle.rules.specs.Command.{wrote, ended_of, lending}
use Rattle.rules.specs.Fetch.{fetch}
use Rattle.rules.specs.Acts.{bursts, clears}
use Rattle.rules.specs.Run.{Call, starting, commanding, timing, arriving, taking_out, dropping_link, step}
use Rattle.rules.specs.TimerCalls.{second, envelope}
use Rattle.session.specs.declared.Session.{Session}
use Rattle.rules.specs.Words.{Ended}
use Rattle.session.specs.Picture.{Good, view}
use Rattle.text.specs.Prints.{outcome_of}
use Rattle.bridge.specs.Reached.{Left, Called, Burst, ActedOn}
use Rattle.bridge.proofs.Contracts.{left_by_lem}
use Rattle.fetch.specs.declared.Fetched.{Fetched}
use Rattle.fetch.specs.Gathers.{gathered_in, Gathers}
use Rattle.host.specs.Packed.{unpacked, left_cap, ended_in, left_in, Hosts, HostsBurst}
use Rattle.host.proofs.Packing.{packs_back, fetch_fits, burst_back}
use Rattle.host.specs.contracts.pomerassol_start as start-call
use Rattle.host.specs.contracts.pomerassol_command as command-call
use Rattle.host.specs.contracts.pomerassol_arrival as arrival-call
use Rattle.host.specs.contracts.pomerassol_take as take_call
use Rattle.host.specs.contracts.pomerassol_drop as drop-call
use Rattle.host.specs.contracts.pomerassol_second as second_call
use Rattle.host.specs.contracts.pomerassol_envelope as envelope-call
use Rattle.host.specs.contracts.pomerassol_fetch as fetch-call
use Rattle.host.proofs.pomerassol_fetch_start.Kinds as fetch-start-kinds
use Rattle.host.proofs.pomerassol_fetch_start.Reads as fetch-start-reads

-- a call over a good record s, as its contract says, left t, and its number and the buffer show what was seen of it
tied :
    (s : Session) (c : Call) (t : Session) (n : ℕ) (before after : List ℕ) → Good s → Hosts (step (view s) c) t n before after →
    Left (step (view s) c) (length before) t (outcome_of (unpacked n) after)
tied s c t n before after g h = left_by_lem t (packs_back (view s) c t.ledger t.pool n before after g.sound h)

-- the start leaves a start in the record, whatever stood in it
pub start_tied :
    Claims start-call.ended (λ M 𝓤 𝓛. start-call.clauses 𝓛) (λ κs a x v. (s : Session) → Called s (starting a.1.0.now) v.0 (wrote []))
start_tied M 𝓤 𝓛 mem run κs a g x v = from_last 𝓤 _ _ _ (λ h s. record { shows = h.0; good = h.1; seen = refl })

-- a command: the record at exit follows from the one at entry, and the number and the buffer show what is seen of it
pub command_tied :
    Claims command-call.ended (λ M 𝓤 𝓛. command-call.clauses 𝓛)
    (λ κs a x v. Called a.0.now (commanding (lending (length a.1.1.0.now)) a.1.0.now) v.0 (outcome_of (unpacked x) v.1.1.0))
unfolding step
command_tied M 𝓤 𝓛 mem run κs a g x v =
    from_claim 𝓤 _ _ _ (tied a.0.now (commanding (lending (length a.1.1.0.now)) a.1.0.now) v.0 x a.1.1.0.now v.1.1.0)

-- the same of an arrival
pub arrival_tied :
    Claims arrival-call.ended (λ M 𝓤 𝓛. arrival-call.clauses 𝓛)
    (λ κs a x v.
    Called a.0.now (arriving (length a.1.1.1.0.now) (record { 0 = a.1.0 }) a.1.1.0.now) v.0 (outcome_of (unpacked x) v.1.1.1.0))
unfolding step
arrival_tied M 𝓤 𝓛 mem run κs a g x v =
    from_claim 𝓤 _ _ _ (tied a.0.now (arriving (length a.1.1.1.0.now) (record { 0 = a.1.0 }) a.1.1.0.now) v.0 x a.1.1.1.0.now v.1.1.1.0)

-- of a take
pub take_tied :
    Claims take_call.ended (λ M 𝓤 𝓛. take_call.clauses 𝓛)
    (λ κs a x v. Called a.0.now (taking_out (length a.1.1.0.now) (record { 0 = a.1.0 })) v.0 (outcome_of (unpacked x) v.1.1.0))
unfolding step
take_tied M 𝓤 𝓛 mem run κs a g x v =
    from_claim 𝓤 _ _ _ (tied a.0.now (taking_out (length a.1.1.0.now) (record { 0 = a.1.0 })) v.0 x a.1.1.0.now v.1.1.0)

-- and of a drop
pub drop_tied :
    Claims drop-call.ended (λ M 𝓤 𝓛. drop-call.clauses 𝓛)
    (λ κs a x v. Called a.0.now (dropping_link (length a.1.1.0.now) (record { 0 = a.1.0 })) v.0 (outcome_of (unpacked x) v.1.1.0))
unfolding step
drop_tied M 𝓤 𝓛 mem run κs a g x v =
    from_claim 𝓤 _ _ _ (tied a.0.now (dropping_link (length a.1.1.0.now) (record { 0 = a.1.0 })) v.0 x a.1.1.0.now v.1.1.0)

-- of an envelope
pub envelope_tied :
    Claims envelope-call.ended (λ M 𝓤 𝓛. envelope-call.clauses 𝓛)
    (λ κs a x v. Called a.0.now (timing (envelope (length a.1.0.now))) v.0 (outcome_of (unpacked x) v.1.0))
unfolding step
envelope_tied M 𝓤 𝓛 mem run κs a g x v =
    from_claim 𝓤 _ _ _ (tied a.0.now (timing (envelope (length a.1.0.now))) v.0 x a.1.0.now v.1.0)

-- and of a second, which writes nothing
pub second_tied : Claims second_call.ended (λ M 𝓤 𝓛. second_call.clauses 𝓛) (λ κs a x v. Called a.0.now (timing second) v.0 (wrote []))
unfolding outcome_of
second_tied M 𝓤 𝓛 mem run κs a g x v = from_claim 𝓤 _ _ _ (λ _ h. left_by_lem v.0 h)

-- a burst over a good record s and the gathered record g, as its contract says: its number and the buffer show what was seen of it, as many bytes left as can be told
burst_tied :
    (s : Session) (g bytes : List ℕ) (t : Session) (r : List ℕ) (n : ℕ) (before after : List ℕ) → Good s × Gathers g →
    HostsBurst (fetch (view s) (lending (length before)) (gathered_in g) bytes) t r n before after →
    (left : ℕ) × (left_in n ≡ min left left_cap) × Burst (fetch (view s) (lending (length before)) (gathered_in g) bytes) (length before) t r (outcome_of (ended_in n) after) left
burst_tied s g bytes t r n before after pre h =
    let f = fetch (view s) (lending (length before)) (gathered_in g) bytes in
    let x : Fetched = record { ended = ended_of f.answer.outcome; left = length f.left } in
    let back = burst_back x (fetch_fits (view s) (lending (length before)) (gathered_in g) bytes pre.0.sound) in (
      length f.left,
      ap left_in h.told ∙ back.1,
      record {
        before = before;
        after = after;
        ended = ended_of f.answer.outcome;
        size = refl;
        leaves = h.leaves;
        told = ap (λ (e : Ended). outcome_of e after) (ap ended_in h.told ∙ back.0);
        count = refl;
      },
    )

-- of a burst: what it left follows (`burst_follows` in bridge/proofs/Bursts.antt), and its number tells how many bytes are left
pub fetch_tied :
    Claims fetch-call.ended (λ M 𝓤 𝓛. fetch-call.clauses 𝓛)
    (λ κs a x v.
    (left : ℕ) × (left_in x ≡ min left left_cap) ×
    Burst (fetch (view a.0.now) (lending (length a.1.1.1.0.now)) (gathered_in a.1.0.now) a.1.1.0.now) (length a.1.1.1.0.now) v.0 v.1.0 (outcome_of (ended_in x) v.1.1.1.0) left)
fetch_tied M 𝓤 𝓛 mem run κs a g x v =
    from_claim 𝓤 _ _ _ (burst_tied a.0.now a.1.0.now a.1.1.0.now v.0 v.1.0 x a.1.1.1.0.now v.1.1.1.0)

-- M-110 from C: a burst is an act of a host, a start of what is gathered too, and so is each call above (`called_acted` in bridge/proofs/Separation.antt); so `hosts_separate` there speaks of two hosts that make these calls
pub fetch_acted :
    Claims fetch-call.ended (λ M 𝓤 𝓛. fetch-call.clauses 𝓛)
    (λ κs a x v.
    (left : ℕ) × (left_in x ≡ min left left_cap) ×
    ActedOn a.0.now a.1.0.now (bursts (lending (length a.1.1.1.0.now)) a.1.1.0.now) v.0 v.1.0 (record { outcome = outcome_of (ended_in x) v.1.1.1.0; left = left }))
fetch_acted = fetch_tied

pub fetch_start_acted :
    (κs : Lfts 1) (a : Dens κs fetch-start-kinds.ps) (r : (res_t fetch-start-kinds.r κs).Denot) (v : Lasts (exits 1 fetch-start-kinds.ps fetch-start-kinds.r) κs a) →
    fetch-start-reads.Post κs a r (at_exit (exits 1 fetch-start-kinds.ps fetch-start-kinds.r) κs a v) →
    (s : Session) → ActedOn s a.0.now clears s v.0 (record { outcome = wrote []; left = 0 })
fetch_start_acted κs a r v h s = (refl, h, refl)
