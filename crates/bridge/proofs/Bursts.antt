-- A burst over a record is the command that it completes, or no call at all: so what is said of a list of calls is said of bursts among them.
-- Assumes nothing.
use Prim.Native.Nat.{ℕ}
use mathlib.Core.Path.{◌≡◌, refl, sym, ap, subst, ◌∙◌}
use mathlib.Core.List.{List, [], ◌∷◌, ◌++◌}
use native.Mathlib.Omega.{arith}
use contract.Lifetimes.{Lfts}
use denote.Triple.Clauses.{Lasts, at_exit}
use lib.ListN.{length}
use borrow.Fn.Kinds.{Dens, res_t, ended_of}
use Rattle.rules.specs.State.{State}
use Rattle.rules.specs.Frames.{object_bytes, written}
use Rattle.rules.specs.Written.{Response, response_objects, response_bytes}
use Rattle.rules.specs.Command.{Outcome, wrote, Answer, answered, command, Terms, lending}
use Rattle.rules.specs.Fetch as rules
use Rattle.rules.specs.Fetch.{fetch}
use Rattle.rules.specs.History.{Exchange}
use Rattle.rules.specs.Acts.{burst_seen, gathered_by}
use Rattle.rules.proofs.Laws.{branch}
use Rattle.rules.proofs.Cases.{command_cases}
use Rattle.rules.proofs.Fetch.{burst_cases}
use Rattle.rules.proofs.Acts.{taken_back, gathered_told}
use Rattle.session.specs.declared.Session.{Session}
use Rattle.session.specs.Picture.{Good, view, Shows}
use Rattle.session.proofs.Alike.{session_alike}
use Rattle.text.specs.Prints.{outcome_of}
use Rattle.fetch.specs.declared.Fetched.{Fetched}
use Rattle.fetch.specs.Gathers.{gathered_in}
use Rattle.fetch.proofs.Records.{lacking_few, gathered_back, gathers_of}
use Rattle.fetch.proofs.fetch_in.Kinds as fetch-in-kinds
use Rattle.fetch.proofs.fetch_in.Reads as fetch-in-reads
use Rattle.bridge.specs.Reached.{Left, Runs, Burst, BurstFollows}
use Rattle.bridge.proofs.Bridge.{answer_seen}

-- calls, one list behind the other
pub runs_on_lem : (s : Session) (es : List Exchange) (m : Session) (fs : List Exchange) (t : Session) → Runs s es m → Runs m fs t → Runs s (es ++ fs) t
runs_on_lem s [] m fs t h k = subst (λ (x : Session). Runs x fs t) (sym h) k
runs_on_lem s (e ∷ es) m fs t h k = (h.0, h.1, runs_on_lem h.0 es m fs t h.2 k)

module _ (s : Session) (terms : Terms) (g bytes : List ℕ) (good : Good s) (t : Session) where
  -- a record that shows the state of s is s
  stays : Shows (view s) t.ledger t.pool → s ≡ t
  stays h = session_alike s t good.shows h

  -- what a burst that is f left, as exchanges
  abbrev Seen : rules.Fetched → Type 0
  Seen f = Left f.answer terms.buffer t f.answer.outcome → Runs s (burst_seen terms g bytes (length f.left) f.answer.outcome) t

  response_runs :
      (u v : List ℕ) (r : Response) (b : State) → bytes ≡ u ++ v → command (view s) terms (g ++ u) ≡ answered b (response_bytes r) →
      Left (answered b (response_bytes r)) terms.buffer t (wrote (response_bytes r)) → Runs s (burst_seen terms g bytes (length v) (wrote (response_bytes r))) t
  unfolding burst_seen response_bytes response_objects written object_bytes
  response_runs u v r b e x h = (
    t,
    subst (λ (k : List ℕ). Left (command (view s) terms (g ++ k)) terms.buffer t (wrote (response_bytes r))) (sym (taken_back bytes u v e))
        (subst (λ (y : Answer). Left y terms.buffer t (wrote (response_bytes r))) (sym x) h),
    refl,
  )

  command_runs : (u v : List ℕ) → bytes ≡ u ++ v → Seen (record { answer = command (view s) terms (g ++ u); gathered = []; left = v })
  unfolding burst_seen
  command_runs u v e =
      command_cases
      (λ (y : Answer). command (view s) terms (g ++ u) ≡ y → Left y terms.buffer t y.outcome → Runs s (burst_seen terms g bytes (length v) y.outcome) t)
      (view s) (λ r _ h. stays h.answers.shows) terms (g ++ u) (λ _ _ x h. response_runs u v _ _ e x h) refl

  fetch_runs : Seen (fetch (view s) terms g bytes)
  unfolding fetch burst_seen
  fetch_runs =
      branch Seen _ _ _ (λ _ h. stays h.answers.shows)
      (λ _.
      burst_cases Seen (view s) terms g bytes (λ h. stays h.answers.shows) (λ u v _ _ h. stays h.answers.shows) (λ u v e _. command_runs u v e))

-- so is every burst, and what is gathered is seen from outside
pub burst_follows :
    (s : Session) (g : List ℕ) (terms : Terms) (bytes : List ℕ) (t : Session) (r : List ℕ) (o : Outcome) (left : ℕ) → Good s →
    Burst (fetch (view s) terms (gathered_in g) bytes) terms.buffer t r o left → BurstFollows s g terms bytes t r o left
burst_follows s g terms bytes t r o left good h =
    let f = fetch (view s) terms (gathered_in g) bytes in
    let k = h.leaves in
    let seen : o ≡ f.answer.outcome = h.told ∙ answer_seen _ _ _ _ _ _ k.answers in
    let w = lacking_few f.gathered k.lacks in
    let x : Left f.answer terms.buffer t f.answer.outcome =
    record { before = h.before; after = h.after; ended = h.ended; size = h.size; answers = k.answers; seen = sym seen ∙ h.told } in
    record {
      runs = subst (λ (y : Outcome). Runs s (burst_seen terms (gathered_in g) bytes left y) t) (sym seen)
          (subst (λ (n : ℕ). Runs s (burst_seen terms (gathered_in g) bytes n f.answer.outcome) t) (sym h.count) (fetch_runs s terms (gathered_in g) bytes good t x));
      gathered = ap gathered_in k.gathered ∙ gathered_back f.gathered (omega (arith, w)) ∙ gathered_told (view s) terms (gathered_in g) bytes ∙ ap (gathered_by (gathered_in g) bytes) (sym seen);
      gathers = gathers_of r f.gathered k.gathered k.lacks;
    }

-- the fetch call over the two arrays and the gathered record is such a burst
pub fetch_in_burst :
    (κs : Lfts 4) (a : Dens κs fetch-in-kinds.ps) (r : (res_t fetch-in-kinds.r κs).Denot) (v : Lasts (ended_of 4 fetch-in-kinds.ps fetch-in-kinds.r) κs a) →
    fetch-in-reads.Post κs a r (at_exit (ended_of 4 fetch-in-kinds.ps fetch-in-kinds.r) κs a v) →
    Burst (fetch (view a.0.now) (lending (length a.1.1.1.0.now)) (gathered_in a.1.0.now) a.1.1.0.now)
    (length a.1.1.1.0.now) v.0 v.1.0 (outcome_of r.ended v.1.1.1.0) r.left
fetch_in_burst κs a r v h = record { before = a.1.1.1.0.now; after = v.1.1.1.0; ended = r.ended; size = refl; leaves = h.leaves; told = refl; count = h.left }
