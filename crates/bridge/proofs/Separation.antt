-- M-110 of the calls that are made: two hosts whose acts differ in the data of one channel see the same but for that data, and hold the same ledger, pools that are equal outside that channel's cells, and as many gathered bytes.
-- Assumes nothing.
use Prim.Native.Nat.{ℕ, ◌/◌}
use mathlib.Core.Path.{◌≡◌, refl, sym, ap, subst, subst₂, ◌∙◌}
use mathlib.Core.Bool.{true, false}
use mathlib.Core.List.{List, [], ◌∷◌}
use native.Mathlib.Omega.{arith}
use contract.Lifetimes.{Lfts}
use denote.Triple.Clauses.{Lasts, at_exit}
use lib.ListN.{length, get_or}
use borrow.Fn.Kinds.{Dens, res_t, ended_of}
use Rattle.rules.specs.declared.ChannelNumber.{ChannelNumber}
use Rattle.rules.specs.declared.Way.{Way}
use Rattle.rules.specs.State.{State, start, is_open, chan, held}
use Rattle.rules.specs.Pool.{cell_size}
use Rattle.rules.specs.Command.{Outcome, wrote, Terms}
use Rattle.rules.specs.Fetch.{fetch}
use Rattle.rules.specs.Radio.{numbered}
use Rattle.rules.specs.Run.{Call, step, after}
use Rattle.rules.specs.History.{calls_of}
use Rattle.rules.specs.Acts.{Act, calls, bursts, clears, burst_seen, acted}
use Rattle.rules.specs.Separation.{Like, Shown, Did, does, shown_by, LikeActs, LikeShowns, LikeGathered}
use Rattle.rules.proofs.Soundness.{start_sound}
use Rattle.rules.proofs.Acts.{burst_led}
use Rattle.rules.proofs.Separation.{no_bytes}
use Rattle.rules.proofs.SeparationBursts.{acted_next, acts_separation}
use Rattle.session.specs.declared.Session.{Session}
use Rattle.session.specs.Picture.{Good, view}
use Rattle.session.specs.Cells.{Promised}
use Rattle.session.proofs.Views.{shows_back}
use Rattle.session.proofs.Separation.{ledgers_equal, pools_outside, records_equal, records_closed}
use Rattle.fetch.specs.Gathers.{gathered_of, gathered_in, Gathers}
use Rattle.fetch.proofs.Records.{lacking_few, none_lacks, gathered_back, gathers_of}
use Rattle.fetch.proofs.start_gathered.Kinds as start-gathered-kinds
use Rattle.fetch.proofs.start_gathered.Reads as start-gathered-reads
use Rattle.bridge.specs.Reached.{Called, Burst, ActedOn, ActsOn, Hosted}
use Rattle.bridge.proofs.Bridge.{answer_seen, Stepped, stepped, runs_shown}
use Rattle.bridge.proofs.Bursts.{burst_follows}

-- each call whose contract is a step of a run is an act, and so are a burst (`fetch_in_burst`) and a start of what is gathered
pub called_acted : (s : Session) (c : Call) (t : Session) (o : Outcome) (g : List ℕ) → Called s c t o → ActedOn s g (calls c) t g (record { outcome = o; left = 0 })
called_acted s c t o g h = (h, refl, refl)

pub gathered_start_acted :
    (κs : Lfts 1) (a : Dens κs start-gathered-kinds.ps) (r : (res_t start-gathered-kinds.r κs).Denot) (v : Lasts (ended_of 1 start-gathered-kinds.ps start-gathered-kinds.r) κs a) →
    start-gathered-reads.Post κs a r (at_exit (ended_of 1 start-gathered-kinds.ps start-gathered-kinds.r) κs a v) →
    (s : Session) → ActedOn s a.0.now clears s v.0 (record { outcome = wrote []; left = 0 })
gathered_start_acted κs a r v h s = (refl, h, refl)

-- one act: the records behind it are good, show what the definitions say, and what is seen of it is what they say
record Shows (x : Did) (t : Session) (r : List ℕ) (o : Shown) : Type 0 where
  good : Good t
  gathers : Gathers r
  state : view t ≡ x.state
  gathered : gathered_in r ≡ x.gathered
  seen : o ≡ x.shown

burst_shown :
    (s : Session) (g : List ℕ) (terms : Terms) (bytes : List ℕ) (t : Session) (r : List ℕ) (o : Shown) → Good s →
    ActedOn s g (bursts terms bytes) t r o → Shows (does (view s) (gathered_in g) (bursts terms bytes)) t r o
unfolding does
burst_shown s g terms bytes t r o good h =
    let f = fetch (view s) terms (gathered_in g) bytes in
    let k = h.leaves in
    let outcome : o.outcome ≡ f.answer.outcome = h.told ∙ answer_seen _ _ _ _ _ _ k.answers in
    let follows = burst_follows s g terms bytes t r o.outcome o.left good h in
    let ran = runs_shown s (burst_seen terms (gathered_in g) bytes o.left o.outcome) t good follows.runs in
    let led = burst_led (view s) terms (gathered_in g) bytes in
    let w = lacking_few f.gathered k.lacks in
    record {
      good = ran.good;
      gathers = follows.gathers;
      state = ran.shows ∙ (λ i. after (view s) (calls_of (burst_seen terms (gathered_in g) bytes (h.count i) (outcome i)))) ∙ led.state;
      gathered = ap gathered_in k.gathered ∙ gathered_back f.gathered (omega (arith, w));
      seen = λ i. record { outcome = outcome i; left = h.count i };
    }

act_shown :
    (s : Session) (g : List ℕ) (x : Act) (t : Session) (r : List ℕ) (o : Shown) → Good s → Gathers g → ActedOn s g x t r o → Shows (does (view s) (gathered_in g) x) t r o
unfolding does
act_shown s g (calls c) t r o good gathers h =
    let one = stepped s c t o.outcome good h.0 in
    record {
      good = one.good;
      gathers = subst Gathers h.1 gathers;
      state = one.shows;
      gathered = ap gathered_in (sym h.1);
      seen = λ i. record { outcome = one.seen i; left = h.2 i };
    }
act_shown s g (bursts terms bytes) t r o good gathers h = burst_shown s g terms bytes t r o good h
act_shown s g clears t r o good gathers h =
    record {
      good = subst Good h.0 good;
      gathers = gathers_of r [] h.1 none_lacks;
      state = ap view (sym h.0);
      gathered = ap gathered_in h.1 ∙ gathered_back [] (omega arith);
      seen = h.2;
    }

-- a list of acts: the last records are good, and show what the definitions say of the acts
pub record ActsShown (a : State) (g : List ℕ) (xs : List Act) (os : List Shown) (t : Session) (r : List ℕ) : Type 0 where
  pub good : Good t
  pub gathers : Gathers r
  pub state : view t ≡ (acted a g xs).state
  pub gathered : gathered_in r ≡ (acted a g xs).gathered
  pub seen : os ≡ shown_by a g xs

acts_shown :
    (xs : List Act) (os : List Shown) (s : Session) (g : List ℕ) (t : Session) (r : List ℕ) → Good s → Gathers g → ActsOn s g xs os t r →
    ActsShown (view s) (gathered_in g) xs os t r
unfolding acted shown_by
acts_shown [] [] s g t r good gathers h =
    record { good = subst Good h.0 good; gathers = subst Gathers h.1 gathers; state = ap view (sym h.0); gathered = ap gathered_in (sym h.1); seen = refl }
acts_shown [] (o ∷ os) s g t r good gathers h = absurd h
acts_shown (x ∷ xs) [] s g t r good gathers h = absurd h
acts_shown (x ∷ xs) (o ∷ os) s g t r good gathers h =
    let one = act_shown s g x h.0 h.1 o good gathers h.2 in
    let rest = acts_shown xs os h.0 h.1 t r one.good one.gathers h.3 in
    let d = does (view s) (gathered_in g) x in
    let all = subst₂ (λ (a : State) (k : List ℕ). ActsShown a k xs os t r) one.state one.gathered rest in
    let next = acted_next (view s) (gathered_in g) x xs in
    record {
      good = all.good;
      gathers = all.gathers;
      state = all.state ∙ next.0;
      gathered = all.gathered ∙ next.1;
      seen = λ i. one.seen i ∷ all.seen i;
    }

-- records that came from a start and from acts show what the definitions say of the acts
pub hosted_shown : (p : List ℕ) (xs : List Act) (os : List Shown) (s : Session) (r : List ℕ) → Hosted p xs os s r → ActsShown (start p) [] xs os s r
hosted_shown p xs os s r h =
    let first = shows_back (start p) h.first.ledger h.first.pool (start_sound p) h.begun.shows in
    subst₂ (λ (a : State) (g : List ℕ). ActsShown a g xs os s r) first (gathered_back [] (omega arith))
    (acts_shown xs os h.first (gathered_of []) s r h.begun.good (gathers_of (gathered_of []) [] refl none_lacks) h.acts)

-- what two hosts see, and the records that they hold
pub record Separate (n : ChannelNumber) (xs : List Act) (os qs : List Shown) (s t : Session) (r u : List ℕ) : Type 0 where
  pub seen : LikeShowns n [] xs os qs
  pub ledgers : s.ledger ≡ t.ledger
  pub pools : (j : ℕ) → ((w : Way) → Promised (view s) n w (j / cell_size) → ⊥) → get_or s.pool j 0 ≡ get_or t.pool j 0
  pub empty : ((w : Way) → held (chan (view s) n) w ≡ []) → s ≡ t
  pub closed : is_open (chan (view s) n) ≡ false → s ≡ t
  pub gathered : length (gathered_in r) ≡ length (gathered_in u)
  pub none : gathered_in r ≡ [] → r ≡ u

-- M-110: two hosts that start with the same profile and whose acts differ in the data of the channel n alone
pub hosts_separate :
    (n : ChannelNumber) → numbered n ≡ true → (p : List ℕ) (xs ys : List Act) (os qs : List Shown) (s t : Session) (r u : List ℕ) →
    Hosted p xs os s r → Hosted p ys qs t u → LikeActs n [] [] xs ys → Separate n xs os qs s t r u
hosts_separate n numbers p xs ys os qs s t r u h k l =
    let one = hosted_shown p xs os s r h in
    let other = hosted_shown p ys qs t u k in
    let is = acts_separation n numbers p l in
    let like = subst₂ (Like n) (sym one.state) (sym other.state) is.state in
    let long = ap length one.gathered ∙ is.gathered.long ∙ sym (ap length other.gathered) in
    let whole : (s.ledger ≡ t.ledger) × (s.pool ≡ t.pool) → s ≡ t = λ e. λ i. record { ledger = e.0 i; pool = e.1 i } in
    record {
      seen = subst₂ (LikeShowns n [] xs) (sym one.seen) (sym other.seen) is.seen;
      ledgers = ledgers_equal n numbers _ _ _ _ one.good other.good like;
      pools = pools_outside n numbers _ _ _ _ one.good other.good like;
      empty = λ e. whole (records_equal n numbers _ _ _ _ one.good other.good like e);
      closed = λ e. whole (records_closed n numbers _ _ _ _ one.good other.good like e);
      gathered = long;
      none = λ e. one.gathers.is ∙ ap gathered_of (e ∙ sym (no_bytes (gathered_in u) (sym long ∙ ap length e))) ∙ sym other.gathers.is;
    }
