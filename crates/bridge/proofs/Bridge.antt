-- What the code hands back is what the definitions say, over any list of calls.
-- Assumes nothing.
use Prim.Native.Nat.{ℕ, ◌≤◌}
use mathlib.Core.Path.{◌≡◌, refl, sym, ap, subst, ◌∙◌}
use mathlib.Core.Bool.{true}
use mathlib.Core.List.{List, [], ◌∷◌}
use lib.ListN.{length, drop}
use lib.Seq.{take-append_seam}
use Rattle.rules.specs.declared.ChannelNumber.{ChannelNumber}
use Rattle.rules.specs.State.{State, start}
use Rattle.rules.specs.Command.{Outcome, wrote, refused, Answer, ended_of, written_by}
use Rattle.rules.specs.Run.{Call, starting, commanding, step, after, radio, timing}
use Rattle.rules.specs.History.{Exchange, history, calls_of, seen_from}
use Rattle.rules.specs.Pool.{unpromised}
use Rattle.rules.specs.Demands.{Follows, free_by}
use Rattle.rules.specs.Timers.{is_timer}
use Rattle.rules.specs.TimerHistory.{unset, sets_from}
use Rattle.rules.proofs.Histories.{follows}
use Rattle.rules.proofs.TimerHistories.{TellsOf, timer_told}
use Rattle.rules.proofs.Openings.{free_told}
use Rattle.rules.proofs.Soundness.{start_sound, step_sound}
use Rattle.octets.specs.Parts.{overlaid}
use Rattle.session.specs.declared.Session.{Session}
use Rattle.rules.specs.Words.{Ended}
use Rattle.session.specs.Book.{free_in}
use Rattle.session.specs.Picture.{Good, view}
use Rattle.session.specs.Calls.{Answers}
use Rattle.session.proofs.Facts.{unpromised_kept}
use Rattle.session.proofs.Views.{shows_back}
use Rattle.text.specs.Prints.{outcome_of}
use Rattle.bridge.specs.Reached.{Left, timer_buffer, Called, Runs, Reached}

-- what is seen in the buffer is how the call ended
front_seen : (o : Outcome) (before : List ℕ) → outcome_of (ended_of o) (overlaid (written_by o) before) ≡ o
unfolding outcome_of ended_of overlaid written_by
front_seen (wrote s) before = ap wrote (take-append_seam s (drop (length s) before))
front_seen (refused r) before = refl

pub answer_seen : (x : Answer) (l p : List ℕ) (e : Ended) (before after : List ℕ) → Answers x l p e before after → outcome_of e after ≡ x.outcome
answer_seen x l p e before after h = (λ i. outcome_of (h.ended i) (h.lent i)) ∙ front_seen x.outcome before

-- one call: the record after it is good, shows the state of the definitions, and what is seen is how it ended
pub record Stepped (s : Session) (c : Call) (t : Session) (o : Outcome) : Type 0 where
  pub good : Good t
  pub shows : view t ≡ (step (view s) c).state
  pub seen : o ≡ (step (view s) c).outcome

left_stepped : (s : Session) (c : Call) (buffer : ℕ) (t : Session) (o : Outcome) → Good s → Left (step (view s) c) buffer t o → Stepped s c t o
left_stepped s c buffer t o g h =
    record {
      good = h.answers.good;
      shows = shows_back (step (view s) c).state t.ledger t.pool (step_sound (view s) c g.sound) h.answers.shows;
      seen = h.seen ∙ answer_seen _ _ _ _ _ _ h.answers;
    }

pub stepped : (s : Session) (c : Call) (t : Session) (o : Outcome) → Good s → Called s c t o → Stepped s c t o
unfolding step
stepped s (starting p) t o g h =
    record { good = h.good; shows = shows_back (start p) t.ledger t.pool (start_sound p) h.shows; seen = h.seen }
stepped s (commanding terms c) t o g h = left_stepped s (commanding terms c) terms.buffer t o g h
stepped s (radio buffer n act) t o g h = left_stepped s (radio buffer n act) buffer t o g h
stepped s (timing act) t o g h = left_stepped s (timing act) (timer_buffer act) t o g h

-- a list of calls: the record after them is good and shows the run of the definitions, and what was seen is what they say
pub record Ran (a : State) (es : List Exchange) (t : Session) : Type 0 where
  pub good : Good t
  pub shows : view t ≡ after a (calls_of es)
  pub seen : es ≡ seen_from a (calls_of es)

pub runs_shown : (s : Session) (es : List Exchange) (t : Session) → Good s → Runs s es t → Ran (view s) es t
unfolding after seen_from
runs_shown s [] t g h = subst (λ (u : Session). Ran (view s) [] u) h (record { good = g; shows = refl; seen = refl })
runs_shown s (e ∷ es) t g h =
    let one = stepped s e.call h.0 e.outcome g h.1 in
    let rest = subst (λ (a : State). Ran a es t) one.shows (runs_shown h.0 es t one.good h.2) in
    record {
      good = rest.good;
      shows = rest.shows;
      seen = λ i. record { call = e.call; outcome = one.seen i } ∷ rest.seen i;
    }

-- a record that came from the start and the calls is good, and shows the run of the definitions on the same calls
pub reached_ran : (p : List ℕ) (es : List Exchange) (s : Session) → Reached p es s → Ran (start p) es s
reached_ran p es s h =
    let first = shows_back (start p) h.first.ledger h.first.pool (start_sound p) h.begun.shows in
    subst (λ (a : State). Ran a es s) first (runs_shown h.first es s h.begun.good h.run)

pub reached_good : (p : List ℕ) (es : List Exchange) (s : Session) → Reached p es s → Good s
reached_good p es s h = (reached_ran p es s h).good

-- the number of unpromised cells that the record keeps is 256 less the sum over the grants that the histories tell
pub kept_free : (p : List ℕ) (es : List Exchange) (s : Session) → Reached p es s → free_in s.ledger ≡ free_by (λ (n : ChannelNumber). history n es)
kept_free p es s h =
    let r = reached_ran p es s h in
    unpromised_kept s.ledger s.pool r.good ∙ ap unpromised r.shows ∙ sym (free_told p (calls_of es))
    ∙ ap (λ (xs : List Exchange). free_by (λ (n : ChannelNumber). history n xs)) (sym r.seen)

-- so what was seen of the code tells each channel of the record: accepted is handed out followed by held, each way
pub reached_follows : (n : ChannelNumber) (p : List ℕ) (es : List Exchange) (s : Session) → 1 ≤ n.0 → Reached p es s → Follows n (view s) (history n es)
reached_follows n p es s from h =
    let r = reached_ran p es s h in
    subst (λ (a : State). Follows n a (history n es)) (sym r.shows)
    (subst (λ (xs : List Exchange). Follows n (after (start p) (calls_of es)) (history n xs)) (sym r.seen) (follows n p (calls_of es) from))

-- and each timer of the record: it runs, waits or does neither as its latest start and the seconds since say
pub reached_timer : (n : ℕ) (p : List ℕ) (es : List Exchange) (s : Session) → is_timer n ≡ true → Reached p es s → TellsOf n (view s) (sets_from n unset es)
reached_timer n p es s e h =
    let r = reached_ran p es s h in
    subst (λ (a : State). TellsOf n a (sets_from n unset es)) (sym r.shows)
    (subst (λ (xs : List Exchange). TellsOf n (after (start p) (calls_of es)) (sets_from n unset xs)) (sym r.seen) (timer_told n p (calls_of es) e))
