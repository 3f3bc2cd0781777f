-- A call's answer as a printed line.
-- Assumes nothing.
use Prim.Native.Nat.{ℕ, ◌+◌, ◌≤◌}
use mathlib.Core.Path.{◌≡◌, refl, sym, ap, subst, ◌∙◌}
use mathlib.Core.Bool.{◌&&◌}
use mathlib.Core.List.{List, [], ◌++◌}
use mathlib.Core.Option.{Option, none, some}
use native.Mathlib.Omega.{arith}
use lib.ListN.{length, take, drop, get_or, replicate, length-append, length-replicate}
use lib.Seq.{take-append-le, length-take-le}
use lib.Dec.{eqb}
use borrow.Author.Rules.{part_to_end}
use borrow.Author.Tests.{leb-true}
use Rattle.rules.specs.declared.ChannelNumber.{ChannelNumber}
use Rattle.rules.specs.declared.Refusal.TheVariants.{Unreadable as R9}
use Rattle.rules.specs.State.{State, start}
use Rattle.rules.specs.Command.{wrote, refused, lending}
use Rattle.rules.specs.Radio.{arrives, takes, drops}
use Rattle.rules.specs.Run.{Call, starting, commanding, arriving, taking_out, dropping_link, step, radio, timing}
use Rattle.rules.specs.Reading.{pair_in}
use Rattle.rules.specs.Lines.{printed, call_of}
use Rattle.rules.specs.Input.{Said, line_bytes, begins}
use Rattle.rules.proofs.Laws.{branch, both_right}
use Rattle.rules.proofs.Soundness.{start_sound, step_sound}
use Rattle.rules.specs.Pool.{pool_size, grant_cap}
use Rattle.octets.specs.Parts.{part, pasted, cleared}
use Rattle.rules.specs.Words.{Ended}
use Rattle.std.specs.Prelude.{Ok, Err, Option as CodeOption, Some, None}
use Rattle.session.specs.Picture.{Shows, GoodIn, shown, ledger_of}
use Rattle.session.specs.Calls.{Answers}
use Rattle.session.proofs.Facts.{bounds}
use Rattle.session.proofs.Starts.{empty_pool, over_all}
use Rattle.session.proofs.Views.{shows_back, shows_good}
use Rattle.rules.specs.Results.{response_cap, event_cap}
use Rattle.text.specs.declared.Spoken.{Spoken}
use Rattle.text.specs.declared.Spoken.TheVariants.{Command, Arrival, Take, Drop}
use Rattle.text.specs.Calls.{call_spoken}
use Rattle.text.specs.Prints.{count_of, outcome_of, Prints}
use Rattle.octets.proofs.Stores.{paste_none}
use Rattle.text.proofs.Bounds.{front_back, count_within}
use Rattle.lines.specs.Says.{answer_to, Replies, Says}

-- what a call wrote stands in every buffer in front of which its own stands
outcome_front : (e : Ended) (s w : List ℕ) → count_of e ≤ length s → outcome_of e (s ++ w) ≡ outcome_of e s
unfolding outcome_of count_of
outcome_front (Ok k) s w h = ap wrote (take-append-le k s w h)
outcome_front (Err r) s w h = refl

-- a call that was lent the front of a buffer
module _ (t p : List ℕ) (g : GoodIn t p) (o : Option Call) (t' p' : List ℕ) (e : Ended) where
  pub call_replies :
      (c : Call) (before after w : List ℕ) → o ≡ some c → Answers (step (shown t p) c) t' p' e before after →
      Replies (answer_to (shown t p) o) t' p' e (after ++ w)
  unfolding answer_to
  call_replies c before after w q h =
      let x = step (shown t p) c in
      let k = count_within x.outcome e before after (h.ended, h.lent) in
      let l = length-append after w in
      subst (λ (y : Option Call). Replies (answer_to (shown t p) y) t' p' e (after ++ w)) (sym q)
      (record {
        good = h.good;
        state = shows_back x.state t' p' (step_sound (shown t p) c g.sound) h.shows;
        fits = omega arith;
        outcome = outcome_front e after w k ∙ (λ i. outcome_of (h.ended i) (h.lent i)) ∙ front_back x.outcome before;
      })

-- R9, and the session as it was
pub unread_replies : (t p : List ℕ) (o : Option Call) (reply : List ℕ) → GoodIn t p → o ≡ none → Replies (answer_to (shown t p) o) t p (Err R9) reply
unfolding answer_to count_of outcome_of
unread_replies t p o reply g q =
    subst (λ (y : Option Call). Replies (answer_to (shown t p) y) t p (Err R9) reply) (sym q) (record { good = g; state = refl; fits = omega arith; outcome = refl })

-- by the frame of a line
-- a line that is whole, by what it comes to
pub ends_says : (f g : Said State) (t p : List ℕ) (k : ℕ) (out : List ℕ) (at : ℕ) (after : List ℕ) → f ≡ g → Says g t p k out at after → Says f t p k out at after
ends_says f g t p k out at after e w = rw e w

-- a fresh session
module _ (s t p : List ℕ) (m : Shows (start s) t p) where
  fresh_says :
      (f : Said State) (before : List ℕ) (at k : ℕ) (after : List ℕ) → f.kept ≡ start s → after ≡ pasted before at f.out → k ≡ at + length f.out →
      Says f t p k before at after
  fresh_says f before at k after e w z =
      record { good = shows_good (start s) t p (start_sound s) m; state = shows_back (start s) t p (start_sound s) m ∙ sym e; stands = w; place = z }

  pub first_read : (o : Option (List ℕ)) (out : List ℕ) (at : ℕ) → o ≡ some s → Says (begins o) t p at out at out
  unfolding begins
  first_read o out at e = rw e (fresh_says _ out at at out refl (paste_none out at) (omega arith))

-- an unreadable first line is a blank one, and R9
pub first_unread :
    (t p : List ℕ) → Shows (start []) t p → (o : Option (List ℕ)) (before : List ℕ) (at k : ℕ) (after : List ℕ) → o ≡ none →
    Prints (line_bytes (printed (refused R9))) k before at after → Says (begins o) t p k before at after
unfolding begins
first_unread t p m o before at k after e w = rw e (fresh_says [] t p m _ before at k after refl w.stands w.place)

-- the front of a reply
pub front_size : (k : ℕ) (z : List ℕ) → length z ≡ grant_cap → k ≤ grant_cap → k ≡ length (take k z)
front_size k z h f = sym (length-take-le k z (omega arith))

-- what a frame's call tells of it: an arrival has a channel, a take at most so many bytes
abbrev Bounded : List ℕ → Option Call → Type 0
Bounded s none = Unit {0}
Bounded s (some (commanding terms t)) = Unit {0}
Bounded s (some (radio buffer n (arrives t))) = 2 ≤ length s
Bounded s (some (radio buffer n takes)) = buffer ≤ grant_cap
Bounded s (some (radio buffer n drops)) = Unit {0}
Bounded s (some (starting t)) = Unit {0}
Bounded s (some (timing act)) = Unit {0}

call_bounded : (s : List ℕ) → Bounded s (call_of s)
unfolding call_of
call_bounded s =
    branch (Bounded s) _ _ _ (λ _. tt)
    (λ _.
    branch (Bounded s) _ _ _ (λ h. leb-true 2 (length s) (both_right (eqb (get_or s 0 0) 0xA0) _ h))
    (λ _.
    branch (Bounded s) _ _ _ (λ h. leb-true (pair_in (drop 2 s)) grant_cap (both_right (eqb (get_or s 0 0) 0xA1 && eqb (length s) 4) _ h))
    (λ _. branch (Bounded s) _ _ _ (λ _. tt) (λ _. tt))))

-- by the call that the code read, with the front of a buffer that is lent to it
module _ (s : List ℕ) (r : CodeOption Spoken) (t : call_of s ≡ call_spoken r s) where
  spoken : (k : CodeOption Spoken) → r ≡ k → call_of s ≡ call_spoken k s
  spoken k e = t ∙ ap (λ (x : CodeOption Spoken). call_spoken x s) e

  pub nothing_spoken : r ≡ None → call_of s ≡ none
  unfolding call_spoken
  nothing_spoken e = spoken None e

  pub arrival_bounded : (n : ChannelNumber) → r ≡ Some (Arrival n) → 2 ≤ length s
  unfolding call_spoken
  arrival_bounded n e = subst (Bounded s) (spoken (Some (Arrival n)) e) (call_bounded s)

  pub take_bounded : (n : ChannelNumber) (k : ℕ) → r ≡ Some (Take n k) → k ≤ grant_cap
  unfolding call_spoken
  take_bounded n k e = subst (Bounded s) (spoken (Some (Take n k)) e) (call_bounded s)

  module _ (z : List ℕ) (h : length z ≡ grant_cap) where
    lent : (c : ℕ → Call) (k : ℕ) → k ≤ grant_cap → call_of s ≡ some (c k) → call_of s ≡ some (c (length (take k z)))
    lent c k f e = e ∙ ap (λ (j : ℕ). some (c j)) (front_size k z h f)

    pub command_spoken : r ≡ Some Command → call_of s ≡ some (commanding (lending (length (take response_cap z))) s)
    unfolding call_spoken
    command_spoken e = lent (λ (k : ℕ). commanding (lending k) s) response_cap (omega arith) (spoken (Some Command) e)

    pub arrival_spoken : (n : ChannelNumber) → r ≡ Some (Arrival n) → call_of s ≡ some (arriving (length (take event_cap z)) n (part 2 (length s) s))
    unfolding call_spoken
    arrival_spoken n e =
        lent (λ (k : ℕ). arriving k n (part 2 (length s) s)) event_cap (omega arith)
        (spoken (Some (Arrival n)) e ∙ ap (λ (t : List ℕ). some (arriving event_cap n t)) (sym (part_to_end s 2)))

    pub take_spoken : (n : ChannelNumber) (k : ℕ) → r ≡ Some (Take n k) → call_of s ≡ some (taking_out (length (take k z)) n)
    unfolding call_spoken
    take_spoken n k e = lent (λ (j : ℕ). taking_out j n) k (take_bounded n k e) (spoken (Some (Take n k)) e)

    pub drop_spoken : (n : ChannelNumber) → r ≡ Some (Drop n) → call_of s ≡ some (dropping_link (length (take event_cap z)) n)
    unfolding call_spoken
    drop_spoken n e = lent (λ (k : ℕ). dropping_link k n) event_cap (omega arith) (spoken (Some (Drop n)) e)
