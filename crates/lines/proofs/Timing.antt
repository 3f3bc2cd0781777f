-- The calls of timers among the lines: seconds, the envelope, and the frames that are the line program's.
-- Assumes nothing.
use Prim.Native.Nat.{ℕ, zero, suc, ◌+◌}
use mathlib.Core.Path.{◌≡◌, refl, sym, ap, subst, ◌∙◌}
use mathlib.Core.List.{List, [], ◌∷◌, ◌++◌}
use mathlib.Core.Option.{some}
use native.Mathlib.Omega.{arith}
use lib.ListN.{length, get_or, drop}
use lib.Seq.{get_or-drop}
use borrow.Author.Tests.{eq-eqb, ne_eqb}
use Rattle.std.specs.Int.{w16, from_be_bytes}
use Rattle.rules.specs.Words.{Ended}
use Rattle.std.specs.Prelude.{Ok, Err}
use Rattle.rules.specs.declared.Refusal.TheVariants.{Unreadable}
use Rattle.rules.specs.State.{State}
use Rattle.rules.specs.Command.{Answer, answered, refusal}
use Rattle.rules.specs.TimerCalls.{second, envelope, passing}
use Rattle.rules.specs.Run.{timing, step}
use Rattle.rules.specs.Reading.{pair_in}
use Rattle.rules.specs.Lines.{call_of}
use Rattle.rules.specs.Sound.{Sound}
use Rattle.rules.proofs.Laws.{stop, skip}
use Rattle.rules.proofs.Soundness.{step_sound}
use Rattle.session.specs.Picture.{Shows, GoodIn, shown}
use Rattle.session.specs.Calls.{Answers}
use Rattle.session.proofs.Views.{shows_back}
use Rattle.text.specs.Prints.{count_of, outcome_of}
use Rattle.lines.specs.Says.{answer_to, Replies}
use Rattle.lines.specs.Asks.{later, seconds_for, envelope_for, frame_for}
use Rattle.lines.proofs.Telling.{call_replies}

-- one second more behind so many
later_next : (n : ℕ) (a : State) → later (n + 1) a ≡ (passing (later n a)).state
unfolding later
later_next zero a = refl
later_next (suc n) a = ap (λ (k : ℕ). later k a) (let e : suc n + 1 ≡ suc (n + 1) = omega arith in e) ∙ later_next n (passing a).state

later_sound : (n : ℕ) (a : State) → Sound a → Sound (later n a)
unfolding later step
later_sound zero a h = h
later_sound (suc n) a h = later_sound n (passing a).state (step_sound a (timing second) h)

-- so many seconds have passed
pub record Later (a : State) (n : ℕ) (t p : List ℕ) : Type 0 where
  pub shows : Shows (later n a) t p
  pub good : GoodIn t p

pub later_none : (t p : List ℕ) → GoodIn t p → Later (shown t p) 0 t p
unfolding later
later_none t p g = record { shows = g.shows; good = g }

pub later_more : (a : State) (n : ℕ) (t p u q : List ℕ) → Sound a → Later a n t p → Answers (passing (shown t p)) u q (Ok 0) [] [] → Later a (n + 1) u q
later_more a n t p u q o h w =
    let is : shown t p ≡ later n a = shows_back (later n a) t p (later_sound n a o) h.shows in
    record { shows = subst (λ (b : State). Shows b u q) (ap (λ (b : State). (passing b).state) is ∙ sym (later_next n a)) w.shows; good = w.good }

pub later_all : {a : State} {n m : ℕ} {t p : List ℕ} → n ≡ m → Later a n t p → Shows (later m a) t p × GoodIn t p
later_all {a} {t = t} {p} e h = (subst (λ (k : ℕ). Shows (later k a) t p) e h.shows, h.good)

-- seconds write nothing
seconds_reply : (x : Answer) (a : State) (n : ℕ) (t p reply : List ℕ) → Sound a → x ≡ answered (later n a) [] → Shows (later n a) t p × GoodIn t p → Replies x t p (Ok 0) reply
unfolding count_of outcome_of
seconds_reply x a n t p reply o e h =
    subst (λ (y : Answer). Replies y t p (Ok 0) reply) (sym e)
    (record { good = h.1; state = shows_back (later n a) t p (later_sound n a o) h.0; fits = omega arith; outcome = refl })

-- R9, and the session as it was
unread_reply : (x : Answer) (t p reply : List ℕ) → GoodIn t p → x ≡ refusal (shown t p) Unreadable → Replies x t p (Err Unreadable) reply
unfolding count_of outcome_of
unread_reply x t p reply g e =
    subst (λ (y : Answer). Replies y t p (Err Unreadable) reply) (sym e) (record { good = g; state = refl; fits = omega arith; outcome = refl })

-- by an answer that is the same
pub replies_as : {x y : Answer} {t p : List ℕ} {e : Ended} {reply : List ℕ} → x ≡ y → Replies y t p e reply → Replies x t p e reply
replies_as {t = t} {p = p} {e = e} {reply = reply} q h = subst (λ (z : Answer). Replies z t p e reply) (sym q) h

-- the two bytes behind the first, as a count
pub count_is : (s : List ℕ) → from_be_bytes w16 (get_or s 1 0 ∷ get_or s 2 0 ∷ []) ≡ pair_in (drop 1 s)
unfolding pair_in
count_is s = simp get_or-drop (omega arith)

-- A3, by the number of its bytes
module _ (t p : List ℕ) (g : GoodIn t p) (s reply : List ℕ) where
  abbrev a : State
  a = shown t p

  pub seconds_one : (u q : List ℕ) → length s ≡ 1 → Shows (later 1 a) u q × GoodIn u q → Replies (seconds_for a s) u q (Ok 0) reply
  unfolding seconds_for
  seconds_one u q e h = seconds_reply (seconds_for a s) a 1 u q reply g.sound (stop _ _ _ (eq-eqb (length s) 1 e)) h

  pub seconds_none : (length s ≡ 1 → ⊥) → (length s ≡ 3 → ⊥) → Replies (seconds_for a s) t p (Err Unreadable) reply
  unfolding seconds_for
  seconds_none e f = unread_reply (seconds_for a s) t p reply g (skip _ _ _ (ne_eqb (length s) 1 e) ∙ skip _ _ _ (ne_eqb (length s) 3 f))

  pub seconds_many : (u q : List ℕ) (n : ℕ) → n ≡ pair_in (drop 1 s) → length s ≡ 3 → Shows (later n a) u q × GoodIn u q → Replies (seconds_for a s) u q (Ok 0) reply
  unfolding seconds_for
  seconds_many u q n e f h =
      seconds_reply (seconds_for a s) a (pair_in (drop 1 s)) u q reply g.sound (skip _ _ _ (ne_eqb (length s) 1 (omega (arith, f))) ∙ stop _ _ _ (eq-eqb (length s) 3 f))
      (subst (λ (k : ℕ). Shows (later k a) u q) e h.0, h.1)

  -- A4: the envelope was lent the front of the reply
  module _ (u v : List ℕ) (e : Ended) (before after w : List ℕ) (h : Answers (step a (timing (envelope (length before)))) u v e before after) where
    enveloped : Replies (step a (timing (envelope (length before)))) u v e (after ++ w)
    unfolding answer_to
    enveloped = call_replies t p g (some (timing (envelope (length before)))) u v e (timing (envelope (length before))) before after w refl h

    pub envelope_one : length s ≡ 1 → length before ≡ 14 → Replies (envelope_for a s) u v e (after ++ w)
    unfolding envelope_for
    envelope_one q l = replies_as (stop _ _ _ (eq-eqb (length s) 1 q) ∙ ap (λ (n : ℕ). step a (timing (envelope n))) (sym l)) enveloped

    pub envelope_sized : length s ≡ 2 → length before ≡ get_or s 1 0 → Replies (envelope_for a s) u v e (after ++ w)
    unfolding envelope_for
    envelope_sized q l =
        replies_as (skip _ _ _ (ne_eqb (length s) 1 (omega (arith, q))) ∙ stop _ _ _ (eq-eqb (length s) 2 q) ∙ ap (λ (n : ℕ). step a (timing (envelope n))) (sym l)) enveloped

  pub envelope_none : (length s ≡ 1 → ⊥) → (length s ≡ 2 → ⊥) → Replies (envelope_for a s) t p (Err Unreadable) reply
  unfolding envelope_for
  envelope_none e f = unread_reply (envelope_for a s) t p reply g (skip _ _ _ (ne_eqb (length s) 1 e) ∙ skip _ _ _ (ne_eqb (length s) 2 f))

-- by the first byte of a frame
module _ (a : State) (s : List ℕ) where
  pub frame_second : get_or s 0 0 ≡ 0xA3 → frame_for a s ≡ seconds_for a s
  unfolding frame_for
  frame_second e = stop _ _ _ (eq-eqb (get_or s 0 0) 0xA3 e)

  pub frame_envelope : get_or s 0 0 ≡ 0xA4 → frame_for a s ≡ envelope_for a s
  unfolding frame_for
  frame_envelope e = skip _ _ _ (ne_eqb (get_or s 0 0) 0xA3 (omega (arith, e))) ∙ stop _ _ _ (eq-eqb (get_or s 0 0) 0xA4 e)

  pub frame_other : (get_or s 0 0 ≡ 0xA3 → ⊥) → (get_or s 0 0 ≡ 0xA4 → ⊥) → frame_for a s ≡ answer_to a (call_of s)
  unfolding frame_for
  frame_other e f = skip _ _ _ (ne_eqb (get_or s 0 0) 0xA3 e) ∙ skip _ _ _ (ne_eqb (get_or s 0 0) 0xA4 f)

  pub frame_blank : length s ≡ 0 → frame_for a s ≡ answer_to a (call_of s)
  frame_blank e = let none = first s e in frame_other (λ q. absurd (omega (arith, q, none))) (λ q. absurd (omega (arith, q, none)))
    where
      first : (s : List ℕ) → length s ≡ 0 → get_or s 0 0 ≡ 0
      first [] e = refl
      first (x ∷ s) e = absurd (let z : suc (length s) ≡ 0 = e in omega arith)
