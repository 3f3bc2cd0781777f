-- SET UP EVENT LIST: the listed values are looked at one after the other.
-- Assumes nothing.
use Prim.Native.Nat.{ℕ}
use mathlib.Core.Path.{◌≡◌, sym, ap, subst, ◌∙◌}
use mathlib.Core.Bool.{Bool, true, false, not}
use mathlib.Core.List.{List}
use Rattle.rules.specs.declared.Events.{Events}
use Rattle.rules.specs.declared.Details.{Details}
use Rattle.rules.specs.Checks.{every, member}
use Rattle.rules.specs.Profile.{allows_event}
use Rattle.rules.specs.Pool.{promised}
use Rattle.rules.specs.Sound.{Sound}
use Rattle.rules.specs.State.{State}
use Rattle.rules.specs.Own.{error, done, nothing, plain, listed, listing}
use Rattle.rules.proofs.Laws.{stop, skip}
use Rattle.std.specs.Prelude.{Ok}
use Rattle.profile.proofs.Bits.{front_event}
use Rattle.session.specs.Book.{with_list}
use Rattle.session.specs.Picture.{Shows, GoodIn, shown}
use Rattle.session.specs.Calls.{Answers}
use Rattle.session.specs.Changed.{with_events}
use Rattle.session.proofs.Facts.{list_law}
use Rattle.responses.specs.Filled.{response, Filled}
use Rattle.own.specs.Replies.{told}
use Rattle.own.proofs.Replies.{told_answers, left_answers, plain_stands}

-- a state with another event list is as sound
events_sound : (a : State) (e : Events) → Sound a → Sound (with_events a e)
unfolding promised
events_sound a e h = record { thirteen = h.thirteen; seven = h.seven; each = h.each; within = h.within; eight = h.eight; timed = h.timed }

module _ (t p es : List ℕ) (i : Bool) (all : Bool) (f : all ≡ every (allows_event t) es) (g : GoodIn t p) (d : Details) (k : ℕ) (before after : List ℕ) where
  -- the profile is the front of the ledger
  allowed_is : all ≡ every (allows_event (shown t p).profile) es
  unfolding shown
  allowed_is = f ∙ sym (ap (λ (h : ℕ → Bool). every h es) (λ j e. front_event t e j))

  pub list_forbidden : all ≡ false → Filled (response d (error 0x30)) k before after → Answers (told d (listing (shown t p) es i)) t p (Ok k) before after
  unfolding listing
  list_forbidden e w = left_answers d _ (error 0x30) t p k before after (stop _ _ _ (ap not (sym allowed_is ∙ e))) g w

  pub list_done :
      (x : ℕ) (e : Events) (u : List ℕ) → all ≡ true → e.available ≡ member 0x09 es → e.status ≡ member 0x0A es →
      u ≡ with_list t e → x ≡ plain i → Filled (response d (error x)) k before after →
      Answers (told d (listing (shown t p) es i)) u p (Ok k) before after
  unfolding listing listed
  list_done x e u q y z s m w =
      let b = listed (shown t p) es in
      let v = list_law t p e g in
      let h = subst (λ (c : State). Shows c u p) (λ j. with_events (shown t p) (record { available = y j; status = z j })) (record { ledger = s ∙ v.ledger; pool = v.pool }) in
      told_answers d _ b (done (plain i) nothing) u p k before after (skip _ _ _ (ap not (sym allowed_is ∙ q)))
      (events_sound (shown t p) (record { available = member 0x09 es; status = member 0x0A es }) g.sound) h (plain_stands d x i k before after m w)
