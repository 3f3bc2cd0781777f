-- The types that change nothing: the session stays, and the result is told.
-- Assumes nothing.
use Prim.Native.Nat.{ℕ}
use mathlib.Core.Path.{◌≡◌, ap, subst}
use mathlib.Core.Bool.{Bool}
use mathlib.Core.List.{List}
use borrow.Author.Tests.{eq-eqb, ne_eqb}
use Rattle.rules.specs.declared.Details.{Details}
use Rattle.std.specs.Prelude.{Ok}
use Rattle.rules.specs.Own.{reply, error, done, nothing, statuses, reports, statuses_from, plain, telling}
use Rattle.rules.proofs.Laws.{stop, skip}
use Rattle.session.specs.Picture.{GoodIn, shown}
use Rattle.session.specs.Calls.{Answers}
use Rattle.responses.specs.Filled.{response, Filled, statuses_in}
use Rattle.responses.proofs.Statuses.{statuses_shown}
use Rattle.own.specs.Replies.{told}
use Rattle.own.proofs.Replies.{left_answers, plain_stands}

module _ (t p : List ℕ) (g : GoodIn t p) (d : Details) (i : Bool) (x k : ℕ) (before after : List ℕ) (m : x ≡ plain i) where
  abbrev tells : Type 0
  tells = Answers (told d (reply (shown t p) (telling (shown t p) d.kind i))) t p (Ok k) before after

  pub tell_status : d.kind ≡ 0x44 → Filled (response d (done x (reports (statuses (statuses_in t 0 7))))) k before after → tells
  unfolding telling
  tell_status e w =
      left_answers d _ (done (plain i) (reports (statuses (statuses_from 1 (shown t p).chans)))) t p k before after (ap (reply (shown t p)) (stop _ _ _ (eq-eqb d.kind 0x44 e))) g
      (subst (λ (y : List ℕ). Filled y k before after) (λ j. response d (done (m j) (reports (statuses (statuses_shown t p g j))))) w)

  pub tell_nothing : (d.kind ≡ 0x44 → ⊥) → Filled (response d (error x)) k before after → tells
  unfolding telling
  tell_nothing e w =
      left_answers d _ (done (plain i) nothing) t p k before after (ap (reply (shown t p)) (skip _ _ _ (ne_eqb d.kind 0x44 e))) g (plain_stands d x i k before after m w)
