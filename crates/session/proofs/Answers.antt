-- What a call hands back, by how it ends.
-- Assumes nothing.
use Prim.Native.Nat.{ℕ}
use mathlib.Core.Path.{◌≡◌, refl, sym, ap, subst, ◌∙◌}
use mathlib.Core.List.{List, []}
use lib.ListN.{length}
use Rattle.rules.specs.declared.Refusal.{Refusal}
use Rattle.rules.specs.State.{State}
use Rattle.rules.specs.Command.{Answer, answered, refusal, ended_of, written_by}
use Rattle.rules.specs.Sound.{Sound}
use Rattle.octets.specs.Parts.{overlaid}
use Rattle.std.specs.Prelude.{Ok, Err}
use Rattle.session.specs.Picture.{shown, Shows, GoodIn}
use Rattle.session.specs.Calls.{Answers}
use Rattle.session.proofs.Views.{shows_good}

-- a refusal leaves the session and the lent bytes
pub refuse_answers : (x : Answer) (t p out : List ℕ) (r : Refusal) → GoodIn t p → x ≡ refusal (shown t p) r → Answers x t p (Err r) out out
unfolding ended_of written_by overlaid
refuse_answers x t p out r g e =
    subst (λ (y : Answer). Answers y t p (Err r) out out) (sym e) (record { shows = g.shows; good = g; ended = refl; lent = refl })

-- an answer hands back the picture of its state, and its bytes
pub wrote_answers :
    (x : Answer) (b : State) (s t p before after : List ℕ) → Sound x.state → x ≡ answered b s → Shows b t p →
    after ≡ overlaid s before → Answers x t p (Ok (length s)) before after
unfolding ended_of written_by
wrote_answers x b s t p before after h e w o =
    subst (λ (y : Answer). Answers y t p (Ok (length s)) before after) (sym e)
    (record { shows = w; good = shows_good b t p (subst (λ (y : Answer). Sound y.state) e h) w; ended = refl; lent = o })

nothing_lent : (d : List ℕ) → d ≡ overlaid [] d
unfolding overlaid
nothing_lent d = refl

-- one that writes nothing
pub quiet_answers :
    (x : Answer) (b : State) (s t p out : List ℕ) → Sound x.state → x ≡ answered b s → s ≡ [] → Shows b t p →
    Answers x t p (Ok 0) out out
quiet_answers x b s t p out h e n w = wrote_answers x b [] t p out out h (e ∙ ap (answered b) n) w (nothing_lent out)
