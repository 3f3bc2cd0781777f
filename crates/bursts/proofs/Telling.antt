-- A line as a burst: one that has a frame, an unreadable one, and the first.
-- Assumes nothing.
use Prim.Native.Nat.{ℕ}
use mathlib.Core.Path.{◌≡◌, refl, sym, ap, subst, ◌∙◌}
use mathlib.Core.Bool.{Bool, true, false, not}
use mathlib.Core.List.{List}
use mathlib.Core.Option.{Option, none, some}
use borrow.Author.Tests.{not-true, not-false}
use Rattle.rules.specs.declared.Refusal.TheVariants.{Unreadable}
use Rattle.rules.specs.Command.{refused}
use Rattle.rules.specs.Lines.{frame_of}
use Rattle.rules.specs.Input.{Said, begins}
use Rattle.rules.proofs.Laws.{stop, skip}
use Rattle.session.specs.Picture.{GoodIn}
use Rattle.text.specs.Prints.{line_of, Prints}
use Rattle.lines.specs.Says.{Says}
use Rattle.fetch.specs.Gathers.{gathered_in, Gathers}
use Rattle.bursts.specs.Bursts.{Awaits, awaits_in, burst_said, burst_of, profile_said, burst_ends, Tells}

module _ (b : Bool) (t p g l : List ℕ) (y : GoodIn t p) (n : Gathers g) (r : ℕ) (out : List ℕ) (at : ℕ) (out' : List ℕ) where
  abbrev k : Awaits
  k = awaits_in t p g

  by_frame : {t' p' g' : List ℕ} (o : Option (List ℕ)) → not b ≡ false → frame_of l ≡ o → Tells (burst_of k o) t' p' g' r out at out' → Tells (burst_ends b k l) t' p' g' r out at out'
  unfolding burst_ends
  by_frame {t'} {p'} {g'} o e q h =
      subst (λ (f : Said Awaits). Tells f t' p' g' r out at out') (ap (burst_of k) (sym q) ∙ sym (stop b (burst_of k (frame_of l)) _ (not-false b e))) h

  pub line_burst : {t' p' g' s : List ℕ} → not b ≡ false → frame_of l ≡ some s → Tells (burst_said k s) t' p' g' r out at out' → Tells (burst_ends b k l) t' p' g' r out at out'
  unfolding burst_of
  line_burst {s = s} e q h = by_frame (some s) e q h

  pub line_unread : not b ≡ false → frame_of l ≡ none → Prints (line_of (refused Unreadable)) r out at out' → Tells (burst_ends b k l) t p g r out at out'
  unfolding burst_of
  line_unread e q h = by_frame none e q (record { good = y; gathers = n; kept = refl; prints = h })

  pub line_first : {t' p' : List ℕ} → not b ≡ true → Says (begins (frame_of l)) t' p' r out at out' → Tells (burst_ends b k l) t' p' g r out at out'
  unfolding burst_ends
  line_first {t'} {p'} e h =
      subst (λ (f : Said Awaits). Tells f t' p' g r out at out') (sym (skip b (burst_of k (frame_of l)) (profile_said k (begins (frame_of l))) (not-true b e)))
      (record {
        good = h.good;
        gathers = n;
        kept = λ i. record { state = h.state i; gathered = gathered_in g };
        prints = record { stands = h.stands; place = h.place };
      })
