-- What stands behind a head, by its coding: its units, how many they are, and the room that they need.
-- Assumes nothing.
use Prim.Native.Nat.{ℕ, ◌≤◌}
use mathlib.Core.Path.{◌≡◌, sym, ap, subst, ◌∙◌}
use mathlib.Core.Bool.{true, false}
use mathlib.Core.List.{List, map}
use native.Mathlib.Omega.{arith}
use lib.ListN.{length}
use denote.Ref.{Bor}
use Rattle.std.proofs.lemmas.List.{length-map}
use Rattle.rules.specs.Checks.{every}
use Rattle.octets.specs.Parts.{overlaid}
use Rattle.alpha.specs.declared.Body.{Body}
use Rattle.alpha.specs.declared.Body.TheVariants.{Plain, Escaped, Pairs, Based}
use Rattle.alpha.specs.Alphabet.{unit_of}
use Rattle.alpha.specs.Reads.{default_from, based_from}
use Rattle.alpha.specs.Passes.{units_in, Fills, is_plain}
use Rattle.alpha.specs.Bodies.{pair_unit, units_behind, IsBody}
use Rattle.alpha.proofs.Texts.{size_well}
use Rattle.alpha.proofs.Bases.{based_well, based_few}

module _ (b : Body) (us : List ℕ) (view : units_behind b ≡ us) (sound : IsBody b) where
  module _ (s : Bor (List ℕ)) (e : b ≡ Plain s) where
    plain_is : map unit_of s.now ≡ us
    unfolding units_behind
    plain_is = ap units_behind (sym e) ∙ view

    pub plain_long : length s.now ≡ length us
    plain_long = sym (length-map s.now unit_of) ∙ ap length plain_is

    pub plain_sound : every is_plain s.now ≡ true
    unfolding IsBody
    plain_sound = subst IsBody e sound

    pub plain_laid : (before after : List ℕ) → after ≡ overlaid (map unit_of s.now) before → after ≡ overlaid us before
    plain_laid before after h = h ∙ ap (λ (l : List ℕ). overlaid l before) plain_is

  module _ (s : Bor (List ℕ)) (n : ℕ) (e : b ≡ Escaped s n) where
    escaped_is : units_in (default_from false s.now) ≡ us
    unfolding units_behind
    escaped_is = ap units_behind (sym e) ∙ view

    pub escaped_long : n ≡ length us
    unfolding IsBody
    escaped_long = sym (size_well _ n (subst IsBody e sound)).1 ∙ ap length escaped_is

    pub escaped_fills : (out : List ℕ) → length us ≤ length out → Fills (default_from false s.now) out
    unfolding IsBody
    escaped_fills out h = record { formed = (size_well _ n (subst IsBody e sound)).0; fits = let l = ap length escaped_is in omega arith }

    pub escaped_laid : (before after : List ℕ) → after ≡ overlaid (units_in (default_from false s.now)) before → after ≡ overlaid us before
    escaped_laid before after h = h ∙ ap (λ (l : List ℕ). overlaid l before) escaped_is

  module _ (ps : Bor (List (List ℕ))) (e : b ≡ Pairs ps) where
    pairs_is : map pair_unit ps.now ≡ us
    unfolding units_behind
    pairs_is = ap units_behind (sym e) ∙ view

    pub pairs_long : length ps.now ≡ length us
    pairs_long = sym (length-map ps.now pair_unit) ∙ ap length pairs_is

    pub pairs_laid : (before after : List ℕ) → after ≡ overlaid (map pair_unit ps.now) before → after ≡ overlaid us before
    pairs_laid before after h = h ∙ ap (λ (l : List ℕ). overlaid l before) pairs_is

  module _ (p : ℕ) (s : Bor (List ℕ)) (e : b ≡ Based p s) where
    based_is : units_in (based_from p s.now) ≡ us
    unfolding units_behind
    based_is = ap units_behind (sym e) ∙ view

    pub based_long : length s.now ≡ length us
    unfolding IsBody
    based_long = sym (based_few p s.now (sym (based_well p s.now) ∙ subst IsBody e sound)) ∙ ap length based_is

    pub based_fills : (out : List ℕ) → length us ≤ length out → Fills (based_from p s.now) out
    unfolding IsBody
    based_fills out h = record { formed = subst IsBody e sound; fits = let l = ap length based_is in omega arith }

    pub based_laid : (before after : List ℕ) → after ≡ overlaid (units_in (based_from p s.now)) before → after ≡ overlaid us before
    based_laid before after h = h ∙ ap (λ (l : List ℕ). overlaid l before) based_is
