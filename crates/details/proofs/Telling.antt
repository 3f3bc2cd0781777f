-- The line of a frame, by the size of its command.
-- Assumes nothing.
use Prim.Native.Nat.{ℕ, ◌≤◌, ◌<◌}
use mathlib.Core.Path.{◌≡◌, sym, ap, ◌∙◌}
use mathlib.Core.List.{List, [], ◌∷◌}
use mathlib.Core.Option.{some}
use lib.ListN.{length}
use native.Mathlib.Omega.{arith}
use mathlib.Core.Logic.{◌⊎◌}
use Rattle.std.proofs.lemmas.Bool.Decides.{nat_tests}
use Rattle.rules.specs.declared.Details.{Details}
use Rattle.std.specs.Prelude.{Ok}
use Rattle.rules.specs.declared.Refusal.TheVariants.{CommandSize}
use Rattle.rules.specs.Written.{details_bytes}
use Rattle.rules.specs.Command.{wrote, refused}
use Rattle.rules.specs.AtHand.{details_told}
use Rattle.rules.proofs.Laws.{stop, skip, empty_length}
use Rattle.text.specs.Prints.{outcome_of, line_of, Prints}
use Rattle.text.proofs.Printing.{prints_as}
use Rattle.details.specs.Printed.{hand_line}

module _ (s before : List ℕ) (at r : ℕ) (after : List ℕ) where
  pub size_told : (length s ≡ 0) ⊎ (256 < length s) → Prints (line_of (refused CommandSize)) r before at after → Prints (hand_line (some s)) r before at after
  unfolding hand_line
  size_told h w = let size = empty_length s in prints_as (sym (stop _ _ _ (grind (arith, nat_tests)))) w

  pub details_printed :
      (d : Details) → d ≡ details_told s → 0 < length s → length s ≤ 256 →
      Prints (line_of (outcome_of (Ok 3) (d.number ∷ d.kind ∷ d.qualifier ∷ []))) r before at after → Prints (hand_line (some s)) r before at after
  unfolding hand_line outcome_of details_bytes
  details_printed d e n h w =
      let size = empty_length s in
      prints_as (ap (λ (x : Details). line_of (wrote (details_bytes x))) e ∙ sym (skip _ _ _ (grind (arith, nat_tests)))) w
