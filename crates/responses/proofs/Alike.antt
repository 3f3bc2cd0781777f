-- Two outcomes of a writer that meet one contract are the same.
-- Assumes nothing.
use Prim.Native.Nat.{ℕ}
use mathlib.Core.Path.{◌≡◌, sym, ◌∙◌}
use mathlib.Core.List.{List}
use Rattle.responses.specs.Filled.{Filled}

-- two that leave the same bytes at the front of a buffer
module _ {t : List ℕ} {k m : ℕ} {before after after' : List ℕ} where
  pub count_alike : Filled t k before after → Filled t m before after' → k ≡ m
  count_alike s r = s.counted ∙ sym r.counted

  pub out_alike : Filled t k before after → Filled t m before after' → after ≡ after'
  out_alike s r = s.lent ∙ sym r.lent
