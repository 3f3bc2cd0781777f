-- Laws of the pool: a grant fits the unpromised cells, and a changed channel changes the sum by its own cells.
-- Assumes nothing.
use Prim.Native.Nat.{ℕ, zero, suc, ◌+◌, ◌*◌, ◌≤◌, ◌<◌, min}
use mathlib.Core.Path.{◌≡◌}
use mathlib.Core.List.{List, [], ◌∷◌}
use native.Mathlib.Omega.{arith}
use native.Mathlib.Nat.{le_of_suc-le-suc, not-suc-le-zero}
use lib.ListN.{length, get_or, set}
use borrow.Author.Tests.{leb-true, leb-false, le-leb}
use Rattle.rules.specs.State.{Chan, closed}
use Rattle.rules.specs.Pool.{cells, promised_to, grant_for}
use Rattle.rules.proofs.Laws.{branch, stop}

-- a grant g for a request, with so many cells free
pub record Granted (size free g : ℕ) : Type 0 where
  pub fits : 2 * cells g ≤ free
  pub capped : g ≤ 1500
  pub asked : g ≤ size
  pub some : 2 ≤ free → 1 ≤ size → 1 ≤ g

pub grant_law : (size free : ℕ) → Granted size free (grant_for size free)
unfolding grant_for cells
grant_law size free =
    branch (Granted size free) _ _ _
    (λ e.
    let h = leb-true (2 * cells (min size 1500)) free e in
    record { fits = h; capped = omega arith; asked = omega arith; some = omega arith })
    (λ e.
    let h = leb-false (2 * cells (min size 1500)) free e in
    record { fits = omega arith; capped = omega arith; asked = omega arith; some = omega arith })

-- another channel at a place: the sum loses the cells of the old one and gains those of the new one
pub promised_set :
    (cs : List Chan) (k : ℕ) (c : Chan) → k < length cs →
    promised_to (set cs k c) + 2 * cells (get_or cs k closed).grant ≡ promised_to cs + 2 * cells c.grant
unfolding promised_to
promised_set [] k c h = absurd (not-suc-le-zero h)
promised_set (x ∷ cs) zero c h = omega arith
promised_set (x ∷ cs) (suc k) c h = let ih = promised_set cs k c (le_of_suc-le-suc h) in omega arith

-- the grant where the cells asked for are free
pub grant_whole : (size free : ℕ) → 2 * cells (min size 1500) ≤ free → grant_for size free ≡ min size 1500
unfolding grant_for
grant_whole size free h = stop _ _ _ (le-leb (2 * cells (min size 1500)) free h)
