-- `session::start_ledger` meets its contract: what is kept of the profile, zeros behind it, and the count of all cells among them.
-- Assumes nothing.
use Prim.Native.Nat.{ℕ}
use mathlib.Core.Path.{ap, ◌∙◌}
use mathlib.Core.List.{List}
use lib.ListN.{set}
use Rattle.rules.specs.Pool.{cell_count}
use Rattle.session.specs.Book.{free_at}
use Rattle.session.proofs.Starts.{start_numbers}
use Rattle.session.proofs.start_ledger.Goals as goal

pub returns : goal.returns
returns c = c.put_free.ensures ∙ ap (λ (t : List ℕ). set t free_at cell_count) c.clear_but_profile.ensures ∙ start_numbers _
