-- The channels that stand open, as the ledger tells them.
use Rattle.std.specs.Prelude.{ℕ, zero, suc, ◌+◌, List, get_or, leb}
use Rattle.rules.specs.Checks.{◌⇒◌else◌}
use Rattle.session.specs.Book.{entry_at}

-- how many of the m channels from the place k on stand open before the first that does not
unfoldable pub open_from : List ℕ → ℕ → ℕ → ℕ
open_from t k zero = 0
open_from t k (suc m) = let j = open_from t (k + 1) m in leb 1 (get_or t (entry_at k) 0) ⇒ suc j else 0
