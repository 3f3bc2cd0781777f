-- `session::Session::is_crowded` meets its contract: the last place has a length exactly where all have.
-- Assumes nothing.
use mathlib.Core.Path.{ap, ◌∙◌}
use lib.ListN.{get_or}
use lib.Dec.{ltb}
use Prim.Native.Nat.{ℕ, ◌+◌}
use Rattle.session.proofs.Facts.{last_read}
use Rattle.session.proofs.Session.is_crowded.Goals as goal

pub returns : goal.returns
returns c = ap (λ (k : ℕ). ltb 0 (get_or c.args.self.now.ledger (k + 15) 0)) c.lengths_at-at.ensures ∙ last_read _ _ _ c.requires c.args.way
