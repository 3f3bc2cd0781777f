-- `session::put_entry` meets its contract: its numbers from its place on, and the others as they were.
-- Assumes nothing.
use Prim.Native.Nat.{ℕ}
use mathlib.Core.Path.{ap, ◌∙◌}
use native.Mathlib.Omega.{arith}
use Rattle.octets.specs.Parts.{pasted}
use Rattle.session.specs.Book.{with_entry, numbers_of}
use Rattle.session.proofs.Ledgers.{entry_put}
use Rattle.session.proofs.put_entry.Goals as goal

pub returns : goal.returns
unfolding with_entry
returns c = entry_put c.args.ledger.now _ c.args.c (omega arith) ∙ ap (λ (k : ℕ). pasted c.args.ledger.now k (numbers_of c.args.c)) c.entry_at-at.ensures
