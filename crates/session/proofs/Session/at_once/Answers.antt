-- `session::Session::at_once` meets its contract: what is due of a stream, and the first length of datagrams.
-- Assumes nothing.
use mathlib.Core.Path.{ap, sym, ◌∙◌}
use lib.ListN.{get_or}
use Prim.Native.Nat.{ℕ}
use Rattle.session.proofs.Facts.{once_stream, once_datagram}
use Rattle.session.proofs.Session.at_once.Goals as goal

pub returns-then-is_stream : goal.returns-then-is_stream
returns-then-is_stream c = c.due.ensures ∙ once_stream _ _ _ c.requires.0 c.args.c c.args.way c.requires.1 (sym c.if-is_stream.ensures)

pub returns : goal.returns
returns c = ap (λ (k : ℕ). get_or c.args.self.now.ledger k 0) c.lengths_at.ensures ∙ once_datagram _ _ _ c.requires.0 c.args.c c.args.way c.requires.1 (sym c.if-is_stream.ensures)
