-- `session::clear_lengths` meets its contract: zeros over the lengths of both ways.
-- Assumes nothing.
use Rattle.session.proofs.Lengths.{zeros_put}
use Rattle.session.proofs.clear_lengths.Goals as goal

pub returns : goal.returns
returns c = zeros_put c.args.ledger.now _ c.args.n _ c.lengths_at-at.ensures c.requires.1 c.told-ledger (c.fill.ensures.after (λ y e. e))
