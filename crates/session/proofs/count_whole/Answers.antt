-- `session::count_whole` meets its contract: the length stands at the first place that is free.
-- Assumes nothing.
use Rattle.session.proofs.Lengths.{length_none, length_put}
use Rattle.session.proofs.count_whole.Goals as goal

pub returns-then-len-eq0 : goal.returns-then-len-eq0
returns-then-len-eq0 c = length_none _ c.args.n c.args.way _ c.if-len-eq0.true

pub returns : goal.returns
returns c = length_put c.args.ledger.now c.args.n c.args.way _ _ _ c.lengths_at-at.ensures c.whole_count-i.ensures c.if-len-eq0.false
