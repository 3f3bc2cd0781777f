-- `session::whole_count` meets its contract: the lengths end at the first 0.
-- Assumes nothing.
use Rattle.session.proofs.Lengths.{search_more, search_end}
use Rattle.session.proofs.whole_count.Goals as goal

pub loop-i-preserved : goal.loop-i-preserved
loop-i-preserved c = search_more c.args.ledger.now c.args.n c.args.way _ _ c.lengths_at-at.ensures c.loop-i.invariant c.requires.place c.loop-i-test.true

pub returns : goal.returns
returns c = search_end c.args.ledger.now c.args.n c.args.way _ _ c.lengths_at-at.ensures c.loop-i.invariant c.loop-i-test.false
