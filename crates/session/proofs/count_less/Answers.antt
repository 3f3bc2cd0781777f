-- `session::count_less` meets its contract: the first length is fewer, or the loop moves the others to the front, and a 0 stands behind them.
-- Assumes nothing.
use mathlib.Core.Path.{◌∙◌}
use native.Mathlib.Omega.{arith}
use Rattle.session.proofs.Lengths.{less_first, less_others, lengths_fit, shift_more, shifted}
use Rattle.session.proofs.count_less.Goals as goal

pub returns-then-count-first : goal.returns-then-count-first
returns-then-count-first c = less_first _ c.args.n c.args.way _ _ c.lengths_at-at.ensures c.if-count-first.true

pub loop-i-preserved : goal.loop-i-preserved
loop-i-preserved c =
    let f = lengths_fit c.args.n c.args.way c.requires.1 in
    shift_more c.args.ledger.now c.loop-i.ledger c.lengths_at-at.result c.loop-i.i c.loop-i.invariant (omega arith) (omega arith)

pub returns : goal.returns
returns c =
    let f = lengths_fit c.args.n c.args.way c.requires.1 in
    shifted c.args.ledger.now c.loop-i.ledger c.lengths_at-at.result _ (omega arith) (omega arith) c.loop-i.invariant
    ∙ less_others _ c.args.n c.args.way _ _ c.lengths_at-at.ensures c.if-count-first.false
