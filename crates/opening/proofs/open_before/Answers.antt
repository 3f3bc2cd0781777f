-- `opening::open_before` meets its contract: each turn sees one open channel more.
-- Assumes nothing.
use native.Mathlib.Omega.{arith}
use Rattle.opening.proofs.Unused.{seen_none, seen_more, seen_stop, seen_all}
use Rattle.opening.proofs.open_before.Goals as goal

pub loop-k-init : goal.loop-k-init
loop-k-init c = seen_none _ _

pub overflow_add-k : goal.overflow_add-k
overflow_add-k c = omega arith

pub overflow_cast-k : goal.overflow_cast-k
overflow_cast-k c = omega arith

pub entry-c-requires : goal.entry-c-requires
entry-c-requires c = (omega arith, omega arith)

pub returns-then-c-lt1 : goal.returns-then-c-lt1
returns-then-c-lt1 c = seen_stop c.args.ledger.now _ c.loop-k.k _ c.loop-k.invariant c.loop-k-test.true c.entry-c.ensures c.if-c-lt1.true

pub overflow_add-k-in-loop-k : goal.overflow_add-k-in-loop-k
overflow_add-k-in-loop-k c = omega arith

pub loop-k-smaller : goal.loop-k-smaller
loop-k-smaller c = omega arith

pub loop-k-preserved : goal.loop-k-preserved
loop-k-preserved c = seen_more c.args.ledger.now _ c.loop-k.k _ c.loop-k.invariant c.loop-k-test.true c.entry-c.ensures c.if-c-lt1.false

pub returns : goal.returns
returns c = seen_all _ _ _ c.loop-k.invariant c.loop-k-test.false
