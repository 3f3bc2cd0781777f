-- `bench_reader::read_rising` meets its contract: at every turn so many statuses stand before here, the last of which has this number.
-- Assumes nothing.
use Rattle.bench_reader.proofs.Rising.{rises_none, nearer, rises_more, rising_hidden, rising_order, rising_heard}
use Rattle.bench_reader.proofs.read_rising.Goals as goal

pub loop-here-init : goal.loop-here-init
loop-here-init c = search rises_none

pub returns-in_err-number : goal.returns-in_err-number
returns-in_err-number c = λ d x. rw c.from_residual.ensures (rising_hidden d x c.loop-here.invariant c.in_err-number.ensures c.loop-here-test.true)

pub returns-then-number-highest : goal.returns-then-number-highest
returns-then-number-highest c = λ d x. rising_order d x c.loop-here.invariant c.in_ok-number.ensures c.if-number-highest.true

pub loop-here-smaller : goal.loop-here-smaller
loop-here-smaller c = nearer c.in_ok-number.ensures

pub loop-here-preserved : goal.loop-here-preserved
loop-here-preserved c = rises_more c.in_ok-number.ensures c.loop-here.invariant c.if-number-highest.false

pub returns : goal.returns
returns c = λ d x. rising_heard d x c.loop-here.invariant c.loop-here-test.false
