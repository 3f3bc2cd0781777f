-- `tools::Machine::fill` meets its contract: what holds between two lines of the chunk.
-- Assumes nothing.
use mathlib.Core.Path.{refl}
use native.Mathlib.Omega.{arith}
use Rattle.flow.proofs.Filling.{filling_none, filling_less, filling_more, filling_end, filling_full, filling_done}
use Rattle.tools.specs.Tools.{kept_in, ends}
use Rattle.tools.specs.Machines.{held_by}
use Rattle.tools.proofs.Machine.fill.Goals as goal
use Rattle.tools.proofs.Machine.fill.Goals.{then-loop-progress-test+else-out-progress-ge-PRINTED, else-loop-progress-test}

pub loop-progress-init : goal.loop-progress-init
loop-progress-init c = filling_none kept_in (ends c.args.tool) (held_by c.args.self.now) c.args.chunk.now c.args.out.now

-- a line of the chunk was read
pub loop-progress-smaller : goal.loop-progress-smaller
loop-progress-smaller c =
    let f = c.feed-progress.ensures in
    let less = filling_less c.loop-progress.invariant c.loop-progress-test.true c.if-out-progress-ge-PRINTED.true f.goes f.keeps in
    omega arith

pub loop-progress-preserved : goal.loop-progress-preserved
loop-progress-preserved c =
    let f = c.feed-progress.ensures in
    filling_more c.loop-progress.invariant c.loop-progress-test.true c.if-out-progress-ge-PRINTED.true f.goes f.keeps (omega arith)

pub returns : goal.returns
returns c =
    let w = c.loop-progress.invariant in
    let z = c.fill.ensures.after (λ y e. e) in
    elim c.loop-progress-test.branch [
      | then-loop-progress-test+else-out-progress-ge-PRINTED u ↦ filling_done w (filling_full w u.if-out-progress-ge-PRINTED.false) _ refl z refl
      | else-loop-progress-test u ↦ filling_done w (filling_end w u.loop-progress-test.false) _ refl z refl
    ]
