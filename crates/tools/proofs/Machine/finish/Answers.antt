-- `tools::Machine::finish` meets its contract: what ends the last line is read, if anything of one is left.
-- Assumes nothing.
use native.Mathlib.Omega.{arith}
use Rattle.flow.proofs.Feeding.{last_none, last_held}
use Rattle.tools.specs.Tools.{kept_in}
use Rattle.tools.specs.Machines.{held_by}
use Rattle.tools.proofs.Machine.finish.Goals as goal

pub returns-then-self-eq0 : goal.returns-then-self-eq0
returns-then-self-eq0 c = rw (last_none kept_in (held_by c.args.self.now) (omega arith)) c.fill.ensures

pub returns : goal.returns
returns c = rw (last_held kept_in (held_by c.args.self.now) (omega arith)) c.fill-2.ensures
