-- `alpha::read` meets its contract: R13, R14, or the units at the front of the buffer.
-- Assumes nothing.
use native.Mathlib.Omega.{arith}
use Rattle.alpha.proofs.Marks.{ended_malformed, ended_short, ended_units}
use Rattle.alpha.proofs.read.Goals as goal

pub returns-in_default : goal.returns-in_default
returns-in_default c = let e = ended_malformed _ c.args.out.now c.in_default.ensures in record { value = e.0; out_after = e.1 }

pub returns-then-out-n : goal.returns-then-out-n
returns-then-out-n c = let e = ended_short _ c.args.out.now _ c.in-Some.ensures (omega arith) in record { value = e.0; out_after = e.1 }

pub returns : goal.returns
returns c = let e = ended_units _ c.args.out.now _ c.in-Some.ensures _ _ c.len-n.ensures (omega arith) c.fill.ensures in record { value = e.0; out_after = e.1 }
