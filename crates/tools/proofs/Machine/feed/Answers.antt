-- `tools::Machine::feed` meets its contract: the line goes on, or it is whole and answered.
-- Assumes nothing.
use mathlib.Core.Path.{refl, ap}
use native.Mathlib.Omega.{arith}
use Rattle.flow.specs.declared.Pending.{Pending}
use Rattle.flow.proofs.Feeding.{taken_within, feeds_open, feeds_whole}
use Rattle.tools.specs.Tools.{kept_in, ends}
use Rattle.tools.specs.Machines.{memory_of}
use Rattle.tools.proofs.Machine.feed.Goals as goal

pub returns-in_default : goal.returns-in_default
returns-in_default c =
    let a = c.args in
    let m = a.self.now in
    let w = feeds_open a.chunk.now a.from.next c.gather.ensures c.requires.0 kept_in (ends a.tool) m.begun (memory_of m) a.out.now a.from.at c.in_default.is in
    record { goes = w.0; keeps = w.1 }

pub overflow_add-result : goal.overflow_add-result
overflow_add-result c = omega (arith, taken_within c.args.chunk.now c.args.from.next c.gather.ensures c.requires.0 c.in-Some.is)

pub returns : goal.returns
returns c =
    let a = c.args in
    let m = a.self.now in
    let w =
    feeds_whole a.chunk.now a.from.next c.gather.ensures c.requires.0 kept_in (ends a.tool) m.begun (memory_of m) c.in-Some.is c.answer-at.ensures.says refl
    (ap (λ (p : Pending). p.bytes) c.answer-at.ensures.pending) in
    record { goes = w.0; keeps = w.1 }
