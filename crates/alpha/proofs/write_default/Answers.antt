-- `alpha::write_default` meets its contract: the rest of the units gives the rest of the bytes.
-- Assumes nothing.
use mathlib.Core.Path.{sym, ◌∙◌}
use native.Mathlib.Omega.{arith}
use lib.ListN.{length-set}
use Rattle.alpha.proofs.Layings.{laying_none, laying_end, laying_code, laying_coded, laying_extended, laying_as}
use Rattle.alpha.proofs.write_default.Goals as goal
use Rattle.alpha.proofs.write_default.Goals.{in-Some, in-None}

pub loop-unit-init : goal.loop-unit-init
loop-unit-init c = laying_none _ _ c.requires.0 c.requires.1

pub bounds-out-n : goal.bounds-out-n
bounds-out-n c = (laying_code _ _ _ _ _ c.loop-unit.invariant c.loop-unit-test.true _ c.in-Some.ensures).0

pub unwrap-code-requires : goal.unwrap-code-requires
unwrap-code-requires c = laying_coded _ _ _ _ _ c.loop-unit.invariant c.loop-unit-test.true c.in-None.ensures _ c.extension_code.ensures

pub bounds-out-n-in-None : goal.bounds-out-n-in-None
bounds-out-n-in-None c =
    omega (arith, (laying_extended _ _ _ _ _ c.loop-unit.invariant c.loop-unit-test.true c.in-None.ensures _ (sym c.extension_code.ensures ∙ c.unwrap-code.ensures)).0)

pub bounds-out-n-in-None-2 : goal.bounds-out-n-in-None-2
bounds-out-n-in-None-2 c =
    simp length-set (laying_extended _ _ _ _ _ c.loop-unit.invariant c.loop-unit-test.true c.in-None.ensures _ (sym c.extension_code.ensures ∙ c.unwrap-code.ensures)).0

pub loop-unit-preserved : goal.loop-unit-preserved
loop-unit-preserved c =
    elim c.match-code_of.branch [
      | in-Some w ↦ laying_as w.n-is w.out-is (laying_code _ _ _ _ _ c.loop-unit.invariant c.loop-unit-test.true _ w.in-Some.ensures).1
      | in-None w ↦
          laying_as w.n-is w.out-is (laying_extended _ _ _ _ _ c.loop-unit.invariant c.loop-unit-test.true w.in-None.ensures _ (sym w.extension_code.ensures ∙ w.unwrap-code.ensures)).1
    ]

pub returns : goal.returns
returns c = laying_end _ _ _ _ _ c.loop-unit.invariant c.loop-unit-test.false
