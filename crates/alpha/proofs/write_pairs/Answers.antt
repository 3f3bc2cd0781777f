-- `alpha::write_pairs` meets its contract: the first pairs stand behind the mark.
-- Assumes nothing.
use mathlib.Core.Path.{ap, ◌∙◌}
use native.Mathlib.Omega.{arith}
use lib.ListN.{get_or}
use Rattle.alpha.proofs.Codings.{halves}
use Rattle.alpha.proofs.Layings.{pairing_none, pairing_more, pairing_all}
use Rattle.alpha.proofs.write_pairs.Goals as goal

pub loop-i-init : goal.loop-i-init
loop-i-init c = pairing_none _ _ c.requires

pub loop-i-preserved : goal.loop-i-preserved
loop-i-preserved c =
    let e = c.to_be_bytes.ensures ∙ halves _ (omega (arith, c.type_inv.units c.loop-i.i)) in
    pairing_more _ _ _ _ c.loop-i.invariant _ _ c.loop-i-test.true (ap (λ b. get_or b 0 0) e) (ap (λ b. get_or b 1 0) e)

pub returns : goal.returns
returns c = pairing_all _ _ _ _ c.loop-i.invariant c.loop-i-test.false
