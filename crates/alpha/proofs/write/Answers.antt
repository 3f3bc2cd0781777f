-- `alpha::write` meets its contract: the coding that is chosen is the writer's.
-- Assumes nothing.
use native.Mathlib.Omega.{arith}
use Rattle.alpha.proofs.Layings.{each_small}
use Rattle.alpha.proofs.Surveys.{chosen_found, chosen_ended}
use Rattle.alpha.proofs.write.Goals as goal

pub put-requires : goal.put-requires
put-requires c = (chosen_found _ (each_small _ (λ i. omega (arith, c.type_inv.units i))) _ _ c.of.ensures c.choose.ensures).serves

pub returns : goal.returns
returns c =
    let form = chosen_found _ (each_small _ (λ i. omega (arith, c.type_inv.units i))) _ _ c.of.ensures c.choose.ensures in
    let both = chosen_ended _ _ _ _ _ form c.put.ensures in
    record { value = both.0; out_after = both.1 }
