-- `alpha::are_based` meets its contract: every byte has a unit.
-- Assumes nothing.
use Rattle.std.proofs.Common.{rules, tests, ◌∙◌, sym}
use Rattle.std.proofs.lemmas.Iterator.{YieldsList-from_slice}
use Rattle.std.proofs.lemmas.Iterator.Search.{all_from_yields_List}
use Rattle.alpha.proofs.Scans.{all_every}
use Rattle.alpha.proofs.Bases.{has, based_well}
use Rattle.alpha.proofs.are_based.Goals as goal

pub returns : goal.returns
returns c =
    let p = c.args.pointer in
    let s = c.args.s.now in
    all_from_yields_List (has p) _ _ _ c.all.ensures.ran (YieldsList-from_slice s cc) (λ x b q k. search (rules, tests))
    ∙ all_every (has p) s ∙ sym (based_well p s)
