-- `alpha::is_padding` meets its contract: the test passes at every byte.
-- Assumes nothing.
use Rattle.std.proofs.Common.{rules, tests, eqb, ◌∙◌}
use Rattle.std.proofs.lemmas.Iterator.{YieldsList-from_slice}
use Rattle.std.proofs.lemmas.Iterator.Search.{all_from_yields_List}
use Rattle.alpha.specs.Reads.{padding}
use Rattle.alpha.proofs.Scans.{all_every}
use Rattle.alpha.proofs.is_padding.Goals as goal

pub returns : goal.returns
returns c =
    all_from_yields_List (eqb padding) _ _ _ c.all.ensures.ran (YieldsList-from_slice c.args.s.now cc) (λ x b q k. search (rules, tests))
    ∙ all_every (eqb padding) c.args.s.now
