-- `alpha::are_units` meets its contract: each word is four digits.
-- Assumes nothing.
use mathlib.Core.Path.{◌∙◌}
use lib.Dec.{eqb}
use Rattle.std.proofs.Common.{rules, tests}
use Rattle.std.proofs.lemmas.Iterator.Search.{all_from_yields_List}
use Rattle.std.proofs.lemmas.Iterator.Splits.{YieldsList-from_slice_split}
use Rattle.alpha.specs.Passes.{is_word}
use Rattle.alpha.proofs.Lines.{words_units}
use Rattle.alpha.proofs.are_units.Goals as goal

pub returns : goal.returns
returns c =
    all_from_yields_List is_word _ _ _ c.all.ensures.ran
    (YieldsList-from_slice_split _ (λ b. eqb b 32) c.args.line.now c.split.ensures.rest c.split.ensures.done c.split.ensures.closure (λ x b q k. search (rules, tests)))
    (λ x b q k. search (rules, tests))
    ∙ words_units c.args.line.now
