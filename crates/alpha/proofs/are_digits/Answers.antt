-- `alpha::are_digits` meets its contract: four characters, and each a digit.
-- Assumes nothing.
use mathlib.Core.Path.{◌∙◌}
use borrow.Author.Tests.{ne_eqb}
use Rattle.std.proofs.Common.{rules, tests}
use Rattle.std.proofs.lemmas.Iterator.{YieldsList-from_slice}
use Rattle.std.proofs.lemmas.Iterator.Search.{all_from_yields_List}
use Rattle.rules.specs.Lines.{is_digit}
use Rattle.alpha.proofs.Lines.{four_all, not_four}
use Rattle.alpha.proofs.are_digits.Goals as goal

pub returns-then-word-eq-DIGITS : goal.returns-then-word-eq-DIGITS
returns-then-word-eq-DIGITS c =
    all_from_yields_List is_digit _ _ _ c.all.ensures.ran (YieldsList-from_slice c.args.word.now cc) (λ x b q k. search (rules, tests))
    ∙ four_all c.args.word.now c.if-word-eq-DIGITS.true

pub returns-else-word-eq-DIGITS : goal.returns-else-word-eq-DIGITS
returns-else-word-eq-DIGITS c = ne_eqb _ _ c.if-word-eq-DIGITS.false ∙ not_four _ c.if-word-eq-DIGITS.false
