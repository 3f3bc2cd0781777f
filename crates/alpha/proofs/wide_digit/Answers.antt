-- `alpha::wide_digit` meets its contract: a digit is at most 15.
-- Assumes nothing.
use native.Mathlib.Omega.{arith}
use mathlib.Core.Path.{◌∙◌}
use Rattle.text.proofs.Digits.{digit_small}
use Rattle.alpha.proofs.wide_digit.Goals as goal

pub returns : goal.returns
returns c = (c.from.ensures ∙ c.digit_value.ensures, omega (arith, c.from.ensures, c.digit_value.ensures, digit_small _ c.requires))
