-- `csim::count_is` meets its contract: the decimal of the number, or other digits.
-- Assumes nothing.
use mathlib.Core.Path.{ap, ◌∙◌}
use native.Mathlib.Omega.{arith}
use lib.Dec.{eqb}
use Rattle.std.specs.Cmp.Lexicographic.{pointwise}
use Rattle.text.proofs.Printing.{decimal_few}
use Rattle.csim.proofs.Decimals.{same_decimal}
use Rattle.csim.proofs.Telling.{front}
use Rattle.csim.proofs.count_is.Goals as goal

pub print_decimal-size-requires : goal.print_decimal-size-requires
print_decimal-size-requires c = (c.requires.1, omega (arith, decimal_few c.args.n))

pub slice_bounds-digits-end : goal.slice_bounds-digits-end
slice_bounds-digits-end c = (front c.print_decimal-size.ensures).fits

pub slice_bounds-eq-end : goal.slice_bounds-eq-end
slice_bounds-eq-end c = (front c.print_decimal-size.ensures).size

pub returns : goal.returns
returns c = c.eq.ensures ∙ ap (pointwise eqb c.args.count.now) (front c.print_decimal-size.ensures).is ∙ same_decimal c.args.count.now c.args.n c.requires.0 c.requires.1
