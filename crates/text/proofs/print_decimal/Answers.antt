-- `text::print_decimal` meets its contract: the four digits behind their zeros.
-- Assumes nothing.
use native.Mathlib.Omega.{arith}
use lib.ListN.{length}
use Rattle.text.proofs.Printing.{zeros_few, digits_room, digits_printed}
use Rattle.text.proofs.print_decimal.Goals as goal

pub put_part-requires : goal.put_part-requires
put_part-requires c = digits_room c.args.n _ _ _ _ _ c.last_digit.ensures c.last_digit-2.ensures c.last_digit-3.ensures c.last_digit-4.ensures
    c.zeros_before-zeros.ensures c.args.at (length c.args.out.now) c.requires.1

pub overflow_sub-result : goal.overflow_sub-result
overflow_sub-result c = omega (arith, c.zeros_before-zeros.ensures, zeros_few c.args.n)

pub returns : goal.returns
returns c = digits_printed c.args.n _ _ _ _ _ c.last_digit.ensures c.last_digit-2.ensures c.last_digit-3.ensures c.last_digit-4.ensures
    c.zeros_before-zeros.ensures c.put_part.ensures
