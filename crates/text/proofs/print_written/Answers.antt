-- `text::print_written` meets its contract: the value and the line feed.
-- Assumes nothing.
use native.Mathlib.Omega.{arith}
use Rattle.text.proofs.Printing.{value_few, prints_after}
use Rattle.text.proofs.print_written.Goals as goal

pub print_char-requires : goal.print_char-requires
print_char-requires c = omega (arith, c.print_value-end.ensures.place, value_few c.args.bytes.now)

pub returns : goal.returns
returns c = prints_after c.print_value-end.ensures c.print_char.ensures (omega (arith, value_few c.args.bytes.now))
