-- `mending::print_change` meets its contract: a blank, the letter and the place.
-- Assumes nothing.
use Rattle.mending.proofs.Left.{change_printed}
use Rattle.mending.proofs.print_change.Goals as goal

pub returns : goal.returns
returns c = change_printed c.args.letter c.args.place c.requires.1 c.print_char-lettered.ensures c.print_char-placed.ensures c.print_decimal.ensures
