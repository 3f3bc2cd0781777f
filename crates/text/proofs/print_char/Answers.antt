-- `text::print_char` meets its contract: the character is stored.
-- Assumes nothing.
use Rattle.text.proofs.Printing.{char_printed}
use Rattle.text.proofs.print_char.Goals as goal

pub returns : goal.returns
returns c = search char_printed
