-- `csim::print_csim` meets its contract: its pieces in a row.
-- Assumes nothing.
use Rattle.csim.proofs.Telling.{csim_printed}
use Rattle.csim.proofs.print_csim.Goals as goal

pub returns : goal.returns
returns c =
    csim_printed c.args.command.kind c.args.command.bytes.now _ c.header.ensures c.args.command.few c.requires c.print_string-count.ensures c.print_decimal-quote.ensures
    c.print_string-first.ensures c.print_bytes-headed.ensures c.print_bytes-behind.ensures c.print_bytes-end.ensures c.print_string.ensures
