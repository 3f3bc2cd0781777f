-- `csim::print_record` meets its contract: the word, the digits and the line feed.
-- Assumes nothing.
use Rattle.csim.proofs.Telling.{record_printed}
use Rattle.csim.proofs.print_record.Goals as goal

pub returns : goal.returns
returns c = record_printed c.args.command.kind _ _ c.lead.ensures.word c.lead.ensures.few c.args.command.few c.requires c.print_string-start.ensures c.print_bytes-end.ensures c.print_char.ensures
