-- `radio::drop_link` meets its contract: each return is that of the law for its case.
-- Assumes nothing.
use Rattle.radio.proofs.Ends.{drop_quiet, drop_told_lem}
use Rattle.radio.proofs.drop_link.Goals as goal

pub returns-then-listed-eq0 : goal.returns-then-listed-eq0
returns-then-listed-eq0 c = search drop_quiet

pub returns : goal.returns
returns c = search drop_told_lem
