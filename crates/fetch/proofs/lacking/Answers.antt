-- `fetch::lacking` meets its contract: each return is that of the law for its case.
-- Assumes nothing.
use Rattle.fetch.proofs.Heads.{lacks_none, lacks_long, lacks_some}
use Rattle.fetch.proofs.lacking.Goals as goal

pub returns-then-len-here : goal.returns-then-len-here
returns-then-len-here c = search lacks_none

pub returns-then-count-more : goal.returns-then-count-more
returns-then-count-more c = search lacks_long

pub returns : goal.returns
returns c = search lacks_some
