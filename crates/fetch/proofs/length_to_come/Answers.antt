-- `fetch::length_to_come` meets its contract: a case for none, more and one byte of the length.
-- Assumes nothing.
use Rattle.fetch.proofs.Heads.{come_none, come_more, come_one}
use Rattle.fetch.proofs.length_to_come.Goals as goal

pub returns-then-s-lt2 : goal.returns-then-s-lt2
returns-then-s-lt2 c = search come_none

pub returns-then-s-gt2 : goal.returns-then-s-gt2
returns-then-s-gt2 c = search come_more

pub returns : goal.returns
returns c = search come_one
