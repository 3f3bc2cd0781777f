-- `rules::to_modem`, byte by byte.
-- Assumes nothing.
use Rattle.rules.proofs.Words.{modem_yes, modem_no}
use Rattle.rules.proofs.to_modem.Goals as goal

pub returns-in-2 : goal.returns-in-2
returns-in-2 c = modem_yes _ c.in-2.is

pub returns-in_default : goal.returns-in_default
returns-in_default c = search modem_no
