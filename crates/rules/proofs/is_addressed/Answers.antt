-- `rules::is_addressed` meets its contract, check by check.
-- Assumes nothing.
use Rattle.rules.proofs.Addressing.{not_card, for_modem, below_channels, from_channels}
use Rattle.rules.proofs.is_addressed.Goals as goal

pub returns-then-from-ne129 : goal.returns-then-from-ne129
returns-then-from-ne129 c = search not_card

pub returns-then-to_modem : goal.returns-then-to_modem
returns-then-to_modem c = search for_modem

pub returns-then-to-lt33 : goal.returns-then-to-lt33
returns-then-to-lt33 c = search below_channels

pub returns : goal.returns
returns c = search from_channels
