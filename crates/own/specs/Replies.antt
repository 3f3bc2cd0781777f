-- A reply to a command that was read, as what the call hands back; and the entry that bytes to send join.
use Rattle.std.specs.Prelude.{ℕ, ◌+◌, ◌-◌}
use Rattle.rules.specs.declared.Details.{Details}
use Rattle.rules.specs.declared.Link.TheVariants.{Established}
use Rattle.rules.specs.Checks.{◌⇒◌else◌}
use Rattle.rules.specs.Own.{Reply, bit1}
use Rattle.rules.specs.Command.{Answer, answered}
use Rattle.session.specs.declared.Channel.{Channel}
use Rattle.session.specs.Picture.{link_number}
use Rattle.responses.specs.Filled.{response}

-- the state of the reply, and the bytes of its response
abbrev pub told : Details → Reply → Answer
told d r = answered r.state (response d r.result)

-- with bit 1 set all bytes held, so many more among them, are ready, and the link is established
unfoldable pub sent_entry : Channel → ℕ → ℕ → Channel
sent_entry e q k =
    bit1 q ⇒ record { grant = e.grant; link = link_number Established; rx = e.rx; tx = e.tx; ready = e.tx + k; carries = e.carries } else e

-- and, so many more among them, those that were not are one datagram; without bit 1 none is
unfoldable pub sent_whole : Channel → ℕ → ℕ → ℕ
sent_whole e q k = bit1 q ⇒ e.tx + k - e.ready else 0
