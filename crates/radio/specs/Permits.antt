-- Whether a channel may be used by the radio, and the bytes of the two events.
use Rattle.std.specs.Prelude.{ℕ, ◌≡◌, true, not, List, [], ◌∷◌, leb, eqb, Result, Ok, Err}
use Rattle.rules.specs.declared.ChannelNumber.{ChannelNumber}
use Rattle.rules.specs.declared.Link.TheVariants.{Established, Dropped}
use Rattle.rules.specs.declared.Refusal.{Refusal}
use Rattle.rules.specs.declared.Refusal.TheVariants.{NoChannel, Unopened, Unlinked}
use Rattle.rules.specs.Checks.{◌⇒◌else◌}
use Rattle.rules.specs.State.{is_open}
use Rattle.rules.specs.Own.{capped}
use Rattle.rules.specs.Written.{unflagged, status_object, event_bytes}
use Rattle.rules.specs.Radio.{numbered}
use Rattle.session.specs.declared.Channel.{Channel}
use Rattle.session.specs.Book.{entry_in}
use Rattle.session.specs.Picture.{link_number}
use Rattle.session.specs.Changed.{Numbered, chan_in}

-- R3, R4 and R5, in order, of the ledger's numbers; the entry goes on where all three pass
unfoldable pub permit_in : List ℕ → ChannelNumber → Result Channel Refusal
permit_in t n =
    let e = entry_in t n in
    not (numbered n) ⇒ Err NoChannel else
    not (leb 1 e.grant) ⇒ Err Unopened else
    not (eqb e.link (link_number Established)) ⇒ Err Unlinked else
    Ok e

-- a channel of a good session that the radio may use: it has a number, stands open, its link is established, and e is its entry
pub record Usable (t p : List ℕ) (n : ChannelNumber) (e : Channel) : Type 0 where
  pub numbered : Numbered t p n
  pub entry : e ≡ entry_in t n
  pub stands : is_open (chan_in t p n) ≡ true
  pub link : (chan_in t p n).link ≡ Established

-- the bytes of event 09 for an established channel, and of event 0A for a dropped one
unfoldable pub arrival_told : ChannelNumber → ℕ → List ℕ
arrival_told n count = event_bytes 0x09 (status_object n Established ∷ unflagged 0x37 (capped count ∷ []) ∷ [])

unfoldable pub drop_told : ChannelNumber → List ℕ
drop_told n = event_bytes 0x0A (status_object n Dropped ∷ [])
