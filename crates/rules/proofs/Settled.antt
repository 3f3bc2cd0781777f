-- Each contract of the words settles its outcome.
-- Assumes nothing.
use mathlib.Core.Path.{refl, sym, ◌∙◌}
use Rattle.outcomes.specs.Determined.{Determined}
use Rattle.rules.proofs.Refusal.number.Kinds as number-kinds
use Rattle.rules.proofs.Refusal.number.Reads as number-reads
use Rattle.rules.proofs.Words.{typed_alike, acts_alike}
use Rattle.rules.proofs.CommandTypeTryFromU8.try_from.Kinds as type-kinds
use Rattle.rules.proofs.CommandTypeTryFromU8.try_from.Reads as type-reads
use Rattle.rules.proofs.ActionFromU8.from.Kinds as action-kinds
use Rattle.rules.proofs.ActionFromU8.from.Reads as action-reads
use Rattle.rules.proofs.DeviceIdentityFromChannelNumber.from.Kinds as identity-kinds
use Rattle.rules.proofs.DeviceIdentityFromChannelNumber.from.Reads as identity-reads
use Rattle.rules.proofs.ChannelNumberFromDeviceIdentity.from.Kinds as channel-kinds
use Rattle.rules.proofs.ChannelNumberFromDeviceIdentity.from.Reads as channel-reads
use Rattle.rules.proofs.lists.Kinds as lists-kinds
use Rattle.rules.proofs.lists.Reads as lists-reads
use Rattle.rules.proofs.is_known.Kinds as is-known-kinds
use Rattle.rules.proofs.is_known.Reads as is-known-reads
use Rattle.rules.proofs.is_addressed.Kinds as is-addressed-kinds
use Rattle.rules.proofs.is_addressed.Reads as is-addressed-reads
use Rattle.rules.proofs.fits_bearer.Kinds as fits-bearer-kinds
use Rattle.rules.proofs.fits_bearer.Reads as fits-bearer-reads

pub number_settled : Determined 0 number-kinds.ps number-kinds.r number-reads.Pre number-reads.Post
number_settled κs a _ x y v w p q = (p ∙ sym q, refl)

pub type_settled : Determined 0 type-kinds.ps type-kinds.r type-reads.Pre type-reads.Post
type_settled κs a _ x y v w p q = (typed_alike _ x y p q, refl)

pub action_settled : Determined 0 action-kinds.ps action-kinds.r action-reads.Pre action-reads.Post
action_settled κs a _ x y v w p q = (acts_alike _ x y p q, refl)

pub identity_settled : Determined 0 identity-kinds.ps identity-kinds.r identity-reads.Pre identity-reads.Post
identity_settled κs a _ x y v w p q = (p ∙ sym q, refl)

pub channel_settled : Determined 0 channel-kinds.ps channel-kinds.r channel-reads.Pre channel-reads.Post
channel_settled κs a _ x y v w p q = (p ∙ sym q, refl)

pub lists_settled : Determined 1 lists-kinds.ps lists-kinds.r lists-reads.Pre lists-reads.Post
lists_settled κs a _ x y v w p q = (p ∙ sym q, refl)

pub is_known_settled : Determined 0 is-known-kinds.ps is-known-kinds.r is-known-reads.Pre is-known-reads.Post
is_known_settled κs a _ x y v w p q = (p ∙ sym q, refl)

pub is_addressed_settled : Determined 0 is-addressed-kinds.ps is-addressed-kinds.r is-addressed-reads.Pre is-addressed-reads.Post
is_addressed_settled κs a _ x y v w p q = (p ∙ sym q, refl)

pub fits_bearer_settled : Determined 1 fits-bearer-kinds.ps fits-bearer-kinds.r fits-bearer-reads.Pre fits-bearer-reads.Post
fits_bearer_settled κs a _ x y v w p q = (p ∙ sym q, refl)
