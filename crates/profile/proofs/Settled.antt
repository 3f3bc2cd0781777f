-- Each contract of the profile settles its outcome.
-- Assumes nothing.
use mathlib.Core.Path.{refl, sym, ◌∙◌}
use Rattle.outcomes.specs.Determined.{Determined}
use Rattle.profile.proofs.allowed.Kinds as allowed-kinds
use Rattle.profile.proofs.allowed.Reads as allowed-reads
use Rattle.profile.proofs.allows_event.Kinds as allows-event-kinds
use Rattle.profile.proofs.allows_event.Reads as allows-event-reads
use Rattle.profile.proofs.serves.Kinds as serves-kinds
use Rattle.profile.proofs.serves.Reads as serves-reads
use Rattle.profile.proofs.channels_of.Kinds as channels-of-kinds
use Rattle.profile.proofs.channels_of.Reads as channels-of-reads

pub allowed_settled : Determined 1 allowed-kinds.ps allowed-kinds.r allowed-reads.Pre allowed-reads.Post
allowed_settled κs a _ x y v w p q = (p ∙ sym q, refl)

pub allows_event_settled : Determined 1 allows-event-kinds.ps allows-event-kinds.r allows-event-reads.Pre allows-event-reads.Post
allows_event_settled κs a _ x y v w p q = (p ∙ sym q, refl)

pub serves_settled : Determined 1 serves-kinds.ps serves-kinds.r serves-reads.Pre serves-reads.Post
serves_settled κs a _ x y v w p q = (p ∙ sym q, refl)

pub channels_of_settled : Determined 1 channels-of-kinds.ps channels-of-kinds.r channels-of-reads.Pre channels-of-reads.Post
channels_of_settled κs a _ x y v w p q = (p ∙ sym q, refl)
