-- Each contract of the reading settles its outcome.
-- Assumes nothing.
use mathlib.Core.Path.{refl, sym, ◌∙◌}
use Rattle.outcomes.specs.Determined.{Determined}
use Rattle.command.proofs.Alike.{framed_alike, read_alike}
use Rattle.command.proofs.at_hand.Kinds as at-hand-kinds
use Rattle.command.proofs.at_hand.Reads as at-hand-reads
use Rattle.command.proofs.details_told.Kinds as details-told-kinds
use Rattle.command.proofs.details_told.Reads as details-told-reads
use Rattle.command.proofs.frame_start.Kinds as frame-start-kinds
use Rattle.command.proofs.frame_start.Reads as frame-start-reads
use Rattle.command.proofs.read_objects.Kinds as read-objects-kinds
use Rattle.command.proofs.read_objects.Reads as read-objects-reads

pub frame_start_settled : Determined 1 frame-start-kinds.ps frame-start-kinds.r frame-start-reads.Pre frame-start-reads.Post
frame_start_settled κs a _ x y v w p q = (framed_alike x y _ p q, refl)

pub read_objects_settled : Determined 2 read-objects-kinds.ps read-objects-kinds.r read-objects-reads.Pre read-objects-reads.Post
read_objects_settled κs a _ x y v w p q = (read_alike x y _ _ p q, refl)

pub at_hand_settled : Determined 1 at-hand-kinds.ps at-hand-kinds.r at-hand-reads.Pre at-hand-reads.Post
at_hand_settled κs a _ x y v w p q = (p ∙ sym q, refl)

pub details_told_settled : Determined 1 details-told-kinds.ps details-told-kinds.r details-told-reads.Pre details-told-reads.Post
details_told_settled κs a _ x y v w p q = (p ∙ sym q, refl)
