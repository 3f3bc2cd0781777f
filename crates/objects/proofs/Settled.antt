-- Each contract of the readers and of the writer settles its outcome.
-- Assumes nothing.
use mathlib.Core.Path.{refl, sym, ◌∙◌}
use Rattle.outcomes.specs.Determined.{Determined}
use Rattle.objects.proofs.Alike.{tag_alike, length_alike, object_alike, same_place}
use Rattle.objects.proofs.tag_at.Kinds as tag-at-kinds
use Rattle.objects.proofs.tag_at.Reads as tag-at-reads
use Rattle.objects.proofs.length_at.Kinds as length-at-kinds
use Rattle.objects.proofs.length_at.Reads as length-at-reads
use Rattle.objects.proofs.write_length.Kinds as write-length-kinds
use Rattle.objects.proofs.write_length.Reads as write-length-reads
use Rattle.objects.proofs.Cursor.object.Kinds as object-kinds
use Rattle.objects.proofs.Cursor.object.Reads as object-reads
use Rattle.objects.proofs.walk.Kinds as walk-kinds
use Rattle.objects.proofs.walk.Reads as walk-reads

pub tag_at_settled : Determined 1 tag-at-kinds.ps tag-at-kinds.r tag-at-reads.Pre tag-at-reads.Post
tag_at_settled κs a _ x y v w p q = (tag_alike x y _ _ p q, refl)

pub length_at_settled : Determined 1 length-at-kinds.ps length-at-kinds.r length-at-reads.Pre length-at-reads.Post
length_at_settled κs a _ x y v w p q = (length_alike x y _ _ p q, refl)

pub write_length_settled : Determined 1 write-length-kinds.ps write-length-kinds.r write-length-reads.Pre write-length-reads.Post
write_length_settled κs a _ x y v w p q = (p.1 ∙ sym q.1, λ i. ((p.0 ∙ sym q.0) i, v.1))

pub object_settled : Determined 1 object-kinds.ps object-kinds.r object-reads.Pre object-reads.Post
object_settled κs a _ x y v w p q = (object_alike x y _ _ p q, refl)

pub walk_settled : Determined 1 walk-kinds.ps walk-kinds.r walk-reads.Pre walk-reads.Post
walk_settled κs a _ x y v w p q = (λ i. record { ending = (p.0 ∙ sym q.0) i; at = same_place _ _ _ _ p.1 q.1 i }, refl)
