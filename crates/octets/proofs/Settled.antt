-- Each contract of the leaves settles its outcome.
-- Assumes nothing.
use mathlib.Core.Path.{refl, sym, ◌∙◌}
use Rattle.outcomes.specs.Determined.{Determined}
use Rattle.octets.proofs.put.Kinds as put-kinds
use Rattle.octets.proofs.put.Reads as put_reads
use Rattle.octets.proofs.clear.Kinds as clear-kinds
use Rattle.octets.proofs.clear.Reads as clear_reads
use Rattle.octets.proofs.move_down.Kinds as move-down-kinds
use Rattle.octets.proofs.move_down.Reads as move-down-reads
use Rattle.octets.proofs.move_up.Kinds as move-up-kinds
use Rattle.octets.proofs.move_up.Reads as move-up-reads
use Rattle.octets.proofs.cut.Kinds as cut-kinds
use Rattle.octets.proofs.cut.Reads as cut-reads
use Rattle.octets.proofs.spread_at.Kinds as spread-at-kinds
use Rattle.octets.proofs.spread_at.Reads as spread-at-reads
use Rattle.octets.proofs.put_part.Kinds as put-part-kinds
use Rattle.octets.proofs.put_part.Reads as put-part-reads

pub put_settled : Determined 2 put-kinds.ps put-kinds.r put_reads.Pre put_reads.Post
put_settled κs a _ x y v w p q = (refl, λ i. ((p ∙ sym q) i, v.1))

pub clear_settled : Determined 1 clear-kinds.ps clear-kinds.r clear_reads.Pre clear_reads.Post
clear_settled κs a _ x y v w p q = (refl, λ i. ((p ∙ sym q) i, v.1))

pub move_down_settled : Determined 1 move-down-kinds.ps move-down-kinds.r move-down-reads.Pre move-down-reads.Post
move_down_settled κs a _ x y v w p q = (refl, λ i. ((p ∙ sym q) i, v.1))

pub move_up_settled : Determined 1 move-up-kinds.ps move-up-kinds.r move-up-reads.Pre move-up-reads.Post
move_up_settled κs a _ x y v w p q = (refl, λ i. ((p ∙ sym q) i, v.1))

pub cut_settled : Determined 1 cut-kinds.ps cut-kinds.r cut-reads.Pre cut-reads.Post
cut_settled κs a _ x y v w p q = (refl, λ i. ((p ∙ sym q) i, v.1))

pub spread_at_settled : Determined 1 spread-at-kinds.ps spread-at-kinds.r spread-at-reads.Pre spread-at-reads.Post
spread_at_settled κs a _ x y v w p q = (refl, λ i. ((p ∙ sym q) i, v.1))

pub put_part_settled : Determined 2 put-part-kinds.ps put-part-kinds.r put-part-reads.Pre put-part-reads.Post
put_part_settled κs a _ x y v w p q = (refl, λ i. ((p ∙ sym q) i, v.1))
