-- Each contract of the pool settles its outcome.
-- Assumes nothing.
use mathlib.Core.Path.{refl, sym, ◌∙◌}
use Rattle.outcomes.specs.Determined.{Determined}
use Rattle.pool.proofs.Pool.cells.Kinds as cells-kinds
use Rattle.pool.proofs.Pool.cells.Reads as cells-reads
use Rattle.pool.proofs.Pool.space.Kinds as space-kinds
use Rattle.pool.proofs.Pool.space.Reads as space-reads
use Rattle.pool.proofs.Pool.grant.Kinds as grant-kinds
use Rattle.pool.proofs.Pool.grant.Reads as grant-reads

pub cells_settled : Determined 0 cells-kinds.ps cells-kinds.r cells-reads.Pre cells-reads.Post
cells_settled κs a _ x y v w p q = (p ∙ sym q, refl)

pub space_settled : Determined 0 space-kinds.ps space-kinds.r space-reads.Pre space-reads.Post
space_settled κs a _ x y v w p q = (p.0 ∙ sym q.0, refl)

pub grant_settled : Determined 0 grant-kinds.ps grant-kinds.r grant-reads.Pre grant-reads.Post
grant_settled κs a _ x y v w p q = (p ∙ sym q, refl)
