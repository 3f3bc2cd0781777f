-- The contracts of the tools settle their outcomes.
-- Assumes nothing.
use mathlib.Core.Path.{sym, ◌∙◌}
use Rattle.outcomes.specs.Determined.{Determined}
use Rattle.csim.proofs.tell_import.Kinds as tell-import-kinds
use Rattle.csim.proofs.tell_import.Reads as tell-import-reads
use Rattle.csim.proofs.tell_export.Kinds as tell-export-kinds
use Rattle.csim.proofs.tell_export.Reads as tell-export-reads

pub tell_import_settled : Determined 2 tell-import-kinds.ps tell-import-kinds.r tell-import-reads.Pre tell-import-reads.Post
tell_import_settled κs a _ x y v w p q = (p.place ∙ sym q.place, λ i. (tt, ((p.stands ∙ sym q.stands) i, v.1.1)))

pub tell_export_settled : Determined 2 tell-export-kinds.ps tell-export-kinds.r tell-export-reads.Pre tell-export-reads.Post
tell_export_settled κs a _ x y v w p q = (p.place ∙ sym q.place, λ i. (tt, ((p.stands ∙ sym q.stands) i, v.1.1)))
