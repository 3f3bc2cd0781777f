-- `own::is_dropped` meets its contract: each case of the definition.
-- Assumes nothing.
use mathlib.Core.Path.{◌≡◌, refl, sym, ap, ◌∙◌}
use mathlib.Core.Bool.{false}
use Rattle.rules.specs.declared.Link.{Link}
use Rattle.rules.specs.declared.Link.TheVariants.{NotYet, Established, Dropped}
use Rattle.rules.specs.State.{is_dropped}
use Rattle.own.proofs.is_dropped.Goals as goal

not_dropped : (l m : Link) → l ≡ m → (l ≡ Dropped → ⊥) → false ≡ is_dropped m
unfolding is_dropped
not_dropped NotYet m e n = ap is_dropped e
not_dropped Established m e n = ap is_dropped e
not_dropped Dropped m e n = absurd (n refl)

pub returns-in-Dropped : goal.returns-in-Dropped
unfolding is_dropped
returns-in-Dropped c = ap is_dropped (sym c.in-Dropped.is ∙ c.link_of.ensures)

pub returns-in_default : goal.returns-in_default
returns-in_default c = search (not_dropped c.link_of.result)
