-- `command::timer_plan` meets its contract: the plan of a start and of all else, tried against the rules.
-- Assumes nothing.
use mathlib.Core.Path.{refl, sym}
use Rattle.rules.specs.Checks.{◌⇒◌else◌, every, some_of, member}
use Rattle.rules.specs.Table.{table, row_among, times, known}
use Rattle.command.specs.Plans.{besides_by, times_by}
use Rattle.command.proofs.Tables.{rightly, timer_place, no_start, start_plan, manage_plan}
use Rattle.command.proofs.timer_plan.Goals as goal

pub returns-in-Start : goal.returns-in-Start
unfolding rightly known table row_among times times_by besides_by every member some_of ◌⇒◌else◌
returns-in-Start c = start_plan _ _ c.requires (sym c.in-Start.ensures) refl (timer_place _ _ _ c.requires c.from-action.ensures c.timer_bit.ensures) refl

pub returns-in_default : goal.returns-in_default
unfolding rightly known table row_among times times_by besides_by every member some_of ◌⇒◌else◌
returns-in_default c = manage_plan _ _ c.requires (no_start _ _ c.from-action.ensures c.in_default.not-Start) refl (timer_place _ _ _ c.requires c.from-action.ensures c.timer_bit.ensures) refl
