-- `timers::tick` meets its contract: a time that is zero stays, another one loses a second.
-- Assumes nothing.
use mathlib.Core.Path.{sym, ◌∙◌}
use Rattle.timers.proofs.Seconds.{tick_zero, tick_less}
use Rattle.timers.proofs.tick.Goals as goal

pub time_at-left-requires : goal.time_at-left-requires
time_at-left-requires c = c.requires

pub returns-then-is_zero : goal.returns-then-is_zero
returns-then-is_zero c = tick_zero _ _ c.time_at-left.ensures c.is_zero.ensures c.if-is_zero.true

pub less_second-requires : goal.less_second-requires
less_second-requires c = sym c.is_zero.ensures ∙ c.if-is_zero.false

pub put_time-requires : goal.put_time-requires
put_time-requires c = c.requires

pub returns : goal.returns
returns c = tick_less _ _ c.time_at-left.ensures c.is_zero.ensures c.if-is_zero.false c.less_second.ensures c.put_time.ensures
