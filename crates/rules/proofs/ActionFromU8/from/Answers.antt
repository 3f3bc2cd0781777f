-- An action of a qualifier, by its two low bits.
-- Assumes nothing.
use Rattle.std.proofs.Common.{sym}
use native.Mathlib.Omega.{arith}
use Rattle.rules.specs.Timers.{action_of}
use Rattle.rules.proofs.ActionFromU8.from.Goals as goal

pub returns-in-0 : goal.returns-in-0
unfolding action_of
returns-in-0 c = sym c.in-0.is

pub returns-in-1 : goal.returns-in-1
unfolding action_of
returns-in-1 c = sym c.in-1.is

pub returns-in-2 : goal.returns-in-2
unfolding action_of
returns-in-2 c = sym c.in-2.is

pub returns-in_default : goal.returns-in_default
unfolding action_of
returns-in_default c = omega arith
