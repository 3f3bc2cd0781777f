-- `fetch::hand_on` meets its contract: that of the command call, and a record that is cleared whole.
-- Assumes nothing.
use mathlib.Core.Path.{sym, ◌∙◌}
use native.Mathlib.Omega.{arith}
use Rattle.fetch.proofs.Records.{stands_size, front_length, record_cleared}
use Rattle.fetch.proofs.hand_on.Goals as goal

pub slice_bounds-command_in-end : goal.slice_bounds-command_in-end
slice_bounds-command_in-end c = let z = stands_size _ _ c.requires.1 in let f = c.requires.1.fits in omega (arith, z, f)

pub slice_bounds-command_in-end-2 : goal.slice_bounds-command_in-end-2
slice_bounds-command_in-end-2 c = sym (front_length _ _ c.requires.1)

pub clear-requires : goal.clear-requires
clear-requires c = let z = stands_size _ _ c.requires.1 in (omega arith, omega (arith, z))

pub returns : goal.returns
returns c = (c.command_in-ended.ensures, c.clear.ensures ∙ record_cleared _ (stands_size _ _ c.requires.1))
