-- `fetch::conclude` meets its contract: a law for each stage.
-- Assumes nothing.
use mathlib.Core.Path.{refl, sym}
use native.Mathlib.Omega.{arith}
use Rattle.fetch.proofs.Records.{stands_size, front_length}
use Rattle.fetch.proofs.Concluding.{conclude_kept, conclude_long, conclude_command, kept_few}
use Rattle.fetch.proofs.conclude.Goals as goal

pub slice_bounds-stage_of-end : goal.slice_bounds-stage_of-end
slice_bounds-stage_of-end c = let z = stands_size _ _ c.requires.1 in let f = c.requires.1.fits in omega (arith, z, f)

pub slice_bounds-stage_of-end-2 : goal.slice_bounds-stage_of-end-2
slice_bounds-stage_of-end-2 c = sym (front_length _ _ c.requires.1)

pub stage_of-requires : goal.stage_of-requires
stage_of-requires c = let n = front_length _ _ c.requires.1 in let f = c.requires.1.fits in omega (arith, n, f)

pub overflow_cast-gathered : goal.overflow_cast-gathered
overflow_cast-gathered c = let w = kept_few _ _ c.requires.1 _ _ c.stage_of.ensures c.in-Lacks.is in record { fits = omega (arith, w) }

pub bounds-gathered-256 : goal.bounds-gathered-256
bounds-gathered-256 c = let z = stands_size _ _ c.requires.1 in omega (arith, z)

pub clear-requires : goal.clear-requires
clear-requires c = let z = stands_size _ _ c.requires.1 in (omega arith, omega (arith, z))

pub returns-in-Lacks : goal.returns-in-Lacks
returns-in-Lacks c = conclude_kept _ _ _ _ _ c.requires.1 _ _ _ c.requires.0 c.stage_of.ensures c.in-Lacks.is refl

pub returns-in-Overlong : goal.returns-in-Overlong
returns-in-Overlong c = conclude_long _ _ _ _ _ c.requires.1 _ _ c.requires.0 c.stage_of.ensures c.in-Overlong.is c.clear.ensures

pub returns-in-Decided : goal.returns-in-Decided
returns-in-Decided c = conclude_command _ _ _ _ _ c.requires.1 _ _ _ _ _ _ c.stage_of.ensures c.in-Decided.is c.hand_on.ensures.0 c.hand_on.ensures.1
