-- `alpha::Coding::put` meets its contract: each coding by its own function.
-- Assumes nothing.
use Rattle.alpha.specs.Passes.{bytes_of, Serves}
use Rattle.alpha.proofs.Surveys.{serves_as, ends_as}
use Rattle.alpha.proofs.Coding.put.Goals as goal

pub put_default-requires : goal.put_default-requires
unfolding Serves
put_default-requires c = serves_as _ c.in-Default.is c.requires

pub put_block-requires : goal.put_block-requires
unfolding Serves
put_block-requires c = serves_as _ c.in-Block.is c.requires

pub put_base-requires : goal.put_base-requires
unfolding Serves
put_base-requires c = serves_as _ c.in-Base.is c.requires

pub returns-in-Default : goal.returns-in-Default
unfolding bytes_of
returns-in-Default c = ends_as _ _ _ _ c.in-Default.is c.put_default.ensures

pub returns-in-Pairs : goal.returns-in-Pairs
unfolding bytes_of
returns-in-Pairs c = ends_as _ _ _ _ c.in-Pairs.is c.put_pairs.ensures

pub returns-in-Block : goal.returns-in-Block
unfolding bytes_of
returns-in-Block c = ends_as _ _ _ _ c.in-Block.is c.put_block.ensures

pub returns-in-Base : goal.returns-in-Base
unfolding bytes_of
returns-in-Base c = ends_as _ _ _ _ c.in-Base.is c.put_base.ensures
