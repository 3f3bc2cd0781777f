-- `session::Session::close_channel` meets its contract: the law of the change, at what it calls.
-- Assumes nothing.
use mathlib.Core.Path.{ap, ◌∙◌}
use Prim.Native.Nat.{ℕ, ◌-◌, ◌*◌}
use native.Mathlib.Omega.{arith}
use Rattle.rules.specs.Pool.{cells}
use Rattle.session.specs.Picture.{space}
use Rattle.session.proofs.Facts.{bounds, close_law}
use Rattle.session.proofs.Session.close_channel.Goals as goal

pub overflow_mul-used : goal.overflow_mul-used
overflow_mul-used c = omega (arith, c.free_cells-free.ensures, (bounds _ _ _ c.requires.0).free_few)

pub overflow_sub-used : goal.overflow_sub-used
overflow_sub-used c = omega (arith, c.free_cells-free.ensures, (bounds _ _ _ c.requires.0).free_few)

pub cut-requires : goal.cut-requires
unfolding space
cut-requires c = let k = bounds _ _ _ c.requires.0 in
    let g = ap space c.requires.1 in
    (omega (arith, c.base-at.ensures.value, c.free_cells-free.ensures, c.space.ensures.value, k.used_end, k.region_fits), omega (arith, k.size))

-- no more cells are given back than there are

pub overflow_add-free : goal.overflow_add-free
unfolding cells
overflow_add-free c = omega (arith, c.cells.ensures, c.free_cells-free.ensures, (bounds _ _ _ c.requires.0).free_few)

pub put_free-requires : goal.put_free-requires
unfolding cells
put_free-requires c = omega (arith, c.cells.ensures, c.free_cells-free.ensures, (bounds _ _ _ c.requires.0).free_few)

pub returns : goal.returns
unfolding space
returns c = close_law _ _ _ c.requires.0 c.args.grant _ _ _ _ _ _ _ _ _ c.requires.1 c.base-at.ensures.value c.space.ensures.value
    (ap (λ (c : ℕ). 8192 - 32 * c) c.free_cells-free.ensures ∙ (bounds _ _ _ c.requires.0).used_end)
    c.cut.ensures c.put_entry.ensures c.clear_lengths.ensures c.free_cells-free.ensures c.cells.ensures c.put_free.ensures
