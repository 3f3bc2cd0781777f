-- `session::Session::open_channel` meets its contract: the law of the change, at what it calls.
-- Assumes nothing.
use mathlib.Core.Path.{ap, ◌∙◌}
use Prim.Native.Nat.{ℕ, ◌-◌, ◌*◌}
use native.Mathlib.Omega.{arith}
use borrow.Author.Rules.{rules}
use Rattle.rules.specs.Pool.{unpromised}
use Rattle.session.specs.Picture.{space}
use Rattle.session.proofs.Facts.{bounds, open_law}
use Rattle.session.proofs.Session.open_channel.Goals as goal

pub overflow_mul-used : goal.overflow_mul-used
overflow_mul-used c = omega (arith, c.free_cells-free.ensures, (bounds _ _ _ c.requires.numbered).free_few)

pub overflow_sub-used : goal.overflow_sub-used
overflow_sub-used c = omega (arith, c.free_cells-free.ensures, (bounds _ _ _ c.requires.numbered).free_few)

pub spread_at-requires : goal.spread_at-requires
spread_at-requires c = let k = bounds _ _ _ c.requires.numbered in
    (omega (arith, c.base-at.ensures.value, c.free_cells-free.ensures, k.used_end, k.region_fits), omega (arith, c.free_cells-free.ensures, c.space.ensures.value, c.requires.n_value.1, k.free_is, k.free_few, k.size))

-- no more cells are taken than are free

pub overflow_sub-free : goal.overflow_sub-free
overflow_sub-free c = omega (arith, c.cells.ensures, c.free_cells-free.ensures, c.requires.n_value.1, (bounds _ _ _ c.requires.numbered).free_is)

pub put_free-requires : goal.put_free-requires
put_free-requires c = omega (arith, c.free_cells-free.ensures, (bounds _ _ _ c.requires.numbered).free_few)

pub returns : goal.returns
unfolding space unpromised
returns c = let x = bounds _ _ _ c.requires.numbered in
    open_law _ _ _ c.requires.numbered c.args.grant c.args.link c.args.carries _ _ _ _ _ _ _ _ _ _ c.requires.n_value.0 (omega (arith, c.requires.n_value.1, x.used_is))
    c.base-at.ensures.value c.space.ensures.value (ap (λ (c : ℕ). 8192 - 32 * c) c.free_cells-free.ensures ∙ x.used_end)
    (search rules) (search rules) c.spread_at.ensures c.put_entry.ensures c.free_cells-free.ensures c.cells.ensures c.put_free.ensures
