-- `session::base` meets its contract: each turn adds the region of one channel more.
-- Assumes nothing.
use Prim.Native.Nat.{ℕ}
use mathlib.Core.Path.{refl, ap}
use native.Mathlib.Omega.{arith}
use native.Mathlib.Numerals.{add-one}
use lib.ListN.{get_or}
use Rattle.rules.specs.Pool.{cells}
use Rattle.session.specs.Picture.{base_in, space}
use Rattle.session.proofs.base.Goals as goal

pub loop-i-init : goal.loop-i-init
unfolding base_in
loop-i-init c = (refl, omega arith)

pub loop-i-preserved : goal.loop-i-preserved
unfolding space base_in
loop-i-preserved c =
    let t = c.args.ledger.now in
    let grant = ap (λ (k : ℕ). cells (get_or t k 0)) c.entry_at.ensures in
    let more = ap (base_in t) (add-one c.loop-i.i) in
    (omega arith, omega arith)
