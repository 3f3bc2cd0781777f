-- `session::clear_but_profile` meets its contract: zeros, and over them what is kept of the profile.
-- Assumes nothing.
use mathlib.Core.Path.{ap, ◌∙◌}
use mathlib.Core.List.{List}
use Prim.Native.Nat.{ℕ}
use native.Mathlib.Omega.{arith}
use lib.ListN.{get_or, set, take, length-take}
use Rattle.session.specs.Book.{ledger_size}
use Rattle.session.proofs.Starts.{kept_more, kept_all}
use Rattle.session.proofs.clear_but_profile.Goals as goal

pub loop-i-preserved : goal.loop-i-preserved
loop-i-preserved c =
    let l = c.loop-i in
    let kept = take c.min.result c.args.profile.now in
    ap (λ (t : List ℕ). set t l.i (get_or kept l.i 0)) l.invariant ∙ kept_more kept l.i ledger_size c.loop-i-test.true (omega (arith, length-take c.min.result c.args.profile.now))

pub returns : goal.returns
returns c = let l = c.loop-i in
    l.invariant ∙ kept_all c.args.profile.now c.min.result l.i c.min.ensures (omega arith)
