-- `session::Session::restart` meets its contract: a pool that is cleared whole is the pool of a fresh session, and the ledger is written anew.
-- Assumes nothing.
use Prim.Native.Nat.{ℕ}
use mathlib.Core.Path.{ap, ◌∙◌}
use lib.ListN.{replicate}
use Rattle.rules.specs.State.{start}
use Rattle.rules.proofs.Soundness.{start_sound}
use Rattle.session.specs.Picture.{Shows}
use Rattle.session.proofs.Views.{shows_good}
use Rattle.session.proofs.Starts.{empty_pool}
use Rattle.session.proofs.Session.restart.Goals as goal

pub returns : goal.returns
returns c =
    let p = c.args.profile.now in
    let zeros = c.fill.ensures.after (λ y e. e) in
    let shows : Shows (start p) _ _ =
    record { ledger = c.start_ledger.ensures; pool = zeros ∙ ap (λ (n : ℕ). replicate n 0) c.told-self.1 ∙ empty_pool p } in
    record { shows = shows; good = shows_good (start p) _ _ (start_sound p) shows }
