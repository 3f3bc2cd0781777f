-- `session::start` meets its contract: the ledger of a fresh session, and an empty pool.
-- Assumes nothing.
use Rattle.rules.specs.State.{start}
use Rattle.rules.proofs.Soundness.{start_sound}
use Rattle.session.specs.Picture.{Shows}
use Rattle.session.proofs.Starts.{empty_pool}
use Rattle.session.proofs.Views.{shows_good}
use Rattle.session.proofs.start.Goals as goal

pub returns : goal.returns
returns c = let p = c.args.profile.now in
    let shows : Shows (start p) _ _ = record { ledger = c.start_ledger.ensures; pool = empty_pool p } in
    record { shows = shows; good = shows_good (start p) _ _ (start_sound p) shows }
