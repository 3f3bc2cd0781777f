-- The machine before the first byte: a fresh session, and nothing gathered.
-- Assumes nothing.
use Prim.Native.Nat.{ℕ}
use mathlib.Core.Path.{◌≡◌, ◌∙◌}
use mathlib.Core.List.{List, []}
use lib.ListN.{replicate}
use Rattle.rules.specs.Pool.{pool_size}
use Rattle.rules.specs.State.{start}
use Rattle.rules.proofs.Soundness.{start_sound}
use Rattle.session.specs.Picture.{Shows, ledger_of}
use Rattle.session.proofs.Starts.{empty_pool}
use Rattle.session.proofs.Views.{shows_good}
use Rattle.fetch.specs.Gathers.{gathered_of}
use Rattle.fetch.proofs.Records.{none_lacks, gathers_of}
use Rattle.tools.specs.Tools.{memory, GoodMemory}

pub start_shows : {t p : List ℕ} → t ≡ ledger_of (start []) → p ≡ replicate pool_size 0 → Shows (start []) t p
start_shows e f = record { ledger = e; pool = f ∙ empty_pool [] }

pub start_good : {t p g : List ℕ} → Shows (start []) t p → g ≡ gathered_of [] → GoodMemory (memory t p g)
start_good {t} {p} {g} s h = record { session = shows_good (start []) t p (start_sound []) s; gathers = gathers_of g [] h none_lacks }
