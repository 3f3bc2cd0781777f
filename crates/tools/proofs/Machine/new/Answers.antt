-- `tools::Machine::new` meets its contract: what it starts with is good.
-- Assumes nothing.
use mathlib.Core.Path.{refl}
use Rattle.tools.proofs.Starts.{start_shows, start_good}
use Rattle.tools.proofs.Machine.new.Goals as goal

pub invariant_of-result-2 : goal.invariant_of-result-2
invariant_of-result-2 c = record { good = start_good (start_shows c.start_ledger.ensures refl) c.start_gathered.ensures }

pub returns-clause-session : goal.returns-clause-session
returns-clause-session c = start_shows c.start_ledger.ensures refl
