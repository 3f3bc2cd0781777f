-- `fetch::start_gathered` meets its contract: a record of zeros has nothing gathered.
-- Assumes nothing.
use Rattle.octets.specs.Parts.{pad}
use Rattle.fetch.specs.Gathers.{gathered_of}
use Rattle.fetch.proofs.start_gathered.Goals as goal

pub returns : goal.returns
unfolding gathered_of pad
returns c = mathlib.Core.Path.refl
