-- The tools: what each says of a line, what is kept between two lines, and the memory that holds it.
use Rattle.std.specs.Prelude.{Bool, true, false, List, [], ℕ}
use Rattle.rules.specs.State.{State, start}
use Rattle.rules.specs.Input.{Said, line_ends}
use Rattle.session.specs.Picture as session
use Rattle.fetch.specs.Gathers.{gathered_in, Gathers}
use Rattle.lines.specs.Asks.{calls_ends}
use Rattle.bench.specs.Printed.{bench_line}
use Rattle.details.specs.Printed.{details_line}
use Rattle.mending.specs.Printed.{mend_line}
use Rattle.csim.specs.Printed.{import_line, export_line}
use Rattle.alpha.specs.Printed.{alpha_read_line, alpha_write_line}
use Rattle.bursts.specs.Bursts.{Awaits, burst_ends}
use Rattle.flow.specs.Flow.{Ends}
use Rattle.flow.specs.Holds.{View}
use Rattle.tools.specs.declared.Tool.{Tool}
use Rattle.tools.specs.declared.Tool.TheVariants.{Lines, Calls, Bench, Details, Fetch, Mend, CsimImport, CsimExport, AlphaRead, AlphaWrite}

-- what is kept: whether the first line was read, the session's state, and the bytes gathered of a command
pub record Kept : Type 0 where
  pub begun : Bool
  pub state : State
  pub gathered : List ℕ

-- before the first line
abbrev pub first : Kept
first = record { begun = false; state = start []; gathered = [] }

-- the memory that is lent to the tools
pub record Memory : Type 0 where
  pub ledger : List ℕ
  pub pool : List ℕ
  pub gathered : List ℕ

abbrev pub memory : List ℕ → List ℕ → List ℕ → Memory
memory t p g = record { ledger = t; pool = p; gathered = g }

-- it came from its start and from lines
pub record GoodMemory (m : Memory) : Type 0 where
  pub session : session.GoodIn m.ledger m.pool
  pub gathers : Gathers m.gathered

-- what it shows
abbrev pub kept_in : View Memory Kept
kept_in b m = record { begun = b; state = session.shown m.ledger m.pool; gathered = gathered_in m.gathered }

-- a line that concerns the session alone
abbrev pub in_session : Kept → Said State → Said Kept
in_session k f = record { kept = record { begun = true; state = f.kept; gathered = k.gathered }; out = f.out }

-- one that concerns the gathered bytes, too
abbrev pub in_bursts : Said Awaits → Said Kept
in_bursts f = record { kept = record { begun = true; state = f.kept.state; gathered = f.kept.gathered }; out = f.out }

-- a line of a tool that keeps nothing
abbrev pub stays : Kept → List ℕ → Said Kept
stays k s = record { kept = record { begun = true; state = k.state; gathered = k.gathered }; out = s }

-- what a tool says of a line
unfoldable pub ends : Tool → Ends Kept
ends Lines k l = in_session k (line_ends k.begun k.state l)
ends Calls k l = in_session k (calls_ends k.begun k.state l)
ends Bench k l = stays k (bench_line l)
ends Details k l = stays k (details_line l)
ends Fetch k l = in_bursts (burst_ends k.begun (record { state = k.state; gathered = k.gathered }) l)
ends Mend k l = stays k (mend_line l)
ends CsimImport k l = stays k (import_line l)
ends CsimExport k l = stays k (export_line l)
ends AlphaRead k l = stays k (alpha_read_line l)
ends AlphaWrite k l = stays k (alpha_write_line l)
