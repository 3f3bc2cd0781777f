-- `tools::Machine::answer` meets its contract: each arm by what its tool concerns.
-- Assumes nothing.
use Rattle.tools.specs.Tools.{ends}
use Rattle.tools.proofs.Answering.{session_says, bursts_says, stays_says}
use Rattle.tools.proofs.Machine.answer.Goals as goal

pub returns-in-Lines-clause-says : goal.returns-in-Lines-clause-says
unfolding ends
returns-in-Lines-clause-says c = rw c.in-Lines.is (session_says c.end_line.ensures)

pub returns-in-Calls-clause-says : goal.returns-in-Calls-clause-says
unfolding ends
returns-in-Calls-clause-says c = rw c.in-Calls.is (session_says c.tell_call.ensures)

pub returns-in-Bench-clause-says : goal.returns-in-Bench-clause-says
unfolding ends
returns-in-Bench-clause-says c = rw c.in-Bench.is (stays_says c.tell_bench.ensures)

pub returns-in-Details-clause-says : goal.returns-in-Details-clause-says
unfolding ends
returns-in-Details-clause-says c = rw c.in-Details.is (stays_says c.tell_details.ensures)

pub returns-in-Fetch-clause-says : goal.returns-in-Fetch-clause-says
unfolding ends
returns-in-Fetch-clause-says c = rw c.in-Fetch.is (bursts_says c.tell_burst.ensures)

pub returns-in-Mend-clause-says : goal.returns-in-Mend-clause-says
unfolding ends
returns-in-Mend-clause-says c = rw c.in-Mend.is (stays_says c.tell_mended.ensures)

pub returns-in-CsimImport-clause-says : goal.returns-in-CsimImport-clause-says
unfolding ends
returns-in-CsimImport-clause-says c = rw c.in-CsimImport.is (stays_says c.tell_import.ensures)

pub returns-in-CsimExport-clause-says : goal.returns-in-CsimExport-clause-says
unfolding ends
returns-in-CsimExport-clause-says c = rw c.in-CsimExport.is (stays_says c.tell_export.ensures)

pub returns-in-AlphaRead-clause-says : goal.returns-in-AlphaRead-clause-says
unfolding ends
returns-in-AlphaRead-clause-says c = rw c.in-AlphaRead.is (stays_says c.tell_alpha_read.ensures)

pub returns-in-AlphaWrite-clause-says : goal.returns-in-AlphaWrite-clause-says
unfolding ends
returns-in-AlphaWrite-clause-says c = rw c.in-AlphaWrite.is (stays_says c.tell_alpha_write.ensures)
