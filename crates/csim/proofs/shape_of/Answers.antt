-- `csim::shape_of` meets its contract: a law for each test.
-- Assumes nothing.
use Rattle.csim.proofs.Shapes.{unopened, uncounted, unquoted, unended, unclosed, closed}
use Rattle.csim.proofs.shape_of.Goals as goal

pub returns-then-not-starts_with-clause-value : goal.returns-then-not-starts_with-clause-value
returns-then-not-starts_with-clause-value c = search unopened

pub returns-then-k-eq0-clause-value : goal.returns-then-k-eq0-clause-value
returns-then-k-eq0-clause-value c = search uncounted

pub returns-then-not-starts_with-2-clause-value : goal.returns-then-not-starts_with-2-clause-value
returns-then-not-starts_with-2-clause-value c = search unquoted

pub returns-then-text-k-clause-value : goal.returns-then-text-k-clause-value
returns-then-text-k-clause-value c = search unended

pub returns-then-not-ends_with-clause-value : goal.returns-then-not-ends_with-clause-value
returns-then-not-ends_with-clause-value c = search unclosed

pub returns-clause-value : goal.returns-clause-value
returns-clause-value c = search closed
