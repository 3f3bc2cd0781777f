-- `bench_reader::read_received` meets its contract: the data, and the count behind it.
-- Assumes nothing.
use Rattle.bench_reader.proofs.Following.{data_missed, data_long, count_missed, count_fits}
use Rattle.bench_reader.proofs.read_received.Goals as goal

pub returns-in_err-data : goal.returns-in_err-data
returns-in_err-data c = λ d x. rw c.from_residual.ensures (data_missed d x c.in_err-data.ensures)

pub returns-then-data-gt-DATA : goal.returns-then-data-gt-DATA
returns-then-data-gt-DATA c = λ d x. data_long d x c.in_ok-data.ensures c.if-data-gt-DATA.true

pub returns-in_err-left : goal.returns-in_err-left
returns-in_err-left c = λ d x. rw c.from_residual-in_err-left.ensures (count_missed d x c.in_ok-data.ensures c.in_err-left.ensures)

pub returns : goal.returns
returns c = λ d x. count_fits d x c.in_ok-data.ensures c.if-data-gt-DATA.false c.in_ok-left.ensures
