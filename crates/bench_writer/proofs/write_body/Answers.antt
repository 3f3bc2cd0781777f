-- `bench_writer::write_body` meets its contract: an arm for each type.
-- Assumes nothing.
use mathlib.Core.Logic.{⊎_elim}
use native.Mathlib.Omega.{arith}
use Rattle.rules.specs.Bench.{body_objects}
use Rattle.bench_writer.specs.Records.{body_of}
use Rattle.bench_writer.proofs.Writes.{unwritten, flagged_alone}
use Rattle.bench_writer.proofs.write_body.Goals as goal

pub returns-in-Bare : goal.returns-in-Bare
unfolding body_objects body_of
returns-in-Bare c = let w = unwritten c.args.at c.args.out.now (omega arith) in ⊎_elim (λ e. rw e.1 w) (λ e. rw e w) c.in-Bare.is

pub returns-in-EventList : goal.returns-in-EventList
unfolding body_objects body_of
returns-in-EventList c = rw c.in-EventList.is (flagged_alone 0x19 _ _ _ _ _ c.write_object.ensures)

pub returns-in-Receive : goal.returns-in-Receive
unfolding body_objects body_of
returns-in-Receive c = rw c.in-Receive.is (flagged_alone 0x37 _ _ _ _ _ c.write_object-in-Receive.ensures)

pub returns-in-Send : goal.returns-in-Send
unfolding body_objects body_of
returns-in-Send c = rw c.in-Send.is (flagged_alone 0x36 _ _ _ _ _ c.write_object-in-Send.ensures)
