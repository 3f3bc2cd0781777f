-- `bench::print_objects` meets its contract: what is printed from here completes the line.
-- Assumes nothing.
use Rattle.bench.proofs.Objects.{going_on, going_end}
use Rattle.bench.proofs.print_objects.Goals as goal

pub loop-object-preserved : goal.loop-object-preserved
loop-object-preserved c = going_on c.in-Ok.ensures c.loop-object.invariant c.print_object-end.ensures

pub returns : goal.returns
returns c = going_end _ c.loop-object.invariant c.in_default.ensures c.print_char.ensures
