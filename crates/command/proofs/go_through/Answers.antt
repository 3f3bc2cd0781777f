-- `command::go_through` meets its contract: at every turn the objects before here are sorted.
-- Assumes nothing.
use Rattle.std.proofs.Common.{refl}
use Rattle.std.proofs.lemmas.Result.{err_from_is_err_and}
use Rattle.command.proofs.Sorting.{none_few, few_seen, sorting_start, sorting_on, sorted_end, sorted_fault}
use Rattle.command.proofs.go_through.Goals as goal

pub loop-c-init : goal.loop-c-init
loop-c-init c = sorting_start c.requires.1 c.requires.2 c.meet.ensures.after

pub meet-requires : goal.meet-requires
meet-requires c = (refl, refl, none_few _)

pub meet-requires-in-loop-c : goal.meet-requires-in-loop-c
meet-requires-in-loop-c c =
    let w = c.loop-c.invariant in
    (w.counts_long, w.starts_long, few_seen w c.in_ok-object.ensures c.requires.2 c.requires.0)

pub returns-in_err-object : goal.returns-in_err-object
returns-in_err-object c =
    let p = err_from_is_err_and c.from_residual.result c.from_residual.ensures.1 in
    rw p.1 (sorted_fault c.loop-c.invariant _ c.loop-c-test.true c.in_err-object.ensures)

pub loop-c-preserved : goal.loop-c-preserved
loop-c-preserved c =
    sorting_on c.loop-c.invariant c.in_ok-object.ensures c.requires.2 c.meet-in-loop-c.ensures.before c.meet-in-loop-c.ensures.after c.times.ensures
    c.fits-fit.ensures c.note.ensures

pub returns : goal.returns
returns c = sorted_end c.loop-c.invariant c.requires.1 c.requires.2 c.loop-c-test.false c.place-v.ensures c.place-v-2.ensures c.place-v-3.ensures c.place-v-4.ensures
