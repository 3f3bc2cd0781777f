-- `own::receive` meets its contract: the law of each way out, at what it calls.
-- Assumes nothing.
use native.Mathlib.Omega.{arith}
use Rattle.rules.specs.declared.Way.TheVariants.{Receive}
use Rattle.session.specs.Changed.{held_in}
use Rattle.session.proofs.Facts.{bounds, held_within}
use Rattle.own.proofs.Replies.{receive_unopened, handed_few, handed_once, receive_done}
use Rattle.own.proofs.receive.Goals as goal

pub entry-c-requires : goal.entry-c-requires
entry-c-requires c = (c.requires.0.low, c.requires.0.high)

pub returns-then-c-lt1 : goal.returns-then-c-lt1
returns-then-c-lt1 c = receive_unopened _ _ _ c.requires.0 _ c.entry-c.ensures c.args.d c.args.request c.args.ignored _ _ _ c.if-c-lt1.true c.tell_problem.ensures

pub at_once-most-requires : goal.at_once-most-requires
at_once-most-requires c = (c.requires.0, c.entry-c.ensures)

pub overflow_sub-held : goal.overflow_sub-held
overflow_sub-held c = let f = handed_few _ _ _ c.requires.0 _ c.entry-c.ensures c.args.request _ _ _ c.min-handed.ensures c.min.ensures c.at_once-most.ensures in
    omega arith

pub start_of-at-requires : goal.start_of-at-requires
start_of-at-requires c = (c.requires.0.low, c.requires.0.high)

pub tell_received-count-requires : goal.tell_received-count-requires
tell_received-count-requires c = let f = handed_few _ _ _ c.requires.0 _ c.entry-c.ensures c.args.request _ _ _ c.min-handed.ensures c.min.ensures c.at_once-most.ensures in
    (omega (arith, c.requires.1), held_within _ _ _ c.requires.0 _ Receive _ _ c.entry-c.ensures c.start_of-at.ensures f.1)

pub remove-requires : goal.remove-requires
remove-requires c = record { numbered = (c.requires.0, c.entry-c.ensures, c.start_of-at.ensures); count_bound = handed_once _ _ _ c.requires.0 _ c.entry-c.ensures c.args.request _ _ _ c.min-handed.ensures c.min.ensures c.at_once-most.ensures }

pub returns : goal.returns
returns c = receive_done _ _ _ c.requires.0 _ c.entry-c.ensures c.args.request _ _ _ c.min-handed.ensures c.min.ensures c.at_once-most.ensures c.args.d c.args.ignored _ _ _ _ _ _ _ _
    c.if-c-lt1.false c.start_of-at.ensures c.remove.ensures c.short_or-result.ensures c.capped-left.ensures c.tell_received-count.ensures
