-- `own::list_events` meets its contract: the law of each way out, at what it calls.
-- Assumes nothing.
use native.Mathlib.Omega.{arith}
use Rattle.session.proofs.Facts.{good_table}
use Rattle.own.proofs.Events.{list_forbidden, list_done}
use Rattle.own.proofs.list_events.Goals as goal

pub all_allowed-requires : goal.all_allowed-requires
all_allowed-requires c = let l = good_table _ _ c.requires.0 in omega arith

pub returns-then-not-all_allowed : goal.returns-then-not-all_allowed
returns-then-not-all_allowed c = list_forbidden _ c.args.session.now.pool c.args.events.now c.args.ignored _ c.all_allowed.ensures c.requires.0 c.args.d _ _ _ (c.if-not-all_allowed.true) c.tell_result.ensures

pub returns : goal.returns
returns c = list_done _ c.args.session.now.pool c.args.events.now c.args.ignored _ c.all_allowed.ensures c.requires.0 c.args.d _ _ _ _ _ _ (c.if-not-all_allowed.false)
    c.lists.ensures c.lists-2.ensures c.set_events.ensures c.plain.ensures c.tell_result-2.ensures
