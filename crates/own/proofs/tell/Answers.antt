-- `own::tell` meets its contract: the statuses, or nothing.
-- Assumes nothing.
use native.Mathlib.Omega.{arith}
use Rattle.session.proofs.Facts.{good_table}
use Rattle.own.proofs.Telling.{tell_status, tell_nothing}
use Rattle.own.proofs.tell.Goals as goal

pub tell_statuses-requires : goal.tell_statuses-requires
tell_statuses-requires c = (good_table _ _ c.requires.0, omega (arith, c.requires.1))

pub returns-then-d-eq-GET_CHANNEL_STATUS : goal.returns-then-d-eq-GET_CHANNEL_STATUS
returns-then-d-eq-GET_CHANNEL_STATUS c = tell_status _ _ c.requires.0 _ _ _ _ _ _ c.plain.ensures c.if-d-eq-GET_CHANNEL_STATUS.true c.tell_statuses.ensures

pub returns : goal.returns
returns c = tell_nothing _ _ c.requires.0 _ _ _ _ _ _ c.plain-2.ensures c.if-d-eq-GET_CHANNEL_STATUS.false c.tell_result.ensures
