-- `command::plan_of` meets its contract: the plan of each type, tried against the rules, and none for a type that is not of the table.
-- Assumes nothing.
use mathlib.Core.Path.{refl}
use Rattle.rules.specs.Checks.{◌⇒◌else◌, every, some_of, member}
use Rattle.rules.specs.Timers.{is_start}
use Rattle.rules.specs.Table.{table, row_among, row_of, times, known}
use Rattle.rules.specs.Profile.{allows_type}
use Rattle.command.specs.Plans.{besides_by, times_by}
use Rattle.command.proofs.Tables.{rightly, plan_plain, plan_with, place_at, typed_kind}
use Rattle.command.proofs.plan_of.Goals as goal

pub returns-in-MoreTime : goal.returns-in-MoreTime
unfolding allows_type rightly known table row_among row_of is_start times times_by besides_by every member some_of ◌⇒◌else◌
returns-in-MoreTime c =
    let k = typed_kind _ _ _ _ c.try_from.ensures c.in_ok-ok.ensures.value c.in-MoreTime.is in
    plan_plain _ _ _ k (place_at _ _ _ k (λ q. refl) refl) refl refl refl

pub returns-in-SetUpEventList : goal.returns-in-SetUpEventList
unfolding allows_type rightly known table row_among row_of is_start times times_by besides_by every member some_of ◌⇒◌else◌
returns-in-SetUpEventList c =
    let k = typed_kind _ _ _ _ c.try_from.ensures c.in_ok-ok.ensures.value c.in-SetUpEventList.is in
    plan_plain _ _ _ k (place_at _ _ _ k (λ q. refl) refl) refl refl refl

pub returns-in-OpenChannel : goal.returns-in-OpenChannel
unfolding allows_type rightly known table row_among row_of is_start times times_by besides_by every member some_of ◌⇒◌else◌
returns-in-OpenChannel c =
    let k = typed_kind _ _ _ _ c.try_from.ensures c.in_ok-ok.ensures.value c.in-OpenChannel.is in
    let p = c.channel_plan-plan.ensures in
    plan_with _ _ _ p.handler_value p.row_value k p.place_value refl refl refl

pub returns-in-CloseChannel : goal.returns-in-CloseChannel
unfolding allows_type rightly known table row_among row_of is_start times times_by besides_by every member some_of ◌⇒◌else◌
returns-in-CloseChannel c =
    let k = typed_kind _ _ _ _ c.try_from.ensures c.in_ok-ok.ensures.value c.in-CloseChannel.is in
    let p = c.channel_plan-plan-in-CloseChannel.ensures in
    plan_with _ _ _ p.handler_value p.row_value k p.place_value refl refl refl

pub returns-in-ReceiveData : goal.returns-in-ReceiveData
unfolding allows_type rightly known table row_among row_of is_start times times_by besides_by every member some_of ◌⇒◌else◌
returns-in-ReceiveData c =
    let k = typed_kind _ _ _ _ c.try_from.ensures c.in_ok-ok.ensures.value c.in-ReceiveData.is in
    let p = c.channel_plan-plan-in-ReceiveData.ensures in
    plan_with _ _ _ p.handler_value p.row_value k p.place_value refl refl refl

pub returns-in-SendData : goal.returns-in-SendData
unfolding allows_type rightly known table row_among row_of is_start times times_by besides_by every member some_of ◌⇒◌else◌
returns-in-SendData c =
    let k = typed_kind _ _ _ _ c.try_from.ensures c.in_ok-ok.ensures.value c.in-SendData.is in
    let p = c.channel_plan-plan-in-SendData.ensures in
    plan_with _ _ _ p.handler_value p.row_value k p.place_value refl refl refl

pub returns-in-GetChannelStatus : goal.returns-in-GetChannelStatus
unfolding allows_type rightly known table row_among row_of is_start times times_by besides_by every member some_of ◌⇒◌else◌
returns-in-GetChannelStatus c =
    let k = typed_kind _ _ _ _ c.try_from.ensures c.in_ok-ok.ensures.value c.in-GetChannelStatus.is in
    let p = c.channel_plan-plan-in-GetChannelStatus.ensures in
    plan_with _ _ _ p.handler_value p.row_value k p.place_value refl refl refl
