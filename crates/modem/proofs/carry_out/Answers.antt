-- `modem::carry_out` meets its contract: each handler ends as its own checks come to.
-- Assumes nothing.
use mathlib.Core.Path.{refl}
use native.Mathlib.Omega.{arith}
use borrow.Author.Tests.{eqb-true}
use Rattle.objects.proofs.Alike.{part_size}
use Rattle.rules.specs.Checks.{some_of, member}
use Rattle.rules.specs.Reading.{to_modem}
use Rattle.command.specs.declared.Handler.TheVariants.{Close, Receive, Send}
use Rattle.modem.proofs.Obeying.{bare_answers, events_answers, open_answers, close_answers, receive_answers, send_answers, start_answers, manage_answers, one_byte, start_byte, start_time, manage_byte, opens, numbered}
use Rattle.modem.proofs.carry_out.Goals as goal

pub size_at-requires : goal.size_at-requires
size_at-requires c = (opens _ _ _ c.args.q c.requires.0 c.requires.1 c.in-Open.is).size_within

pub protocol_at-requires : goal.protocol_at-requires
protocol_at-requires c = (opens _ _ _ c.args.q c.requires.0 c.requires.1 c.in-Open.is).protocol_within

pub open-requires : goal.open-requires
open-requires c = (c.requires.0, c.requires.2, (opens _ _ _ c.args.q c.requires.0 c.requires.1 c.in-Open.is).bearer)

pub close-requires : goal.close-requires
unfolding to_modem member some_of
close-requires c = (numbered _ _ _ c.args.q c.requires.0 c.requires.1 _ Close c.from-n.ensures c.in-Close.is 0x41 (eqb-true _ 0x41) refl, c.requires.2)

pub bounds-s-start : goal.bounds-s-start
bounds-s-start c = let l = one_byte _ _ _ c.args.q c.requires.0 c.requires.1 c.in-Receive.is in
    omega arith

pub receive-requires : goal.receive-requires
unfolding to_modem member some_of
receive-requires c = (numbered _ _ _ c.args.q c.requires.0 c.requires.1 _ Receive c.from-n.ensures c.in-Receive.is 0x42 (eqb-true _ 0x42) refl, c.requires.2)

pub send-requires : goal.send-requires
unfolding to_modem member some_of
send-requires c = (numbered _ _ _ c.args.q c.requires.0 c.requires.1 _ Send c.from-n.ensures c.in-Send.is 0x43 (eqb-true _ 0x43) refl, c.requires.2)

pub bounds-s-start-in-StartTimer : goal.bounds-s-start-in-StartTimer
bounds-s-start-in-StartTimer c = let l = start_byte _ _ _ c.args.q c.requires.0 c.requires.1 c.in-StartTimer.is in
    omega arith

pub overflow_add-further : goal.overflow_add-further
overflow_add-further c = omega (arith, start_time _ _ _ c.args.q c.requires.0 c.requires.1 c.in-StartTimer.is)

pub slice_bounds-start_timer-end : goal.slice_bounds-start_timer-end
slice_bounds-start_timer-end c = omega (arith, start_time _ _ _ c.args.q c.requires.0 c.requires.1 c.in-StartTimer.is)

pub start_timer-requires : goal.start_timer-requires
start_timer-requires c = let l = start_time _ _ _ c.args.q c.requires.0 c.requires.1 c.in-StartTimer.is in
    (c.requires.0, part_size c.args.s.now c.args.q.further 3 l, c.requires.2)

pub bounds-s-start-in-ManageTimer : goal.bounds-s-start-in-ManageTimer
bounds-s-start-in-ManageTimer c = let l = manage_byte _ _ _ c.args.q c.requires.0 c.requires.1 c.in-ManageTimer.is in
    omega arith

pub manage_timer-requires : goal.manage_timer-requires
manage_timer-requires c = (c.requires.0, c.requires.2)

pub returns-in-Bare : goal.returns-in-Bare
returns-in-Bare c = bare_answers _ _ _ c.args.q c.requires.0 c.requires.1 _ _ _ _ _ c.in-Bare.is c.tell.ensures

pub returns-in-EventList : goal.returns-in-EventList
returns-in-EventList c = events_answers _ _ _ c.args.q c.requires.0 c.requires.1 _ _ _ _ _ c.in-EventList.is c.list_events.ensures

pub returns-in-Open : goal.returns-in-Open
returns-in-Open c = open_answers _ _ _ c.args.q c.requires.0 c.requires.1 _ _ _ _ _ c.in-Open.is c.size_at.ensures c.protocol_at.ensures c.open.ensures

pub returns-in-Close : goal.returns-in-Close
returns-in-Close c = close_answers _ _ _ c.args.q c.requires.0 c.requires.1 _ _ _ _ _ _ c.from-n.ensures c.in-Close.is c.close.ensures

pub returns-in-Receive : goal.returns-in-Receive
returns-in-Receive c = receive_answers _ _ _ c.args.q c.requires.0 c.requires.1 _ _ _ _ _ _ c.from-n.ensures c.in-Receive.is c.receive.ensures

pub returns-in-Send : goal.returns-in-Send
returns-in-Send c = send_answers _ _ _ c.args.q c.requires.0 c.requires.1 _ _ _ _ _ _ c.from-n.ensures c.in-Send.is c.send.ensures

pub returns-in-StartTimer : goal.returns-in-StartTimer
returns-in-StartTimer c = start_answers _ _ _ c.args.q c.requires.0 c.requires.1 _ _ _ _ _ c.in-StartTimer.is refl c.start_timer.ensures

pub returns-in-ManageTimer : goal.returns-in-ManageTimer
returns-in-ManageTimer c = manage_answers _ _ _ c.args.q c.requires.0 c.requires.1 _ _ _ _ _ c.in-ManageTimer.is c.manage_timer.ensures
