-- `bench_reader::read_further` meets its contract, type by type.
-- Assumes nothing.
use native.Mathlib.Omega.{arith}
use Rattle.std.proofs.lemmas.Bool.Decides.{nat_tests}
use Rattle.rules.specs.Checks.{member, some_of}
use Rattle.bench_reader.proofs.Following.{followed_as, plain_fits, none_follows}
use Rattle.bench_reader.proofs.read_further.Goals as goal

pub returns-in_default : goal.returns-in_default
returns-in_default c = λ x. none_follows _ x c.args.s.now c.args.c.at _ c.in_default.ensures

pub returns-in-MoreTime : goal.returns-in-MoreTime
unfolding member some_of
returns-in-MoreTime c = λ x. plain_fits _ x _ _ _ (grind (arith, nat_tests))

pub returns-in-TimerManagement : goal.returns-in-TimerManagement
returns-in-TimerManagement c = λ x. followed_as _ x c.args.s.now c.args.c.at _ _ c.in-TimerManagement.is c.in-Ok.ensures (c.read_timer.ensures x)

pub returns-in-OpenChannel : goal.returns-in-OpenChannel
returns-in-OpenChannel c = λ x. followed_as _ x c.args.s.now c.args.c.at _ _ c.in-OpenChannel.is c.in-Ok.ensures (c.read_opened.ensures _ x)

pub returns-in-ReceiveData : goal.returns-in-ReceiveData
returns-in-ReceiveData c = λ x. followed_as _ x c.args.s.now c.args.c.at _ _ c.in-ReceiveData.is c.in-Ok.ensures (c.read_received.ensures _ x)

pub returns-in-SendData : goal.returns-in-SendData
returns-in-SendData c = λ x. followed_as _ x c.args.s.now c.args.c.at _ _ c.in-SendData.is c.in-Ok.ensures (c.read_sent.ensures _ x)

pub returns-in-GetChannelStatus : goal.returns-in-GetChannelStatus
returns-in-GetChannelStatus c = λ x. followed_as _ x c.args.s.now c.args.c.at _ _ c.in-GetChannelStatus.is c.in-Ok.ensures (c.read_statuses.ensures _ x)
