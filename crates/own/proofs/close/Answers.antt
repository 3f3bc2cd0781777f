-- `own::close` meets its contract: the law of each way out, at what it calls.
-- Assumes nothing.
use Rattle.session.specs.declared.Channel.{Channel}
use mathlib.Core.Path.{ap}
use Rattle.session.proofs.Facts.{bounds}
use Rattle.own.proofs.Replies.{close_unopened, close_done}
use Rattle.own.proofs.close.Goals as goal

pub entry-c-requires : goal.entry-c-requires
entry-c-requires c = (c.requires.0.low, c.requires.0.high)

pub returns-then-c-lt1 : goal.returns-then-c-lt1
returns-then-c-lt1 c = close_unopened _ _ _ c.requires.0 _ c.entry-c.ensures c.args.d c.args.ignored _ _ _ c.if-c-lt1.true c.tell_problem.ensures

pub close_channel-requires : goal.close_channel-requires
close_channel-requires c = (c.requires.0, ap (λ (x : Channel). x.grant) c.entry-c.ensures)

pub returns : goal.returns
returns c = close_done _ _ _ c.requires.0 _ c.entry-c.ensures c.args.d c.args.ignored _ _ _ _ _ _ c.if-c-lt1.false c.close_channel.ensures c.plain.ensures c.tell_result.ensures
