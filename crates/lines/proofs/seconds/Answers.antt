-- `lines::seconds` meets its contract: by the number of bytes.
-- Assumes nothing.
use mathlib.Core.Path.{◌∙◌}
use Rattle.lines.proofs.Timing.{seconds_one, seconds_none, seconds_many, count_is}
use Rattle.lines.proofs.seconds.Goals as goal

pub returns-then-frame-eq1 : goal.returns-then-frame-eq1
returns-then-frame-eq1 c = seconds_one _ _ c.requires.0 c.args.frame.now c.args.reply.now _ _ c.if-frame-eq1.true c.pass_seconds.ensures

pub returns-then-frame-ne3 : goal.returns-then-frame-ne3
returns-then-frame-ne3 c = seconds_none _ _ c.requires.0 c.args.frame.now c.args.reply.now c.if-frame-eq1.false c.if-frame-ne3.true

pub returns : goal.returns
returns c = seconds_many _ _ c.requires.0 c.args.frame.now c.args.reply.now _ _ _ (c.from.ensures ∙ c.from_be_bytes-count.ensures ∙ count_is c.args.frame.now) c.if-frame-ne3.false c.pass_seconds-2.ensures
