-- `lines::pass_seconds` meets its contract: each turn one second more.
-- Assumes nothing.
use Rattle.lines.proofs.Timing.{later_none, later_more}
use Rattle.lines.proofs.pass_seconds.Goals as goal

pub loop-init : goal.loop-init
loop-init c = record { began = c.requires; passed = later_none _ _ c.requires }

pub loop-preserved : goal.loop-preserved
loop-preserved c = let so = c.loop.invariant in record { began = so.began; passed = later_more _ _ _ _ _ _ so.began.sound so.passed c.pass_second.ensures }
