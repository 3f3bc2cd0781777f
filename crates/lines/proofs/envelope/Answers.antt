-- `lines::envelope` meets its contract: by the number of bytes, over the front of the reply.
-- Assumes nothing.
use mathlib.Core.Path.{sym, ◌∙◌}
use native.Mathlib.Omega.{arith}
use Rattle.rules.specs.Run.{step}
use Rattle.lines.proofs.Telling.{front_size}
use Rattle.lines.proofs.Timing.{envelope_one, envelope_sized, envelope_none}
use Rattle.lines.proofs.envelope.Goals as goal

pub returns-then-frame-eq1 : goal.returns-then-frame-eq1
unfolding step
returns-then-frame-eq1 c = envelope_one _ _ c.requires.0 c.args.frame.now c.args.reply.now _ _ _ _ _ _ c.envelope_in.ensures c.if-frame-eq1.true (sym (front_size 14 c.args.reply.now c.requires.1 (omega arith)))

pub returns-then-frame-ne2 : goal.returns-then-frame-ne2
returns-then-frame-ne2 c = envelope_none _ _ c.requires.0 c.args.frame.now c.args.reply.now c.if-frame-eq1.false c.if-frame-ne2.true

pub returns : goal.returns
unfolding step
returns c = envelope_sized _ _ c.requires.0 c.args.frame.now c.args.reply.now _ _ _ _ _ _ c.envelope_in-2.ensures c.if-frame-ne2.false
    (sym (front_size _ c.args.reply.now c.requires.1 (omega (arith, c.type_inv.frame 1))) ∙ c.from-size.ensures)
