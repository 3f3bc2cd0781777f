-- `text::print_bytes` meets its contract: each turn prints two digits more.
-- Assumes nothing.
use native.Mathlib.Omega.{arith}
use Rattle.octets.proofs.Stores.{paste_none}
use Rattle.rules.specs.Lines.{hex}
use Rattle.text.proofs.Printing.{hexed_size, hexed_more}
use Rattle.text.proofs.print_bytes.Goals as goal

pub loop-b-init : goal.loop-b-init
unfolding hex
loop-b-init c = record { stands = paste_none _ _; place = omega arith }

pub print_char-end-requires : goal.print_char-end-requires
print_char-end-requires c = omega (arith, hexed_size c.args.bytes.now c.loop-b.b-index)

pub print_char-end-requires-in-loop-b : goal.print_char-end-requires-in-loop-b
print_char-end-requires-in-loop-b c = omega (arith, hexed_size c.args.bytes.now c.loop-b.b-index)

pub loop-b-preserved : goal.loop-b-preserved
loop-b-preserved c = hexed_more c.args.bytes.now c.loop-b.b-index c.loop-b.invariant c.print_char-end.ensures c.print_char-end-in-loop-b.ensures (omega arith) (omega arith) c.digit.ensures c.digit-in-loop-b.ensures
