-- `text::print_bytes` meets its contract: each turn prints two digits more.
-- Assumes nothing.
use lib.ListN.{take}
use Rattle.rules.specs.Lines.{hex}
use Rattle.text.specs.Prints.{Prints}
use Rattle.text.proofs.print_bytes.Given as goal

abbrev pub invariant-loop-b : goal.invariant-loop-b
invariant-loop-b l = Prints (hex (take l.b-index l.bytes)) l.end l.initial.out l.at l.out
