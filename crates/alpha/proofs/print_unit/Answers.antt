-- `alpha::print_unit` meets its contract: its two bytes in hex.
-- Assumes nothing.
use native.Mathlib.Omega.{arith}
use mathlib.Core.Path.{ap, ◌∙◌}
use Rattle.rules.specs.Lines.{hex}
use Rattle.text.proofs.Printing.{prints_as}
use Rattle.alpha.specs.Printed.{unit_text}
use Rattle.alpha.proofs.Codings.{halves}
use Rattle.alpha.proofs.print_unit.Goals as goal

pub returns : goal.returns
unfolding unit_text
returns c = prints_as (ap hex (c.to_be_bytes.ensures ∙ halves _ (omega arith))) c.print_bytes.ensures
