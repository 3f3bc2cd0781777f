-- `mending::print_outer` meets its contract: L for another number and for the longer form, or nothing.
-- Assumes nothing.
use Rattle.std.proofs.Common.{arith, ⊎_elim}
use Rattle.text.proofs.Printing.{prints_as, decimal_few}
use Rattle.mending.proofs.Left.{prints_none, other_text, longer_text, right_text}
use Rattle.mending.proofs.print_outer.Goals as goal

pub print_change-requires : goal.print_change-requires
print_change-requires c = (omega arith, omega (arith, c.requires, decimal_few 1))

pub returns-then-outer-count : goal.returns-then-outer-count
returns-then-outer-count c =
    let o = c.args.outer in
    prints_as (⊎_elim (other_text o.said o.kept c.args.count) (λ h. longer_text o.said o.kept c.args.count h.0 h.1) c.then-outer-count.either) c.print_change.ensures

pub returns : goal.returns
returns c = prints_as (right_text c.args.outer.said c.args.outer.kept c.args.count c.if-outer-count.false c.if-outer-ne-OUTER.false) (prints_none _ _)
