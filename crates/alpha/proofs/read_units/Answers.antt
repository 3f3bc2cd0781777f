-- `alpha::read_units` meets its contract: none, an unreadable line, or units at the front of the buffer.
-- Assumes nothing.
use native.Mathlib.Omega.{arith}
use mathlib.Core.Path.{sym}
use Rattle.std.proofs.Common.{rules, tests, Some, None}
use Rattle.alpha.specs.Printed.{units_of}
use Rattle.alpha.proofs.Lines.{ToldUnits, told_blank, told_dashes, told_long, told_unread, told_fits, told_units}
use Rattle.alpha.proofs.read_units.Goals as goal
use Rattle.alpha.proofs.read_units.Goals.{then-is_empty-via-then-is_empty, then-is_empty-via-else-is_empty+then-eq, then-line-gt-LINE-via-then-line-gt-LINE, then-line-gt-LINE-via-else-line-gt-LINE+then-not-are_units}

pub returns-then-is_empty : goal.returns-then-is_empty
returns-then-is_empty c =
    let e : ToldUnits (Some 0) (units_of c.args.line.now) c.args.out.now c.args.out.now =
    elim c.then-is_empty.branch [
      | then-is_empty-via-then-is_empty w ↦ told_blank _ _ (search (rules, tests))
      | then-is_empty-via-else-is_empty+then-eq w ↦ told_dashes _ _ (search (rules, tests))
    ] in
    record { value = e.0; out_after = e.1 }

pub returns-then-line-gt-LINE : goal.returns-then-line-gt-LINE
returns-then-line-gt-LINE c =
    let e : ToldUnits None (units_of c.args.line.now) c.args.out.now c.args.out.now =
    elim c.then-line-gt-LINE.branch [
      | then-line-gt-LINE-via-then-line-gt-LINE w ↦ told_long _ _ (search (rules, tests)) (search (rules, tests)) (omega arith)
      | then-line-gt-LINE-via-else-line-gt-LINE+then-not-are_units w ↦
          told_unread _ _ (search (rules, tests)) (search (rules, tests)) (omega arith) w.if-not-are_units.ensures
    ] in
    record { value = e.0; out_after = e.1 }

pub fill_units-requires : goal.fill_units-requires
fill_units-requires c = (
  omega arith,
  sym c.if-not-are_units.ensures,
  told_fits _ c.args.out.now (search (rules, tests)) (search (rules, tests)) (omega arith) c.if-not-are_units.ensures c.requires,
)

pub returns : goal.returns
returns c =
    let e = told_units _ c.args.out.now (search (rules, tests)) (search (rules, tests)) (omega arith) c.if-not-are_units.ensures _ c.fill_units.ensures in
    record { value = e.0; out_after = e.1 }
