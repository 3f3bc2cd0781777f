-- `alpha::split_unit` meets its contract: nothing, an escape and what stands behind it, another byte that is no code, or a code.
-- Assumes nothing.
use native.Mathlib.Omega.{arith}
use mathlib.Core.Path.{sym, ap}
use lib.ListN.{get_or}
use Rattle.alpha.specs.Alphabet.{table, unit_of}
use Rattle.alpha.proofs.Defaults.{splits_none, plain_below, stops_empty, stops_dangling, stops_unassigned, stops_other, goes_extended, goes_plain}
use Rattle.alpha.proofs.split_unit.Goals as goal

pub returns-in_err-first : goal.returns-in_err-first
returns-in_err-first c = splits_none _ _ c.from_residual.ensures (stops_empty _ c.in_err-first.ensures.cases)

pub returns-in_err-code : goal.returns-in_err-code
returns-in_err-code c =
    splits_none _ _ c.from_residual-in_err-code.ensures
    (stops_dangling _ _ _ c.in_ok-first.ensures.cases.0 c.if-first-eq-ESCAPE.true c.in_err-code.ensures.cases)

pub returns-in_err-extension : goal.returns-in_err-extension
returns-in_err-extension c =
    splits_none _ _ c.from_residual-in_err-extension.ensures
    (stops_unassigned _ _ _ c.in_ok-first.ensures.cases.0 c.if-first-eq-ESCAPE.true _ _ c.in_ok-code.ensures.cases.0 c.in_err-extension.ensures)

pub returns-then-first-eq-ESCAPE : goal.returns-then-first-eq-ESCAPE
returns-then-first-eq-ESCAPE c =
    goes_extended _ _ _ c.in_ok-first.ensures.cases.0 c.if-first-eq-ESCAPE.true _ _ c.in_ok-code.ensures.cases.0 _ c.in_ok-extension.ensures

pub returns-then-not-is_plain_code : goal.returns-then-not-is_plain_code
returns-then-not-is_plain_code c =
    stops_other _ _ _ c.in_ok-first.ensures.cases.0 c.if-first-eq-ESCAPE.false (sym c.if-not-is_plain_code.ensures)

pub bounds-from : goal.bounds-from
bounds-from c = omega (arith, plain_below _ (sym c.if-not-is_plain_code.ensures), c.from.ensures)

pub returns : goal.returns
unfolding table unit_of
returns c =
    goes_plain _ _ _ c.in_ok-first.ensures.cases.0 _ (sym c.if-not-is_plain_code.ensures)
    (ap (λ i. get_or table i 0) c.from.ensures)
