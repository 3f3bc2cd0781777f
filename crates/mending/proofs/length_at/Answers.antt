-- `mending::length_at` meets its contract: as the rules read it, or 81 and a byte below 80.
-- Assumes nothing.
use Rattle.std.proofs.Common.{◌<◌, ◌∙◌, ap, length, drop, length-drop, arith, rules}
use borrow.Author.Rules.{part_to_end}
use Rattle.mending.proofs.Reading.{no_second, no_other, length_strict, length_overlong}
use Rattle.mending.proofs.length_at.Goals as goal
use Rattle.mending.proofs.length_at.Goals.{then-rest-lt2-via-then-rest-lt2, then-rest-lt2-via-else-rest-lt2+then-rest}

pub returns-in-Some : goal.returns-in-Some
returns-in-Some c = length_strict _ _ c.in-Some.ensures

pub returns-in_err-rest : goal.returns-in_err-rest
returns-in_err-rest c =
    let size = length-drop c.args.at c.args.s.now in
    let past = c.in_err-rest.ensures.lookup.0 in
    let short : length (drop c.args.at c.args.s.now) < 2 = grind arith in
    let e = no_second _ c.in_default.ensures short in
    search rules

pub returns-then-rest-lt2 : goal.returns-then-rest-lt2
returns-then-rest-lt2 c =
    let is = c.in_ok-rest.ensures.lookup.0.2 ∙ part_to_end c.args.s.now c.args.at in
    elim c.then-rest-lt2.branch [
      | then-rest-lt2-via-then-rest-lt2 w ↦ no_second _ c.in_default.ensures (let size = ap length is in omega (arith, w.if-rest-lt2.true))
      | then-rest-lt2-via-else-rest-lt2+then-rest w ↦ no_other _ c.in_default.ensures (rw is at w.if-rest.true)
    ]

pub returns : goal.returns
returns c =
    rw c.from.ensures
    (length_overlong _ _ c.in_ok-rest.rest.now (c.in_ok-rest.ensures.lookup.0.2 ∙ part_to_end c.args.s.now c.args.at) c.in_default.ensures c.if-rest-lt2.false c.if-rest.false)
