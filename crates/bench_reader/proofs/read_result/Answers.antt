-- `bench_reader::read_result` meets its contract: one byte, a success and what follows or an error; or 3A and its cause.
-- Assumes nothing.
use mathlib.Core.Path.{refl, sym, ◌∙◌}
use native.Mathlib.Omega.{arith}
use Rattle.bench_reader.proofs.Standing.{bytes_from, pair_there, hears_none}
use Rattle.bench_reader.proofs.Ruling.{result_missed, success_fits, error_fits, problem_fits, leads_on}
use Rattle.bench_reader.proofs.read_result.Goals as goal

pub returns-in_err-object : goal.returns-in_err-object
returns-in_err-object c = rw c.from_residual.ensures (result_missed _ c.in_err-object.ensures)

pub returns-in_err-further-in-len1 : goal.returns-in_err-further-in-len1
returns-in_err-further-in-len1 c =
    let w = bytes_from c.in_ok-object.ensures 1 refl (omega arith) c.type_inv.s in
    rw c.from_residual-in_err-further-in-len1.ensures (hears_none (success_fits _ w (sym c.fits_success.ensures ∙ c.if-fits_success.true) ∙ c.in_err-further-in-len1.ensures _))

pub last-requires : goal.last-requires
last-requires c = (c.in_ok-further-in-len1.ensures 0).at

pub returns-in_ok-further-in-len1 : goal.returns-in_ok-further-in-len1
returns-in_ok-further-in-len1 c =
    let w = bytes_from c.in_ok-object.ensures 1 refl (omega arith) c.type_inv.s in
    leads_on _ _ (success_fits _ w (sym c.fits_success.ensures ∙ c.if-fits_success.true)) (c.in_ok-further-in-len1.ensures _) c.last.ensures

pub returns-in-len1-2 : goal.returns-in-len1-2
returns-in-len1-2 c =
    let w = bytes_from c.in_ok-object.ensures 1 refl (omega arith) c.type_inv.s in
    error_fits _ w (sym c.fits_error.ensures ∙ c.if-fits_error.true) c.last-in-len1-2.ensures

pub returns-in-58 : goal.returns-in-58
returns-in-58 c =
    let w = bytes_from c.in_ok-object.ensures 2 refl (omega arith) c.type_inv.s in
    problem_fits _ (pair_there w) (omega arith) (sym c.fits_cause.ensures ∙ c.if-fits_cause.true) c.last-in-58.ensures
