-- `bench_reader::read_bearer` meets its contract: a bearer of its length, and a grant from 1 to 1500.
-- Assumes nothing.
use mathlib.Core.Path.{sym, ◌∙◌}
use native.Mathlib.Omega.{arith}
use Rattle.bench_reader.proofs.Following.{bearer_missed, bearer_empty, bearer_unfit, grant_missed, grant_unfit, grant_fits}
use Rattle.bench_reader.proofs.read_bearer.Goals as goal

pub returns-in_err-object : goal.returns-in_err-object
returns-in_err-object c = λ d x. rw c.from_residual.ensures (bearer_missed d x _ c.in_err-object.ensures)

pub returns-in_err-bearer : goal.returns-in_err-bearer
returns-in_err-bearer c = λ d x. rw c.from_residual-in_err-bearer.ensures (bearer_empty d x _ c.in_ok-object.ensures c.in_err-bearer.ensures.cases)

pub returns-then-not-fits_bearer : goal.returns-then-not-fits_bearer
returns-then-not-fits_bearer c =
    λ d x. bearer_unfit d x _ c.in_ok-object.ensures c.in_ok-bearer.ensures.cases.0 (sym c.fits_bearer.ensures ∙ c.if-not-fits_bearer.true)

pub returns-in_err-pair : goal.returns-in_err-pair
returns-in_err-pair c =
    λ d x.
    rw c.from_residual-in_err-pair.ensures
    (grant_missed d x _ c.in_ok-object.ensures c.in_ok-bearer.ensures.cases.0 (sym c.fits_bearer.ensures ∙ c.if-not-fits_bearer.false) c.in_err-pair.ensures)

pub returns-then-grant-lt1 : goal.returns-then-grant-lt1
returns-then-grant-lt1 c =
    λ d x.
    grant_unfit d x _ c.in_ok-object.ensures c.in_ok-bearer.ensures.cases.0 (sym c.fits_bearer.ensures ∙ c.if-not-fits_bearer.false) c.in_ok-pair.ensures c.from_be_bytes-grant.ensures
    (λ o. let e = c.then-grant-lt1.either in omega arith)

pub returns : goal.returns
returns c =
    λ d x.
    grant_fits d x _ c.in_ok-object.ensures c.in_ok-bearer.ensures.cases.0 (sym c.fits_bearer.ensures ∙ c.if-not-fits_bearer.false) c.in_ok-pair.ensures c.from_be_bytes-grant.ensures
    (omega arith, omega arith)
