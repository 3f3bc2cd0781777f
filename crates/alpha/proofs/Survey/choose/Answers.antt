-- `alpha::Survey::choose` meets its contract: test by test.
-- Assumes nothing.
use native.Mathlib.Omega.{arith}
use Rattle.alpha.proofs.Surveys.{choose_many, choose_low, choose_block, choose_even, choose_base, choose_last}
use Rattle.alpha.proofs.Survey.choose.Goals as goal

pub returns-then-n-gt-COUNT : goal.returns-then-n-gt-COUNT
returns-then-n-gt-COUNT c = choose_many _ _ _ c.first_form-first.ensures (omega arith)

pub returns-then-over-le-BLOCK_HEAD : goal.returns-then-over-le-BLOCK_HEAD
returns-then-over-le-BLOCK_HEAD c = choose_low _ _ _ c.first_form-first.ensures (omega arith) _ c.unwrap_or-over.ensures (omega arith)

pub returns-in-Some : goal.returns-in-Some
returns-in-Some c = choose_block _ _ _ c.first_form-first.ensures (omega arith) _ c.unwrap_or-over.ensures (omega arith) _ c.in-Some.ensures

pub returns-then-over-le-BASE_HEAD : goal.returns-then-over-le-BASE_HEAD
returns-then-over-le-BASE_HEAD c =
    choose_even _ _ _ c.first_form-first.ensures (omega arith) _ c.unwrap_or-over.ensures (omega arith) c.in_default.ensures (omega arith)

pub returns-then-base-self : goal.returns-then-base-self
returns-then-base-self c =
    choose_base _ _ _ c.first_form-first.ensures (omega arith) _ c.unwrap_or-over.ensures (omega arith) c.in_default.ensures (omega arith) _
    c.saturating_sub-base.ensures (omega arith)

pub returns : goal.returns
returns c =
    choose_last _ _ _ c.first_form-first.ensures (omega arith) _ c.unwrap_or-over.ensures (omega arith) c.in_default.ensures (omega arith) _
    c.saturating_sub-base.ensures (omega arith)
