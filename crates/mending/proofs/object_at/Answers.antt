-- `mending::object_at` meets its contract: each answer is that of the law for its case.
-- Assumes nothing.
use Rattle.mending.proofs.Reading.{object_untagged, object_unsized, object_cut, object_stands}
use Rattle.mending.proofs.object_at.Goals as goal

pub returns-in_err-tag : goal.returns-in_err-tag
returns-in_err-tag c = rw c.from_residual.ensures (λ h. object_untagged c.args.s.now c.args.at h c.in_err-tag.ensures)

pub returns-in_err-length : goal.returns-in_err-length
returns-in_err-length c = rw c.from_residual-in_err-length.ensures (λ h. object_unsized _ _ c.in_ok-tag.ensures c.in_err-length.ensures)

pub returns-then-s-length : goal.returns-then-s-length
returns-then-s-length c = λ h. object_cut _ _ c.in_ok-tag.ensures c.in_ok-length.ensures c.if-s-length.true

pub returns : goal.returns
returns c = object_stands _ _ c.in_ok-tag.ensures c.in_ok-length.ensures c.if-s-length.false
