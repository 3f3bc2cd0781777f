-- `objects::Cursor::object` meets its contract: each answer is that of the law for its case.
-- Assumes nothing.
use Rattle.std.proofs.Common.{◌≡◌}
use Rattle.std.proofs.lemmas.Result.{err_from_is_err_and}
use Rattle.rules.specs.declared.Ending.TheVariants.{BadTag, BadLength}
use Rattle.objects.proofs.Reading.{object_untagged, object_unsized, object_cut, object_stands}
use Rattle.objects.proofs.Cursor.object.Goals as goal

pub returns-in_err-tag : goal.returns-in_err-tag
returns-in_err-tag c =
    let p = err_from_is_err_and c.from_residual.result c.from_residual.ensures.1 in
    let missed = rw c.in_err-tag.ensures.ok_part at c.tag_at.ensures in
    let told = rw c.in_err-tag.ensures.ok_part at c.in_err-tag.ensures.value in
    let e : c.in_err-tag.field-0.0 ≡ BadTag = cc in
    rw (p.1, p.2, e) (object_untagged c.args.s.now c.args.self.at missed)

pub returns-in_err-length : goal.returns-in_err-length
returns-in_err-length c =
    let p = err_from_is_err_and c.from_residual-in_err-length.result c.from_residual-in_err-length.ensures.1 in
    let missed = rw c.in_err-length.ensures.ok_part at c.length_at.ensures in
    let told = rw c.in_err-length.ensures.ok_part at c.in_err-length.ensures.value in
    let e : c.in_err-length.field-0.0 ≡ BadLength = cc in
    rw (p.1, p.2, e) (object_unsized _ _ (rw c.in_ok-tag.ensures.ok_part at c.tag_at.ensures) missed)

pub returns-then-s-length : goal.returns-then-s-length
returns-then-s-length c =
    object_cut _ _ (rw c.in_ok-tag.ensures.ok_part at c.tag_at.ensures) (rw c.in_ok-length.ensures.ok_part at c.length_at.ensures) c.if-s-length.true

pub returns : goal.returns
returns c =
    object_stands _ _ (rw c.in_ok-tag.ensures.ok_part at c.tag_at.ensures) (rw c.in_ok-length.ensures.ok_part at c.length_at.ensures) c.if-s-length.false
