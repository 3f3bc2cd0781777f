-- `mending::print_behind` meets its contract: R16 for no object and for too many bytes, else the frame and its changes.
-- Assumes nothing.
use Rattle.std.proofs.Common.{arith, ⊎_elim}
use Rattle.mending.proofs.Lines.{none_left_told, too_long_told, frame_few, line_fits, mended_told}
use Rattle.mending.proofs.print_behind.Goals as goal

pub returns-then-count-eq0 : goal.returns-then-count-eq0
returns-then-count-eq0 c =
    ⊎_elim (λ e. none_left_told c.requires.0 c.mend_objects-count.ensures e c.print_refusal.ensures)
    (λ e. too_long_told c.requires.0 c.mend_objects-count.ensures e.1 c.print_refusal.ensures) c.then-count-eq0.either

pub print_outer-told-requires : goal.print_outer-told-requires
print_outer-told-requires c = omega (
  arith,
  frame_few c.requires.0 c.mend_objects-count.ensures c.if-count-eq0.false c.if-count-gt-OBJECTS_CAP.false,
  c.print_frame-framed.ensures.place,
  c.requires.2,
)

pub print_changes-listed-requires : goal.print_changes-listed-requires
print_changes-listed-requires c =
    let fits = line_fits c.requires.0 c.mend_objects-count.ensures c.if-count-eq0.false c.if-count-gt-OBJECTS_CAP.false in
    (c.requires.1, omega (arith, c.print_frame-framed.ensures.place, c.print_outer-told.ensures.place, c.requires.2))

pub print_char-requires : goal.print_char-requires
print_char-requires c =
    let fits = line_fits c.requires.0 c.mend_objects-count.ensures c.if-count-eq0.false c.if-count-gt-OBJECTS_CAP.false in
    omega (arith, c.print_frame-framed.ensures.place, c.print_outer-told.ensures.place, c.print_changes-listed.ensures.place, c.requires.2)

pub returns : goal.returns
returns c =
    mended_told c.requires.0 c.mend_objects-count.ensures c.if-count-eq0.false c.if-count-gt-OBJECTS_CAP.false c.requires.2 c.print_frame-framed.ensures c.print_outer-told.ensures
    c.print_changes-listed.ensures c.print_char.ensures
