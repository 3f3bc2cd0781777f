-- `mending::print_changes` meets its contract: at every turn the text of the changes from here on is left to be printed.
-- Assumes nothing.
use Rattle.std.proofs.Common.{refl, arith}
use Rattle.mending.proofs.Left.{left_more, left_none, end_text, object_text_lem, cut_text, object_text_room, cut_text_room}
use Rattle.mending.proofs.print_changes.Goals as goal

pub print_shortened-to-requires : goal.print_shortened-to-requires
print_shortened-to-requires c =
    let st = c.in-Some.ensures in
    (omega (arith, st.from, st.behind, st.within, c.requires.0), object_text_room c.args.s.now c.loop-object.at c.loop-object.invariant st)

pub loop-object-preserved : goal.loop-object-preserved
loop-object-preserved c = left_more c.loop-object.invariant (object_text_lem c.in-Some.ensures) c.print_shortened-to.ensures

pub print_change-requires : goal.print_change-requires
print_change-requires c =
    (omega (arith, c.requires.0, c.if-at-s.true), cut_text_room c.args.s.now c.loop-object.at c.loop-object.invariant (c.in_default.ensures c.if-at-s.true))

pub returns-then-at-s : goal.returns-then-at-s
returns-then-at-s c = left_none (left_more c.loop-object.invariant (cut_text _ _ (c.in_default.ensures c.if-at-s.true)) c.print_change.ensures) refl

pub returns : goal.returns
returns c = left_none c.loop-object.invariant (end_text _ _ c.if-at-s.false)
