-- `responses::tell_received` meets its contract: head, form, bytes and count, each behind the last.
-- Assumes nothing.
use mathlib.Core.List.{[], ◌∷◌}
use native.Mathlib.Omega.{arith}
use Rattle.responses.proofs.Writes.{after_head, received_size, second_fits, third_fits, three_stand, received_pieces}
use Rattle.responses.proofs.tell_received.Goals as goal

pub write_length-at-requires : goal.write_length-at-requires
write_length-at-requires c = after_head _ _ _ _ _ 3 c.tell_result-head.ensures (omega (arith, c.requires.0))

pub append-behind-requires : goal.append-behind-requires
append-behind-requires c = let a = c.args in
    let f = c.write_length-at.ensures in
    second_fits _ _ _ _ _ _ (0x37 ∷ 0x01 ∷ a.left ∷ []) _ _ _ c.tell_result-head.ensures
    (received_size a.d a.res a.left _ _ _ _ c.from.ensures c.requires.1 _ c.requires.0) f.value f.out_after

pub append-requires : goal.append-requires
append-requires c = let a = c.args in
    let f = c.write_length-at.ensures in
    let g = c.append-behind.ensures in
    third_fits _ _ _ _ _ _ (0x37 ∷ 0x01 ∷ a.left ∷ []) _ _ _ c.tell_result-head.ensures
    (received_size a.d a.res a.left _ _ _ _ c.from.ensures c.requires.1 _ c.requires.0) f.value f.out_after _ _ g.value g.out_after

pub returns : goal.returns
returns c = let a = c.args in
    let f = c.write_length-at.ensures in
    let g = c.append-behind.ensures in
    three_stand _ _ _ _ _ _ _ _ _ _ c.tell_result-head.ensures
    (received_size a.d a.res a.left _ _ _ _ c.from.ensures c.requires.1 _ c.requires.0) f.value f.out_after _ _ g.value g.out_after _ _ _
    c.append.ensures.value c.append.ensures.out_after (received_pieces a.d a.res a.left _ _ _ _ c.from.ensures c.requires.1)
