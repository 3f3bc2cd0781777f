-- `responses::tell_opened` meets its contract: head, status, bearer and grant, each behind the last.
-- Assumes nothing.
use mathlib.Core.List.{[], ◌∷◌}
use native.Mathlib.Omega.{arith}
use Rattle.responses.proofs.Writes.{after_head, second_fits, third_fits, three_stand, opened_pieces}
use Rattle.responses.proofs.tell_opened.Goals as goal

pub append-at-requires : goal.append-at-requires
append-at-requires c = after_head _ _ _ _ _ 6 c.tell_result-head.ensures (omega (arith, c.requires.2))

pub append-behind-requires : goal.append-behind-requires
append-behind-requires c =
    let f = c.append-at.ensures in
    second_fits _ _ _ _ _ _ (0x39 ∷ 0x02 ∷ 0 ∷ 0 ∷ []) _ _ _ c.tell_result-head.ensures (omega (arith, c.requires.2)) f.value f.out_after

pub append-requires : goal.append-requires
append-requires c =
    let f = c.append-at.ensures in
    let g = c.append-behind.ensures in
    third_fits _ _ _ _ _ _ (0x39 ∷ 0x02 ∷ 0 ∷ 0 ∷ []) _ _ _ c.tell_result-head.ensures (omega (arith, c.requires.2)) f.value f.out_after
    _ _ g.value g.out_after

pub returns : goal.returns
returns c = let a = c.args in
    let f = c.append-at.ensures in
    let g = c.append-behind.ensures in
    three_stand _ _ _ _ _ _ _ _ _ _ c.tell_result-head.ensures (omega (arith, c.requires.2)) f.value f.out_after _ _ g.value g.out_after _ _ _
    c.append.ensures.value c.append.ensures.out_after
    (opened_pieces a.d a.res a.grant a.n a.link _ _ _ c.requires.3 c.requires.1 (omega arith) c.status.ensures c.to_be_bytes.ensures)
