-- `own::send` meets its contract: the law of each way out, at what it calls.
-- Assumes nothing.
use native.Mathlib.Omega.{arith}
use mathlib.Core.Path.{ap}
use mathlib.Core.List.{[]}
use Rattle.session.specs.declared.Channel.{Channel}
use Rattle.session.proofs.Facts.{bounds}
use Rattle.own.proofs.Sends.{send_unopened, send_dropped, send_overfull, send_crowded, send_fits, sent_marks, send_place, send_done}
use Rattle.own.proofs.send.Goals as goal

pub entry-c-requires : goal.entry-c-requires
entry-c-requires c = (c.requires.0.low, c.requires.0.high)

pub returns-then-c-lt1 : goal.returns-then-c-lt1
returns-then-c-lt1 c = send_unopened _ _ _ c.requires.0 _ c.entry-c.ensures c.args.d c.args.bytes.now c.args.ignored _ _ _ c.if-c-lt1.true c.tell_problem.ensures

pub returns-then-is_dropped : goal.returns-then-is_dropped
returns-then-is_dropped c = send_dropped _ _ _ c.requires.0 _ c.entry-c.ensures c.args.d c.args.bytes.now c.args.ignored _ _ _ _ c.if-c-lt1.false c.is_dropped.ensures c.if-is_dropped.true c.tell_problem-then-is_dropped.ensures

pub overflow_sub-room : goal.overflow_sub-room
overflow_sub-room c = let b = bounds _ _ _ c.requires.0 in
    let g = ap (λ (x : Channel). x.grant) c.entry-c.ensures in
    let u = ap (λ (x : Channel). x.tx) c.entry-c.ensures in
    omega (arith, b.tx_fits)

pub returns-then-room-bytes : goal.returns-then-room-bytes
returns-then-room-bytes c = send_overfull _ _ _ c.requires.0 _ c.entry-c.ensures c.args.d c.args.bytes.now c.args.ignored _ _ _ _ c.if-c-lt1.false c.is_dropped.ensures c.if-is_dropped.false c.if-room-bytes.true c.tell_problem-then-room-bytes.ensures

pub lacks_place-requires : goal.lacks_place-requires
lacks_place-requires c = (c.requires.0, c.entry-c.ensures)

pub returns-then-lacks_place : goal.returns-then-lacks_place
returns-then-lacks_place c = send_crowded _ _ _ c.requires.0 _ c.entry-c.ensures c.args.d c.args.bytes.now c.args.ignored _ _ _ _ c.if-c-lt1.false c.is_dropped.ensures c.if-is_dropped.false
    _ c.if-room-bytes.false c.lacks_place.ensures c.if-lacks_place.true c.tell_problem-then-lacks_place.ensures

pub sent_whole-len-requires : goal.sent_whole-len-requires
sent_whole-len-requires c = let b = bounds _ _ _ c.requires.0 in
    let g = ap (λ (x : Channel). x.grant) c.entry-c.ensures in
    let u = ap (λ (x : Channel). x.tx) c.entry-c.ensures in
    let r = ap (λ (x : Channel). x.ready) c.entry-c.ensures in
    (omega (arith, c.if-room-bytes.false, b.tx_fits, b.capped), omega (arith, b.ready_held))

pub append-requires : goal.append-requires
append-requires c = record {
  numbered = (c.requires.0, sent_marks _ _ _ c.requires.0 _ c.entry-c.ensures _ _ _ c.sent_entry-joined.ensures);
  bytes_len_bound = send_fits _ _ _ c.requires.0 _ c.entry-c.ensures _ c.if-room-bytes.false;
  len_bound = send_place _ _ _ c.requires.0 _ c.entry-c.ensures c.args.d c.args.bytes.now c.args.ignored 0 [] [] _ c.if-c-lt1.false c.is_dropped.ensures c.if-is_dropped.false c.if-room-bytes.false
      _ c.lacks_place.ensures c.if-lacks_place.false _ c.sent_whole-len.ensures;
}

pub returns : goal.returns
returns c = send_done _ _ _ c.requires.0 _ c.entry-c.ensures c.args.d c.args.bytes.now c.args.ignored _ _ _ _ c.if-c-lt1.false c.is_dropped.ensures c.if-is_dropped.false c.if-room-bytes.false _ c.lacks_place.ensures c.if-lacks_place.false _ _ _ _ _ _
    c.sent_entry-joined.ensures c.sent_whole-len.ensures c.append.ensures c.plain.ensures c.capped-left.ensures c.tell_sent-count.ensures
