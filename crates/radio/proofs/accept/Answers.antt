-- `radio::accept` meets its contract: each return is that of the law for its case.
-- Assumes nothing.
use native.Mathlib.Omega.{arith}
use Rattle.radio.proofs.Ends.{marks_own, accept_fits, accept_room, accept_overfull, accept_empty, accept_crowded, accept_unlisted, accept_held, accept_told}
use Rattle.radio.proofs.accept.Goals as goal

pub overflow_sub-room : goal.overflow_sub-room
overflow_sub-room c = omega (arith, accept_fits c.requires.0)

pub returns-then-room-bytes : goal.returns-then-room-bytes
returns-then-room-bytes c = search accept_overfull

pub returns-then-is_empty : goal.returns-then-is_empty
returns-then-is_empty c = accept_empty c.requires.0 c.args.bytes.now _ c.requires.1 c.if-room-bytes.false c.if-is_empty.ensures

pub returns-then-is_crowded : goal.returns-then-is_crowded
returns-then-is_crowded c = accept_crowded c.requires.0 c.args.bytes.now _ c.requires.1 c.if-room-bytes.false c.if-is_empty.ensures c.if-is_crowded.ensures

pub append-requires-clause-numbered : goal.append-requires-clause-numbered
append-requires-clause-numbered c = (c.requires.0.numbered, marks_own c.requires.0)

pub append-requires-clause-bytes_len_bound : goal.append-requires-clause-bytes_len_bound
append-requires-clause-bytes_len_bound c = accept_room c.requires.0 c.if-room-bytes.false

pub returns-then-listed-eq0 : goal.returns-then-listed-eq0
returns-then-listed-eq0 c = accept_unlisted c.requires.0 c.args.bytes.now _ c.requires.1 c.if-room-bytes.false c.if-is_empty.ensures c.if-is_crowded.ensures
    _ _ c.append.ensures c.if-listed-eq0.true

pub returns-then-c-gt0 : goal.returns-then-c-gt0
returns-then-c-gt0 c = accept_held c.requires.0 c.args.bytes.now _ c.requires.1 c.if-room-bytes.false c.if-is_empty.ensures c.if-is_crowded.ensures
    _ _ c.append.ensures c.if-c-gt0.true

pub returns : goal.returns
returns c = accept_told c.requires.0 c.args.bytes.now _ c.requires.1 c.if-room-bytes.false c.if-is_empty.ensures c.if-is_crowded.ensures
    _ _ c.append.ensures _ _ c.if-listed-eq0.false c.if-c-gt0.false c.tell_arrival.ensures.told c.tell_arrival.ensures.size
