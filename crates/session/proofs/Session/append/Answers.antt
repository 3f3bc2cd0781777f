-- `session::Session::append` meets its contract: the law of the change, at what it calls.
-- Assumes nothing.
use Prim.Native.Nat.{ℕ}
use mathlib.Core.Path.{ap, sym}
use mathlib.Core.List.{List, []}
use native.Mathlib.Omega.{arith}
use lib.ListN.{length}
use Rattle.session.proofs.Facts.{bounds, appending, append_stream, append_datagram, joins_read}
use Rattle.session.proofs.Session.append.Goals as goal

pub overflow_add-at : goal.overflow_add-at
overflow_add-at c = let b = bounds _ _ _ c.requires.numbered.0 in
    let f = appending _ _ _ c.requires.numbered.0 c.args.c c.args.way _ c.requires.numbered.1 c.requires.bytes_len_bound in
    omega (arith, c.start_of.ensures, c.held.ensures, b.size)

pub put-requires : goal.put-requires
put-requires c = let f = appending _ _ _ c.requires.numbered.0 c.args.c c.args.way _ c.requires.numbered.1 c.requires.bytes_len_bound in
    omega (arith, c.start_of.ensures, c.held.ensures)

pub more-requires : goal.more-requires
more-requires c = let f = appending _ _ _ c.requires.numbered.0 c.args.c c.args.way _ c.requires.numbered.1 c.requires.bytes_len_bound in omega arith

pub returns-then-is_stream : goal.returns-then-is_stream
returns-then-is_stream c = append_stream _ _ _ c.requires.numbered.0 c.args.c _ c.args.way c.args.bytes.now _ _ _ _ c.args.len c.requires.numbered.1 c.requires.bytes_len_bound
    c.held.ensures c.start_of.ensures c.more.ensures c.put.ensures (sym c.if-is_stream.ensures) c.put_entry.ensures

pub count_whole-requires-clause-place : goal.count_whole-requires-clause-place
count_whole-requires-clause-place c =
    let there = joins_read _ _ _ c.requires.numbered.0 c.args.c _ c.args.way c.args.bytes.now [] _ _ _ c.args.len c.requires.numbered.1 c.requires.bytes_len_bound
    c.held.ensures c.start_of.ensures c.more.ensures c.put.ensures _ c.put_entry.ensures
    in
    let size = ap (λ (l : List ℕ). length l) there in
    omega (arith, size, c.requires.len_bound.1)

pub returns : goal.returns
returns c = append_datagram _ _ _ c.requires.numbered.0 c.args.c _ c.args.way c.args.bytes.now _ _ _ _ c.args.len c.requires.numbered.1 c.requires.bytes_len_bound
    c.held.ensures c.start_of.ensures c.more.ensures c.put.ensures (sym c.if-is_stream.ensures) c.requires.len_bound.1 _ c.put_entry.ensures c.count_whole.ensures
