-- `session::Session::remove` meets its contract: the law of the change, at what it calls.
-- Assumes nothing.
use mathlib.Core.Path.{sym}
use native.Mathlib.Omega.{arith}
use Rattle.session.proofs.Facts.{bounds, removing, remove_stream, remove_datagram}
use Rattle.session.proofs.Session.remove.Goals as goal

pub overflow_add-at : goal.overflow_add-at
overflow_add-at c = let b = bounds _ _ _ c.requires.numbered.0 in
    let f = removing _ _ _ c.requires.numbered.0 c.args.c c.args.way c.args.at c.args.count c.requires.numbered.1 c.requires.numbered.2 c.requires.count_bound in
    omega (arith, c.held.ensures, b.size)

pub cut-requires : goal.cut-requires
cut-requires c = let f = removing _ _ _ c.requires.numbered.0 c.args.c c.args.way c.args.at c.args.count c.requires.numbered.1 c.requires.numbered.2 c.requires.count_bound in
    (omega (arith, c.held.ensures), omega (arith, c.held.ensures))

pub less-requires : goal.less-requires
less-requires c = let f = removing _ _ _ c.requires.numbered.0 c.args.c c.args.way c.args.at c.args.count c.requires.numbered.1 c.requires.numbered.2 c.requires.count_bound in
    (f.1, f.2)

pub returns-then-is_stream : goal.returns-then-is_stream
returns-then-is_stream c = remove_stream _ _ _ c.requires.numbered.0 c.args.c _ c.args.way _ _ _ c.args.at c.args.count c.requires.numbered.1 c.requires.numbered.2 c.requires.count_bound
    c.held.ensures c.less.ensures c.cut.ensures (sym c.if-is_stream.ensures) c.put_entry.ensures

pub returns : goal.returns
returns c = remove_datagram _ _ _ c.requires.numbered.0 c.args.c _ c.args.way _ _ _ c.args.at c.args.count c.requires.numbered.1 c.requires.numbered.2 c.requires.count_bound
    c.held.ensures c.less.ensures c.cut.ensures _ c.put_entry.ensures c.count_less.ensures
