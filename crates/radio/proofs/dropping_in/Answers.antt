-- `radio::dropping_in` meets its contract: R1, the permit, and the drop on a channel that may be used.
-- Assumes nothing.
use Rattle.radio.proofs.Permits.{usable, dropping_short, dropping_refused}
use borrow.Author.Rules.{rules}
use Rattle.std.proofs.lemmas.Result.{err_from_is_err_and}
use Rattle.radio.proofs.dropping_in.Goals as goal

pub returns-then-out-lt-EVENT : goal.returns-then-out-lt-EVENT
returns-then-out-lt-EVENT c = search dropping_short

pub drop_link-requires : goal.drop_link-requires
drop_link-requires c = (usable _ _ _ c.requires _ c.in_ok-c.ensures, search rules)

pub returns-in_err-c : goal.returns-in_err-c
returns-in_err-c c = let p = err_from_is_err_and c.from_residual.result c.from_residual.ensures.1 in rw (p.1, p.2) (dropping_refused _ _ _ c.requires _ c.in_err-c.ensures c.args.out.now c.if-out-lt-EVENT.false)
