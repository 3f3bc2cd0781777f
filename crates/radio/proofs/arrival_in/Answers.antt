-- `radio::arrival_in` meets its contract: R1, the permit, and the arrival on a channel that may be used.
-- Assumes nothing.
use Rattle.radio.proofs.Permits.{usable, arrival_short, arrival_refused}
use borrow.Author.Rules.{rules}
use Rattle.std.proofs.lemmas.Result.{err_from_is_err_and}
use Rattle.radio.proofs.arrival_in.Goals as goal

pub returns-then-out-lt-EVENT : goal.returns-then-out-lt-EVENT
returns-then-out-lt-EVENT c = search arrival_short

pub accept-requires : goal.accept-requires
accept-requires c = (usable _ _ _ c.requires _ c.in_ok-c.ensures, search rules)

pub returns-in_err-c : goal.returns-in_err-c
returns-in_err-c c = let p = err_from_is_err_and c.from_residual.result c.from_residual.ensures.1 in rw (p.1, p.2) (arrival_refused _ _ _ c.requires _ c.in_err-c.ensures c.args.out.now c.args.bytes.now c.if-out-lt-EVENT.false)
