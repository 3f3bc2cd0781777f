-- `radio::taking_in` meets its contract: the permit, and the take on a channel that may be used.
-- Assumes nothing.
use Rattle.radio.proofs.Permits.{usable, taking_refused}
use Rattle.std.proofs.lemmas.Result.{err_from_is_err_and}
use Rattle.radio.proofs.taking_in.Goals as goal

pub hand_over-requires : goal.hand_over-requires
hand_over-requires c = usable _ _ _ c.requires _ c.in_ok-c.ensures

pub returns-in_err-c : goal.returns-in_err-c
returns-in_err-c c = let p = err_from_is_err_and c.from_residual.result c.from_residual.ensures.1 in rw (p.1, p.2) (taking_refused _ _ _ c.requires _ c.in_err-c.ensures c.args.out.now)
