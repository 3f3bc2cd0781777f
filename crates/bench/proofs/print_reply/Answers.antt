-- `bench::print_reply` meets its contract: by the first byte.
-- Assumes nothing.
use native.Mathlib.Omega.{arith}
use Rattle.std.proofs.lemmas.List.{get_or_past}
use Rattle.bench.proofs.Records.{heard_reply, record_reply, other_reply}
use Rattle.bench.proofs.print_reply.Goals as goal

pub returns-in-129 : goal.returns-in-129
returns-in-129 c = heard_reply _ _ _ _ _ (omega arith) c.print_heard.ensures

pub returns-in-176 : goal.returns-in-176
returns-in-176 c = record_reply _ _ _ _ _ (λ e. omega arith) (omega arith) c.print_record.ensures

pub returns-in_default : goal.returns-in_default
returns-in_default c = other_reply _ _ _ _ _ (λ e. grind (arith, get_or_past c.args.frame.now 0 0)) (λ e. grind (arith, get_or_past c.args.frame.now 0 0)) c.print_refusal.ensures
