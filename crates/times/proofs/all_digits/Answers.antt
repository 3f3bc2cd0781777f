-- `times::all_digits` meets its contract: the chain tests each byte.
-- Assumes nothing.
use borrow.Author.Rules.{rules}
use borrow.Author.Tests.{tests}
use Rattle.std.proofs.lemmas.Iterator.{YieldsList-from_slice}
use Rattle.rules.specs.Timers.{is_digits}
use Rattle.rules.proofs.Chains.{every_from_all}
use Rattle.times.proofs.all_digits.Goals as goal

pub returns : goal.returns
returns c = every_from_all is_digits _ _ _ c.all.ensures.ran (YieldsList-from_slice c.args.bytes.now (cc)) (λ x b q k. search (rules, tests))
