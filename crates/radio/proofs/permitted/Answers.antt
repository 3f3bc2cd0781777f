-- `radio::permitted` meets its contract: each return is a line of the definition.
-- Assumes nothing.
use native.Mathlib.Omega.{arith}
use Rattle.std.proofs.lemmas.Bool.Decides.{nat_tests}
use Rattle.rules.specs.Checks.{◌⇒◌else◌}
use Rattle.rules.specs.Radio.{numbered}
use Rattle.radio.specs.Permits.{permit_in}
use Rattle.radio.proofs.permitted.Goals as goal

pub returns-then-n-lt1 : goal.returns-then-n-lt1
unfolding permit_in numbered ◌⇒◌else◌
returns-then-n-lt1 c = grind (arith, nat_tests)

pub returns-then-c-eq0 : goal.returns-then-c-eq0
unfolding permit_in numbered ◌⇒◌else◌
returns-then-c-eq0 c = grind (arith, nat_tests)

pub returns-then-c : goal.returns-then-c
unfolding permit_in numbered ◌⇒◌else◌
returns-then-c c = grind (arith, nat_tests)

pub returns : goal.returns
unfolding permit_in numbered ◌⇒◌else◌
returns c = grind (arith, nat_tests)
