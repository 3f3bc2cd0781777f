-- `details::print_details` meets its contract: R2 for no bytes and for too many, else the details.
-- Assumes nothing.
use native.Mathlib.Omega.{arith}
use Rattle.text.specs.Prints.{count_of}
use Rattle.std.proofs.lemmas.Bool.Decides.{nat_tests}
use Rattle.details.proofs.Telling.{size_told, details_printed}
use Rattle.details.proofs.print_details.Goals as goal

pub returns-then-is_empty : goal.returns-then-is_empty
returns-then-is_empty c = size_told _ _ _ _ _ (grind (arith, nat_tests)) c.print_refusal.ensures

pub print-requires : goal.print-requires
unfolding count_of
print-requires c = (omega arith, omega (arith, c.requires))

pub returns : goal.returns
returns c = details_printed _ _ _ _ _ _ c.details_told-d.ensures (grind (arith, nat_tests)) (omega arith) c.print.ensures
