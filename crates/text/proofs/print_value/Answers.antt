-- `text::print_value` meets its contract: two dashes, or the digits.
-- Assumes nothing.
use Prim.Native.Nat.{◌<◌}
use mathlib.Core.Path.{◌≡◌}
use native.Mathlib.Omega.{arith}
use lib.ListN.{length}
use Rattle.std.proofs.lemmas.Bool.Decides.{nat_tests}
use Rattle.text.proofs.Printing.{none_printed, bytes_printed}
use Rattle.text.proofs.print_value.Goals as goal

pub returns-then-is_empty : goal.returns-then-is_empty
returns-then-is_empty c = let none : length c.args.bytes.now ≡ 0 = grind (arith, nat_tests) in none_printed _ _ _ _ none c.put.ensures

pub returns : goal.returns
returns c = let some : 0 < length c.args.bytes.now = grind (arith, nat_tests) in bytes_printed _ _ _ _ _ some c.print_bytes.ensures
