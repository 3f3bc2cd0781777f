-- `alpha::unit_at` meets its contract: four digits.
-- Assumes nothing.
use Prim.Native.Nat.{◌+◌, ◌*◌}
use Rattle.alpha.specs.Printed.{four_digits}
use Rattle.alpha.specs.Passes.{unit_at}
use Rattle.alpha.proofs.Lines.{digit_parts}
use Rattle.alpha.proofs.unit_at.Goals as goal

pub wide_digit-a-requires : goal.wide_digit-a-requires
wide_digit-a-requires c = (digit_parts _ _ c.requires.1).0

pub wide_digit-b-requires : goal.wide_digit-b-requires
wide_digit-b-requires c = (digit_parts _ _ c.requires.1).1

pub wide_digit-c-requires : goal.wide_digit-c-requires
wide_digit-c-requires c = (digit_parts _ _ c.requires.1).2

pub wide_digit-d-requires : goal.wide_digit-d-requires
wide_digit-d-requires c = (digit_parts _ _ c.requires.1).3

pub returns : goal.returns
unfolding unit_at four_digits
returns c = λ i. 4096 * c.wide_digit-a.ensures.0 i + 256 * c.wide_digit-b.ensures.0 i + 16 * c.wide_digit-c.ensures.0 i + c.wide_digit-d.ensures.0 i
