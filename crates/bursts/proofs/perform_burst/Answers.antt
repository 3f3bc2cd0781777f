-- `bursts::perform_burst` meets its contract: what is printed, piece by piece.
-- Assumes nothing.
use mathlib.Core.Path.{refl}
use native.Mathlib.Omega.{arith}
use Rattle.text.proofs.Bounds.{line_within}
use Rattle.text.proofs.Printing.{decimal_few}
use Rattle.bursts.proofs.Counting.{burst_count, burst_left, burst_tells}
use Rattle.bursts.proofs.perform_burst.Goals as goal

pub print-end-requires : goal.print-end-requires
print-end-requires c = (burst_count _ _ _ _ c.requires.0 _ _ _ _ _ _ refl c.fetch_in-fetched.ensures, omega (arith, c.requires.3))

pub print_char-blank-requires : goal.print_char-blank-requires
print_char-blank-requires c = let w = line_within _ _ _ _ c.print-end.ensures.place in omega (arith, w.0, w.1, c.requires.3)

pub print_decimal-behind-requires : goal.print_decimal-behind-requires
print_decimal-behind-requires c = let w = line_within _ _ _ _ c.print-end.ensures.place in (
  burst_left _ _ _ _ c.requires.0 _ _ _ _ _ _ refl c.fetch_in-fetched.ensures c.requires.2,
  omega (arith, w.0, w.1, c.requires.3, c.print_char-blank.ensures.place, decimal_few c.fetch_in-fetched.result.left),
)

pub print_char-requires : goal.print_char-requires
print_char-requires c = let w = line_within _ _ _ _ c.print-end.ensures.place in
    omega (arith, w.0, w.1, c.requires.3, c.print_char-blank.ensures.place, c.print_decimal-behind.ensures.place, decimal_few c.fetch_in-fetched.result.left)

pub returns : goal.returns
returns c = let w = line_within _ _ _ _ c.print-end.ensures.place in
    burst_tells _ _ _ _ c.requires.0 _ _ _ _ _ _ refl c.fetch_in-fetched.ensures c.requires.3 (omega (arith, w.1))
    c.print-end.ensures c.print_char-blank.ensures c.print_decimal-behind.ensures c.print_char.ensures
