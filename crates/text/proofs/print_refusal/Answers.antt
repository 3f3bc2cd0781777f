-- `text::print_refusal` meets its contract: R, the number and the line feed.
-- Assumes nothing.
use mathlib.Core.Path.{ap, ◌∙◌}
use native.Mathlib.Omega.{arith}
use lib.ListN.{length}
use Prim.Native.Nat.{ℕ}
use Rattle.rules.specs.Lines.{decimal}
use Rattle.rules.proofs.Told.{number_small}
use Rattle.text.proofs.Printing.{refusal_few, refused_line}
use Rattle.text.proofs.print_refusal.Goals as goal

pub print_decimal-end-requires : goal.print_decimal-end-requires
print_decimal-end-requires c = let is = c.from.ensures ∙ c.number.ensures in
    let small = number_small c.args.refusal in
    let few = refusal_few c.args.refusal in
    let size = ap (λ (k : ℕ). length (decimal k)) is in
    (omega arith, omega (arith, c.print_char-start.ensures.place))

pub print_char-requires : goal.print_char-requires
print_char-requires c = let few = refusal_few c.args.refusal in
    let size = ap (λ (k : ℕ). length (decimal k)) (c.from.ensures ∙ c.number.ensures) in
    omega (arith, c.print_char-start.ensures.place, c.print_decimal-end.ensures.place)

pub returns : goal.returns
returns c = refused_line c.args.refusal _ (c.from.ensures ∙ c.number.ensures) c.requires c.print_char-start.ensures c.print_decimal-end.ensures c.print_char.ensures
