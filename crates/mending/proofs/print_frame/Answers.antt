-- `mending::print_frame` meets its contract: D0 and the length, then the objects.
-- Assumes nothing.
use Prim.Native.Nat.{ℕ}
use mathlib.Core.Path.{ap, ◌∙◌}
use mathlib.Core.List.{List}
use native.Mathlib.Omega.{arith}
use lib.ListN.{length}
use Rattle.rules.specs.Lines.{hex}
use Rattle.text.proofs.Printing.{hex_size}
use Rattle.mending.proofs.Left.{front_is, front_size, head_few, framing_printed}
use Rattle.mending.proofs.print_frame.Goals as goal

pub slice_bounds-head-end : goal.slice_bounds-head-end
slice_bounds-head-end c = omega (arith, c.write_length-size.ensures.value, head_few (length c.args.objects.now))

pub slice_bounds-print_bytes-end : goal.slice_bounds-print_bytes-end
slice_bounds-print_bytes-end c = front_size _ _ _ _ c.write_length-size.ensures.out_after c.write_length-size.ensures.value

pub print_bytes-requires : goal.print_bytes-requires
print_bytes-requires c = let f = front_is _ _ _ _ c.write_length-size.ensures.out_after c.write_length-size.ensures.value in
    let n = ap (λ (x : List ℕ). length (hex x)) f ∙ hex_size _ in
    omega (arith, n, c.print_bytes-headed.ensures.place, head_few (length c.args.objects.now), c.requires.0, c.requires.1)

pub returns : goal.returns
returns c = let f = front_is _ _ _ _ c.write_length-size.ensures.out_after c.write_length-size.ensures.value in
    framing_printed c.args.objects.now _ f (omega (arith, ap length f, head_few (length c.args.objects.now), c.requires.1)) c.print_bytes-headed.ensures c.print_bytes.ensures
