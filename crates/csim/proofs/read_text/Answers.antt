-- `csim::read_text` meets its contract: its shape, and a zero in front.
-- Assumes nothing.
use Rattle.std.proofs.Common.{sym, ◌∙◌, arith, rules}
use Rattle.csim.proofs.Shapes.{quoted_few}
use Rattle.csim.proofs.Telling.{unshaped, shaping, padded, counted_in}
use Rattle.csim.proofs.read_text.Goals as goal

pub returns-in_err-k : goal.returns-in_err-k
returns-in_err-k c = let e = unshaped _ _ c.shape_of.ensures.value (grind arith) in search rules

pub returns-then-is_padded : goal.returns-then-is_padded
returns-then-is_padded c = padded _ _ c.shape_of.ensures.value c.in_ok-k.k (grind arith) (sym c.is_padded.ensures ∙ c.if-is_padded.true)

pub invariant_of-result : goal.invariant_of-result
invariant_of-result c =
    let shape = shaping _ _ c.shape_of.ensures.value c.in_ok-k.k (grind arith) in
    record { proper = record { counting = shape.counting; bare = sym c.is_padded.ensures ∙ c.if-is_padded.false }; few = quoted_few c.args.text.now c.in_ok-k.k c.requires }

pub returns : goal.returns
returns c = counted_in _ _ c.shape_of.ensures.value c.in_ok-k.k (grind arith)
