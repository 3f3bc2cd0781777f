-- `text::readable` meets its contract: an even length, and every character a digit.
-- Assumes nothing.
use mathlib.Core.Path.{◌∙◌}
use Prim.Native.Nat.{◌%◌}
use lib.ListN.{length}
use borrow.Author.Tests.{ne_eqb}
use Rattle.std.proofs.Common.{rules, tests}
use Rattle.std.specs.Char.{is_ascii_hexdigit}
use Rattle.std.proofs.lemmas.Iterator.{YieldsList-from_slice}
use Rattle.std.proofs.lemmas.Iterator.Search.{all_from_yields_List}
use Rattle.text.proofs.Bytes.{readable_even, readable_odd}
use Rattle.text.proofs.readable.Goals as goal

pub returns-then-line-eq0 : goal.returns-then-line-eq0
returns-then-line-eq0 c =
    all_from_yields_List is_ascii_hexdigit _ _ _ c.all.ensures.ran (YieldsList-from_slice c.args.line.now cc) (λ x b q k. search (rules, tests)) ∙ readable_even c.args.line.now c.if-line-eq0.true

pub returns-else-line-eq0 : goal.returns-else-line-eq0
returns-else-line-eq0 c = ne_eqb (length c.args.line.now % 2) 0 c.if-line-eq0.false ∙ readable_odd c.args.line.now c.if-line-eq0.false
