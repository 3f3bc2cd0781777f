-- `mending::print_shortened` meets its contract: S, or nothing.
-- Assumes nothing.
use Rattle.std.proofs.Common.{◌+◌, ◌≤◌, List, ℕ, length, sym, subst}
use Rattle.text.proofs.Printing.{prints_as}
use Rattle.mending.proofs.Left.{prints_none, shortened_text_lem, kept_text}
use Rattle.mending.proofs.print_shortened.Goals as goal

pub print_change-requires : goal.print_change-requires
print_change-requires c = (c.requires.0, subst (λ (x : List ℕ). c.args.at + length x ≤ length c.args.out.now) (sym (shortened_text_lem _ _ c.if-object.true)) c.requires.1)

pub returns-then-object : goal.returns-then-object
returns-then-object c = prints_as (shortened_text_lem _ _ c.if-object.true) c.print_change.ensures

pub returns : goal.returns
returns c = prints_as (kept_text _ _ c.if-object.false) (prints_none _ _)
