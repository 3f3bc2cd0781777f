-- `alpha::look_up` meets its contract: the place of the first unit that is it.
-- Assumes nothing.
use Rattle.std.proofs.Common.{rules, tests, ◌≡◌, eqb}
use Rattle.std.specs.List.{position}
use Rattle.std.proofs.lemmas.Iterator.{YieldsList-from_slice}
use Rattle.std.proofs.lemmas.Iterator.Search.{position_from_yields_List}
use Rattle.alpha.specs.Alphabet.{table}
use Rattle.alpha.proofs.Tables.{position_code}
use Rattle.alpha.proofs.look_up.Goals as goal

pub returns : goal.returns
unfolding table
returns c =
    let e : c.position.result ≡ position (λ x. eqb x c.args.unit) table = position_from_yields_List (λ x. eqb x c.args.unit) _ _ _ c.position.ensures.ran (YieldsList-from_slice table cc) (λ x b q k. search (rules, tests)) in
    let f = position_code c.args.unit in
    search rules
