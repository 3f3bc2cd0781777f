-- `csim::count_digits` meets its contract: the digits that the library takes are those at the front.
-- Assumes nothing.
use Rattle.std.proofs.Common.{◌∙◌, rules}
use Rattle.std.specs.Char.{is_ascii_digit}
use Rattle.std.proofs.lemmas.Iterator.{YieldsList-from_slice}
use Rattle.std.proofs.lemmas.Iterator.Search.{YieldsList-from_take_while}
use Rattle.std.proofs.lemmas.Iterator.Consumers.{count_from_yields_List, YieldsList-at}
use Rattle.csim.proofs.Scans.{digits_taken}
use Rattle.csim.proofs.count_digits.Goals as goal

pub returns-clause-count : goal.returns-clause-count
returns-clause-count c =
    count_from_yields_List _ _ c.count.ensures.ran
    (YieldsList-from_take_while _ is_ascii_digit (YieldsList-at c.take_while.ensures.source (YieldsList-from_slice c.args.s.now cc))
    c.take_while.ensures.closure c.take_while.ensures.done (λ x b q k. search rules))
    ∙ digits_taken c.args.s.now
