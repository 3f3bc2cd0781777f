-- `tools::tool_named` meets its contract: the search of the names finds the tool that the word names.
-- Assumes nothing.
use mathlib.Core.Path.{◌≡◌, ap}
use denote.Ref.{Bor}
use borrow.Author.Tests.{tests}
use borrow.Author.Rules.{rules}
use Rattle.std.specs.Prelude.{option_map}
use Rattle.std.specs.Str.{bytes_eq}
use Rattle.std.proofs.lemmas.Iterator.{YieldsList-from_slice}
use Rattle.std.proofs.lemmas.Iterator.Search.{find_from_yields_List}
use Rattle.tools.proofs.Naming.{Entry, listed, name_found}
use Rattle.tools.proofs.tool_named.Goals as goal

pub returns : goal.returns
returns c =
    let w = c.args.word.now in
    let found = find_from_yields_List (λ (x : Entry). bytes_eq w x.0.now) _ _ c.find-found.result c.find-found.ensures.ran (YieldsList-from_slice c.iter.result.rest.now (search rules)) (λ x b q k. search (rules, tests)) in
    let r : c.map.result ≡ option_map (λ (x : Bor Entry). x.now.1) c.find-found.result = search rules in
    name_found c.iter.result.rest.now w c.find-found.result c.map.result (ap listed c.iter.ensures.rest) found r
