-- `alpha::Survey::behind` meets its contract: by whether the unit has a code of the base table.
-- Assumes nothing.
use Rattle.std.proofs.Common.{rules, ◌+◌, ◌≡◌, option_map}
use Rattle.std.specs.Option.{option_and}
use Rattle.alpha.specs.Alphabet.{extension_code_of}
use Rattle.alpha.specs.Passes.{told}
use Rattle.alpha.proofs.Surveys.{step_coded, step_needing}
use Rattle.alpha.proofs.Survey.behind.Goals as goal

pub returns-then-is_some : goal.returns-then-is_some
returns-then-is_some c = step_coded _ _ (search rules)

pub returns : goal.returns
returns c =
    let e : c.map.result ≡ option_map (λ n. n + 1) (option_and (told (extension_code_of c.args.unit)) c.args.self.extras) = search rules in
    step_needing _ _ (search rules) _ _ _ e c.min.ensures c.max.ensures
