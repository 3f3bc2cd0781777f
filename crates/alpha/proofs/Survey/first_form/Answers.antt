-- `alpha::Survey::first_form` meets its contract: the default alphabet with its extension characters, or pairs.
-- Assumes nothing.
use Rattle.std.proofs.Common.{rules}
use Rattle.alpha.specs.Passes.{first_form, form_with}
use Rattle.alpha.proofs.Survey.first_form.Goals as goal

pub returns : goal.returns
unfolding first_form form_with
returns c = search rules
