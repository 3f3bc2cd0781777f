-- `command::fits` meets its contract: each answer is that of the law for its case.
-- Assumes nothing.
use mathlib.Core.Path.{◌∙◌}
use Rattle.command.proofs.Lengths.{fits_three, fits_two, fits_one, fits_bearer, fits_any}
use Rattle.command.proofs.fits.Goals as goal

pub returns-in-1 : goal.returns-in-1
returns-in-1 c = search fits_three

pub returns-in-2 : goal.returns-in-2
returns-in-2 c = search fits_two

pub returns-in-36 : goal.returns-in-36
returns-in-36 c = search fits_one

pub returns-in-53 : goal.returns-in-53
returns-in-53 c = c.bearer_fits.ensures ∙ search fits_bearer

pub returns-in_default : goal.returns-in_default
returns-in_default c = search fits_any
