-- The call that a frame asks for, check by check.
-- Assumes nothing.
use lib.Seq.{get_or-drop}
use Rattle.std.proofs.lemmas.Bool.Decides.{nat_tests}
use Rattle.rules.proofs.Laws.{stop, skip}

pub ruleset call_laws = (nat_tests, stop, skip, get_or-drop)
