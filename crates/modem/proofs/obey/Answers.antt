-- `modem::obey` meets its contract: an error of the reading, or what is asked.
-- Assumes nothing.
use native.Mathlib.Omega.{arith}
use Rattle.session.proofs.Facts.{good_table}
use Rattle.modem.proofs.Obeying.{wrong_answers}
use Rattle.modem.proofs.obey.Goals as goal

pub read_by-requires : goal.read_by-requires
read_by-requires c = let l = good_table _ _ c.requires.0 in (omega arith, c.requires.1)

pub carry_out-requires : goal.carry_out-requires
carry_out-requires c = (c.requires.0, c.in-Ok.ensures, c.requires.2)

pub returns-in-Err : goal.returns-in-Err
returns-in-Err c = wrong_answers _ _ _ _ _ _ _ _ c.requires.0 c.in-Err.ensures c.tell_result.ensures
