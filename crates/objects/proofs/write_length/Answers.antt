-- `objects::write_length` meets its contract: the form is the shortest.
-- Assumes nothing.
use mathlib.Core.Path.{refl}
use Rattle.objects.proofs.Writing.{short_length, long_length_lem, form_put}
use Rattle.objects.proofs.write_length.Goals as goal

pub returns-then-len-lt128 : goal.returns-then-len-lt128
returns-then-len-lt128 c = record { out_after = (form_put _ _ _ _ _ _ _ (short_length _ c.if-len-lt128.true) c.put.ensures refl).0; value = (form_put _ _ _ _ _ _ _ (short_length _ c.if-len-lt128.true) c.put.ensures refl).1 }

pub returns : goal.returns
returns c = record { out_after = (form_put _ _ _ _ _ _ _ (long_length_lem _ c.if-len-lt128.false) c.put-2.ensures refl).0; value = (form_put _ _ _ _ _ _ _ (long_length_lem _ c.if-len-lt128.false) c.put-2.ensures refl).1 }
