-- What a walk over a command's objects keeps of them: a survey, and where the first of each number that a row may have stands.
use Rattle.std.specs.Prelude.{ℕ, ◌+◌, Bool, true, not, ◌&&◌, ◌||◌, get_or, set, ltb, eqb, Option, Some, None, is_some}
use Rattle.rules.specs.Checks.{◌⇒◌else◌, is_empty, some_of}
use Rattle.rules.specs.Frames.{Object}
use Rattle.rules.specs.Table.{Sifted, measured}
use Rattle.command.specs.declared.Met.{Met}
use Rattle.command.specs.declared.Survey.{Survey}

-- what a survey of sifted objects says
abbrev pub survey_of : Sifted → Survey
survey_of f =
    record {
      flagged = some_of (λ (x : Object). x.flag) f.unexpected;
      ignored = not (is_empty f.unexpected);
      misfit = not (measured f.counting);
    }

-- a survey with one object more: one that counts has its length or not, any other is flagged or not
unfoldable pub noted : Survey → Bool → Bool → Bool → Survey
noted v counts fit flag =
    counts ⇒ record { flagged = v.flagged; ignored = v.ignored; misfit = v.misfit || not fit } else
    record { flagged = v.flagged || flag; ignored = true; misfit = v.misfit }

-- a slot for each number that a row may have, and 0 for all that are higher
abbrev pub slots : ℕ
slots = 72

unfoldable pub slot_of : ℕ → ℕ
slot_of n = ltb n slots ⇒ n else 0

-- what was met, with one object more in a slot: it counts, and the start of the first is kept
abbrev pub met : Met → ℕ → ℕ → Met
met m k start =
    record {
      counts = set m.counts k (get_or m.counts k 0 + 1);
      starts = eqb (get_or m.counts k 0) 0 ⇒ set m.starts k start else m.starts;
    }

-- where the value of the first object of a number starts, by what was met
abbrev pub place_in : Met → ℕ → Option ℕ
place_in m n = let at = get_or m.starts (slot_of n) 0 in eqb at 0 ⇒ None else Some at

-- the required objects besides 01 stand somewhere
abbrev pub all_stand : Option ℕ → Option ℕ → Option ℕ → Bool
all_stand devices own further = is_some devices && (is_some own && is_some further)
