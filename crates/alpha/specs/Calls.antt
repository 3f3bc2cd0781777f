-- What the two calls hand back: how they ended, and each lent unit and byte.
use Rattle.std.specs.Prelude.{ℕ, List, ◌++◌, length, drop, ltb}
use Rattle.rules.specs.Checks.{◌⇒◌else◌}
use Rattle.rules.specs.Words.{Ended}
use Rattle.std.specs.Prelude.{Ok, Err}
use Rattle.rules.specs.declared.Refusal.TheVariants.{Malformed, ShortText}
use Rattle.alpha.specs.Reads.{Text, units, malformed}

-- so many are told where they fit the lent buffer, else R14
unfoldable pub fitted : List ℕ → ℕ → Ended
fitted s room = ltb room (length s) ⇒ Err ShortText else Ok (length s)

-- the buffer has them at its front where they fit, and is as it was where they do not
unfoldable pub laid : List ℕ → List ℕ → List ℕ
laid s o = ltb (length o) (length s) ⇒ o else s ++ drop (length s) o

-- R13 is decided over the whole text, then R14
unfoldable pub ended_of : Text → ℕ → Ended
ended_of malformed room = Err Malformed
ended_of (units us) room = fitted us room

unfoldable pub leaves : Text → List ℕ → List ℕ
leaves malformed o = o
leaves (units us) o = laid us o
