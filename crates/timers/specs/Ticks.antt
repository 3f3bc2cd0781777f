-- A second and a timer that waits, in the ledger's numbers.
use Rattle.std.specs.Prelude.{ℕ, ◌+◌, Bool, not, ◌&&◌, List}
use Rattle.rules.specs.Checks.{◌⇒◌else◌}
use Rattle.rules.specs.Timers.{is_zero, less_second}
use Rattle.octets.specs.Parts.{pasted}
use Rattle.session.specs.Picture.{time_at, time_numbers}

-- the time at a place loses a second, where it is not zero
unfoldable pub ticked_at : List ℕ → ℕ → List ℕ
ticked_at t at = is_zero (time_at t at) ⇒ t else pasted t at (time_numbers (less_second (time_at t at)))

-- of the numbers from a place on: no time is left, and one was started
unfoldable pub waits_at : List ℕ → ℕ → Bool
waits_at t at = is_zero (time_at t at) && not (is_zero (time_at t (at + 3)))
