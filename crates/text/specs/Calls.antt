-- A call that a frame asks for, as the code tells it.
use Rattle.std.specs.Prelude.{ℕ, List, drop, Option as CodeOption, Some, None}
use Rattle.std.proofs.Math.Option.{Option, none, some}
use Rattle.rules.specs.Command.{lending}
use Rattle.rules.specs.Run.{Call, commanding, arriving, taking_out, dropping_link}
use Rattle.rules.specs.Results.{response_cap, event_cap}
use Rattle.text.specs.declared.Spoken.{Spoken}
use Rattle.text.specs.declared.Spoken.TheVariants.{Command, Arrival, Take, Drop}

-- the call, with the bytes of its frame; none where the frame asks for none
unfoldable pub call_spoken : CodeOption Spoken → List ℕ → Option Call
call_spoken (Some Command) s = some (commanding (lending response_cap) s)
call_spoken (Some (Arrival n)) s = some (arriving event_cap n (drop 2 s))
call_spoken (Some (Take n count)) s = some (taking_out count n)
call_spoken (Some (Drop n)) s = some (dropping_link event_cap n)
call_spoken None s = none
