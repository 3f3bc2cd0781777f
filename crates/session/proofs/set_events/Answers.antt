-- `session::set_events` meets its contract: its two numbers, and the others as they were.
-- Assumes nothing.
use mathlib.Core.Path.{◌≡◌, refl}
use mathlib.Core.Bool.{Bool, true, false}
use lib.ListN.{set}
use mir.Val.{bool_byte}
use Rattle.session.specs.Book.{available_at, status_at, listed_number, with_list}
use Rattle.session.proofs.set_events.Goals as goal

byte_is : (b : Bool) → bool_byte b ≡ listed_number b
byte_is true = refl
byte_is false = refl

pub returns : goal.returns
unfolding with_list
returns c = λ i. set (set c.args.ledger.now available_at (byte_is c.args.events.available i)) status_at (byte_is c.args.events.status i)
