-- What a tool leaves behind is what it says of the line, by what it concerns.
-- Assumes nothing.
use Prim.Native.Nat.{ℕ}
use mathlib.Core.Path.{refl}
use mathlib.Core.Bool.{true}
use mathlib.Core.List.{List}
use Rattle.rules.specs.State.{State}
use Rattle.rules.specs.Input.{Said}
use Rattle.lines.specs.Says as lines
use Rattle.fetch.specs.Gathers.{gathered_in}
use Rattle.text.specs.Prints.{Prints}
use Rattle.bursts.specs.Bursts.{Awaits, Tells}
use Rattle.flow.specs.Holds.{Says}
use Rattle.tools.specs.Tools.{Memory, kept_in, in_session, in_bursts, stays}

module _ {m : Memory} {r : ℕ} {out : List ℕ} {at : ℕ} {out' : List ℕ} where
  -- the session alone
  pub session_says :
      {f : Said State} → lines.Says f m.ledger m.pool r out at out' → Says kept_in (in_session (kept_in true m) f) m r out at out'
  session_says h = record { state = λ i. record { begun = true; state = h.state i; gathered = gathered_in m.gathered }; stands = h.stands; place = h.place }

  -- the gathered bytes, too
  pub bursts_says : {f : Said Awaits} → Tells f m.ledger m.pool m.gathered r out at out' → Says kept_in (in_bursts f) m r out at out'
  bursts_says h =
      record {
        state = λ i. record { begun = true; state = (h.kept i).state; gathered = (h.kept i).gathered };
        stands = h.prints.stands;
        place = h.prints.place;
      }

  -- nothing
  pub stays_says : {s : List ℕ} → Prints s r out at out' → Says kept_in (stays (kept_in true m) s) m r out at out'
  stays_says h = record { state = refl; stands = h.stands; place = h.place }
