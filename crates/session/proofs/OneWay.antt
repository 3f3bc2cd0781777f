-- No cell is promised to two ways of one channel.
-- Assumes nothing.
use Prim.Native.Nat.{ℕ}
use mathlib.Core.Path.{◌≡◌, refl}
use native.Mathlib.Omega.{arith}
use Rattle.rules.specs.declared.ChannelNumber.{ChannelNumber}
use Rattle.rules.specs.declared.Way.{Way}
use Rattle.rules.specs.declared.Way.TheVariants.{Receive, Send}
use Rattle.rules.specs.State.{State}
use Rattle.session.specs.Cells.{first_cell, Promised}

-- no cell is promised to two ways of one channel
pub one_way : (a : State) (n : ChannelNumber) (v w : Way) (j : ℕ) → Promised a n v j → Promised a n w j → v ≡ w
unfolding first_cell
one_way a n Receive Receive j p q = refl
one_way a n Send Send j p q = refl
one_way a n Receive Send j p q = absurd (omega (arith, p.upto, q.from))
one_way a n Send Receive j p q = absurd (omega (arith, p.from, q.upto))
