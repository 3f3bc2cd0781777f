-- `session::Channel::is_stream` meets its contract: the number of a stream is 0.
-- Assumes nothing.
use Prim.Native.Nat.{ℕ, zero, suc}
use mathlib.Core.Path.{◌≡◌, refl}
use native.Mathlib.Omega.{arith}
use lib.Dec.{eqb}
use borrow.Author.Tests.{ne_eqb}
use Rattle.rules.specs.State.{is_stream}
use Rattle.session.specs.Picture.{carries_of}
use Rattle.session.proofs.Channel.is_stream.Goals as goal

stream_number : (k : ℕ) → eqb k 0 ≡ is_stream (carries_of k)
unfolding is_stream
stream_number zero = refl
stream_number (suc k) = ne_eqb (suc k) 0 (omega arith)

pub returns : goal.returns
returns c = stream_number c.args.self.carries
