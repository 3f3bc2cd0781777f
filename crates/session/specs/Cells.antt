-- The cells of the pool: which of them are promised to a channel and a way, and where in them held bytes stand.
use Rattle.std.specs.Prelude.{ℕ, ◌+◌, ◌-◌, ◌*◌, ◌≤◌, ◌<◌, ◌≡◌, length, take}
use Rattle.rules.specs.declared.ChannelNumber.{ChannelNumber}
use Rattle.rules.specs.declared.Way.{Way}
use Rattle.rules.specs.declared.Way.TheVariants.{Receive, Send}
use Rattle.rules.specs.State.{State, Chan, chan, queue, held}
use Rattle.rules.specs.Pool.{cell_size, cells, promised_to}

-- the first cell of a channel and a way: behind all cells of the channels before it, receive before send
unfoldable pub first_cell : State → ChannelNumber → Way → ℕ
first_cell a n Receive = promised_to (take (n.0 - 1) a.chans)
first_cell a n Send = promised_to (take (n.0 - 1) a.chans) + cells (chan a n).grant

-- the cell j is promised to the channel and the way
pub record Promised (a : State) (n : ChannelNumber) (w : Way) (j : ℕ) : Type 0 where
  pub from : first_cell a n w ≤ j
  pub upto : j < first_cell a n w + cells (chan a n).grant

-- the place in the pool of the byte at index i of what is held for a channel and a way
abbrev pub held_place : State → ChannelNumber → Way → ℕ → ℕ
held_place a n w i = cell_size * first_cell a n w + i

-- a held byte stands at the place j of the pool
pub record HeldAt (a : State) (j : ℕ) : Type 0 where
  pub number : ChannelNumber
  pub way : Way
  pub index : ℕ
  pub low : 1 ≤ number.0
  pub high : number.0 ≤ 7
  pub within : index < length (held (chan a number) way)
  pub place : j ≡ held_place a number way index

-- two channels that differ at most in the values of the bytes that they hold
pub record SameLengths (c d : Chan) : Type 0 where
  pub grant : c.grant ≡ d.grant
  pub link : c.link ≡ d.link
  pub lengths : (w : Way) → length (held c w) ≡ length (held d w)
  pub ready : c.ready ≡ d.ready
  pub carries : c.carries ≡ d.carries
  pub datagrams : (w : Way) → (queue c w).lengths ≡ (queue d w).lengths
