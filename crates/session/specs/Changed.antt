-- What the changes of one channel ask for and leave behind.
use Rattle.std.specs.Prelude.{ℕ, ◌+◌, ◌-◌, ◌≤◌, ◌≡◌, List}
use Rattle.rules.specs.declared.Events.{Events}
use Rattle.rules.specs.declared.ChannelNumber.{ChannelNumber}
use Rattle.rules.specs.declared.Way.{Way}
use Rattle.rules.specs.declared.Way.TheVariants.{Receive, Send}
use Rattle.rules.specs.State.{State, Chan, chan, with_chan}
use Rattle.session.specs.declared.Channel.{Channel}
use Rattle.session.specs.Picture.{GoodIn, Shows, shown}

-- a good session, and the number of a channel
pub record Numbered (t p : List ℕ) (n : ChannelNumber) : Type 0 where
  pub good : GoodIn t p
  pub low : 1 ≤ n.0
  pub high : n.0 ≤ 7

-- the channel of that number, as the session shows it
abbrev pub chan_in : List ℕ → List ℕ → ChannelNumber → Chan
chan_in t p n = chan (shown t p) n

-- the session is what it was, with the channel c in the place of that number
abbrev pub Changed : List ℕ → List ℕ → ChannelNumber → Chan → List ℕ → List ℕ → Type 0
Changed t p n c t' p' = Shows (with_chan (shown t p) n c) t' p'

-- how many bytes an entry counts for a way, and how many of them are due to be handed out
abbrev pub held_in : Channel → Way → ℕ
held_in e Receive = e.rx
held_in e Send = e.tx

abbrev pub due_in : Channel → Way → ℕ
due_in e Receive = e.rx
due_in e Send = e.ready

-- an entry that counts bytes more for a way, and one without its first bytes
abbrev pub more_in : Channel → Way → ℕ → Channel
more_in e Receive k = record e { rx = e.rx + k }
more_in e Send k = record e { tx = e.tx + k }

abbrev pub less_in : Channel → Way → ℕ → Channel
less_in e Receive k = record e { rx = e.rx - k }
less_in e Send k = record e { tx = e.tx - k; ready = e.ready - k }

-- an entry with the grant and the counts of another; its link and its ready bytes may be others
pub record Marks (e x : Channel) : Type 0 where
  pub grant : e.grant ≡ x.grant
  pub rx : e.rx ≡ x.rx
  pub tx : e.tx ≡ x.tx
  pub carries : e.carries ≡ x.carries
  pub link : e.link ≤ 2

-- the state with another event list
abbrev pub with_events : State → Events → State
with_events a e = record a { events = e }
