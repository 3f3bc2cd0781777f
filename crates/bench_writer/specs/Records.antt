-- A record of the bench, as the code has it, with the byte values that are lent beside it.
use Rattle.std.specs.Prelude.{ℕ, List, Option, Some, None}
use Rattle.std.proofs.Math.Option as math
use Rattle.std.proofs.Math.Option.{none, some}
use Rattle.rules.specs.Reading.{Transport, Body, Command, bare, event_list, open_channel, close_channel, receive_data, send_data}
use Rattle.bench_writer.specs.declared.Level.{Level}
use Rattle.bench_writer.specs.declared.Asking.{Asking}
use Rattle.bench_writer.specs.declared.Asking.TheVariants.{Bare, EventList, Open, Close, Receive, Send}
use Rattle.bench_writer.specs.declared.Record.{Record}

-- a transport level, where there is one
unfoldable pub level_of : Option Level → math.Option Transport
level_of None = none
level_of (Some l) = some (record { protocol = l.protocol; port = l.port })

-- the values that a type has; the bytes are the event list, the bearer's parameters or the data
unfoldable pub body_of : Asking → List ℕ → Body
body_of (Bare kind) s = bare kind
body_of EventList s = event_list s
body_of (Open bearer size level) s = open_channel (record { kind = bearer; parameters = s }) size (level_of level)
body_of Close s = close_channel
body_of (Receive n) s = receive_data n
body_of Send s = send_data s

-- the record as a command
unfoldable pub command_of : Record → List ℕ → Command
command_of r s =
    record {
      number = r.number;
      qualifier = r.qualifier;
      source = r.source;
      destination = r.destination;
      body = body_of r.asking s;
    }
