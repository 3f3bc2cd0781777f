-- What a machine holds between two pieces of its input, and the reader that it is.
use Rattle.flow.specs.Flow.{Reader}
use Rattle.flow.specs.Holds.{Held, reader_in}
use Rattle.tools.specs.Tools.{Kept, Memory, memory, kept_in}
use Rattle.tools.specs.declared.Machine.{Machine}

abbrev pub memory_of : Machine → Memory
memory_of m = memory m.session.ledger m.session.pool m.gathered

abbrev pub held_by : Machine → Held Memory
held_by m = record { begun = m.begun; pending = m.pending; memory = memory_of m }

abbrev pub reader_of : Machine → Reader Kept
reader_of m = reader_in kept_in (held_by m)
