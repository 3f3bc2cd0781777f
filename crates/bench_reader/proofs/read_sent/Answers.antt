-- `bench_reader::read_sent` meets its contract: the bytes end behind the room.
-- Assumes nothing.
use Rattle.bench_reader.proofs.Following.{room_missed, room_fits}
use Rattle.bench_reader.proofs.read_sent.Goals as goal

pub returns-in_err-room : goal.returns-in_err-room
returns-in_err-room c = λ d x. rw c.from_residual.ensures (room_missed d x c.in_err-room.ensures)

pub returns : goal.returns
returns c = λ d x. room_fits d x c.in_ok-room.ensures
