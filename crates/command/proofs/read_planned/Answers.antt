-- `command::read_planned` meets its contract: step 4, and step 5 for a type that has a plan.
-- Assumes nothing.
use Rattle.command.proofs.Opening.{row_is, planned_cut, begun, forbidden_read, typed}
use Rattle.command.proofs.read_planned.Goals as goal

pub go_through-requires : goal.go_through-requires
go_through-requires c = (c.requires.0.small, c.requires.2, row_is c.requires.0 c.requires.1)

pub returns-in_default : goal.returns-in_default
returns-in_default c = planned_cut c.requires.0 c.requires.1 c.in_default.ensures _

pub allowed-requires : goal.allowed-requires
allowed-requires c =
    let p = c.requires.1.place in
    record { le_byte = ((p.byte_low, p.byte_high), (p.bit_low, p.bit_high)); profile_size_in_bounds = c.requires.3 }

pub returns-then-not-allowed : goal.returns-then-not-allowed
returns-then-not-allowed c = forbidden_read c.requires.0 c.requires.1 c.in-Ok.ensures _ c.allowed.ensures c.if-not-allowed.true

pub read_known-requires : goal.read_known-requires
read_known-requires c = begun c.requires.0 c.requires.1 c.in-Ok.ensures

pub returns : goal.returns
returns c = c.read_known.ensures _ (typed c.requires.0 c.requires.1 c.in-Ok.ensures _ c.allowed.ensures c.if-not-allowed.false)
