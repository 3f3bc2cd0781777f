-- `command::read_known` meets its contract: steps 6 to 8.
-- Assumes nothing.
use native.Mathlib.Omega.{arith}
use Rattle.command.specs.Surveys.{all_stand}
use Rattle.command.proofs.Known.{known_flagged, known_incomplete, known_misfit, fitted}
use Rattle.command.proofs.Settling.{devices_within, settle_wrong, settle_asked}
use Rattle.command.proofs.read_known.Goals as goal

pub returns-then-v : goal.returns-then-v
returns-then-v c = known_flagged c.requires c.if-v.true

pub returns-in_default : goal.returns-in_default
returns-in_default c =
    known_incomplete c.requires c.if-v.false (λ i. all_stand (c.in_default.is-0 i) (c.in_default.is-1 i) (c.in_default.is-2 i))

pub returns-in_default-2 : goal.returns-in_default-2
returns-in_default-2 c =
    known_incomplete c.requires c.if-v.false (λ i. all_stand (c.in_default.is-0 i) (c.in_default.is-1 i) c.args.v.further)

pub returns-in_default-3 : goal.returns-in_default-3
returns-in_default-3 c = known_incomplete c.requires c.if-v.false (λ i. all_stand (c.in_default.is-0 i) c.args.v.own c.args.v.further)

pub returns-then-v-2 : goal.returns-then-v-2
returns-then-v-2 c =
    let w = c.in-Some-Some-Some in
    known_misfit c.requires c.if-v.false w.is-0 w.is-1 w.is-2 c.if-v-2.true

pub bounds-s-devices : goal.bounds-s-devices
bounds-s-devices c =
    let w = c.in-Some-Some-Some in
    omega (arith, devices_within (fitted c.requires c.if-v.false w.is-0 w.is-1 w.is-2 c.if-v-2.false))

pub bounds-s-devices-2 : goal.bounds-s-devices-2
bounds-s-devices-2 c =
    let w = c.in-Some-Some-Some in
    omega (arith, devices_within (fitted c.requires c.if-v.false w.is-0 w.is-1 w.is-2 c.if-v-2.false))

pub returns-then-not-is_addressed : goal.returns-then-not-is_addressed
returns-then-not-is_addressed c =
    let w = c.in-Some-Some-Some in
    settle_wrong (fitted c.requires c.if-v.false w.is-0 w.is-1 w.is-2 c.if-v-2.false) c.is_addressed.ensures c.if-not-is_addressed.true

pub returns : goal.returns
returns c p t =
    let w = c.in-Some-Some-Some in
    rw c.from.ensures
    (settle_asked (fitted c.requires c.if-v.false w.is-0 w.is-1 w.is-2 c.if-v-2.false) c.is_addressed.ensures c.if-not-is_addressed.false p t)
