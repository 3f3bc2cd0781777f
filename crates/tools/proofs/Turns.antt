-- Before the first byte the code may go on and holds what is kept then; each call of `fill` is a turn, and `finish` is the last.
-- Assumes nothing.
use Prim.Native.Nat.{◌≤◌}
use mathlib.Core.Path.{◌≡◌, ap, ◌∙◌}
use mathlib.Core.List.{[]}
use native.Mathlib.Omega.{arith}
use lib.ListN.{length, take}
use contract.Lifetimes.{Lfts}
use denote.Triple.Clauses.{Lasts, at_exit}
use borrow.Fn.Kinds.{Dens, res_t, ended_of}
use Rattle.rules.specs.State.{start}
use Rattle.rules.proofs.Soundness.{start_sound}
use Rattle.session.proofs.Views.{shows_back}
use Rattle.fetch.specs.Gathers.{gathered_in}
use Rattle.fetch.proofs.Records.{gathered_back}
use Rattle.flow.specs.Flow.{printed_size, between, finishes}
use Rattle.flow.specs.Holds.{Turned}
use Rattle.flow.proofs.Turns.{filled_turned, filled_advances, filled_last}
use Rattle.tools.specs.Tools.{first, ends}
use Rattle.tools.specs.Machines.{reader_of}
use Rattle.tools.proofs.Machine.fill.Kinds as fill-kinds
use Rattle.tools.proofs.Machine.fill.Reads as fill-reads
use Rattle.tools.proofs.Machine.finish.Kinds as finish-kinds
use Rattle.tools.proofs.Machine.finish.Reads as finish-reads
use Rattle.tools.proofs.Machine.new.Kinds as new-kinds
use Rattle.tools.proofs.Machine.new.Reads as new-reads

-- a call of `fill` is a turn, from the reader that the code holds to the one that it holds then
pub fill_turned :
    (κs : Lfts 3) (a : Dens κs fill-kinds.ps) (r : (res_t fill-kinds.r κs).Denot) (v : Lasts (ended_of 3 fill-kinds.ps fill-kinds.r) κs a) →
    fill-reads.Post κs a r (at_exit (ended_of 3 fill-kinds.ps fill-kinds.r) κs a v) →
    Turned (ends a.1.0) (reader_of a.0.now) (record { read = take r.next a.1.1.0.now; wrote = take r.at v.1.1.1.0 }) (reader_of v.0)
fill_turned κs a r v h = filled_turned h

-- and reads on, where there is something to read and room for the longest answer
pub fill_advances :
    (κs : Lfts 3) (a : Dens κs fill-kinds.ps) (r : (res_t fill-kinds.r κs).Denot) (v : Lasts (ended_of 3 fill-kinds.ps fill-kinds.r) κs a) →
    fill-reads.Post κs a r (at_exit (ended_of 3 fill-kinds.ps fill-kinds.r) κs a v) → 1 ≤ length a.1.1.0.now → printed_size ≤ length a.1.1.1.0.now → 1 ≤ r.next
fill_advances κs a r v h some room = filled_advances h some room

-- what a call of `finish` gives to be written is what is printed at the end of the input
pub finish_last :
    (κs : Lfts 2) (a : Dens κs finish-kinds.ps) (r : (res_t finish-kinds.r κs).Denot) (v : Lasts (ended_of 2 finish-kinds.ps finish-kinds.r) κs a) →
    finish-reads.Post κs a r (at_exit (ended_of 2 finish-kinds.ps finish-kinds.r) κs a v) → printed_size ≤ length a.1.1.0.now →
    take r.at v.1.1.0 ≡ finishes (ends a.1.0) (reader_of a.0.now)
finish_last κs a r v h room = filled_last h room

-- behind a call of `new` the code holds the reader before the first byte
pub before_first :
    (κs : Lfts 0) (a : Dens κs new-kinds.ps) (r : (res_t new-kinds.r κs).Denot) (v : Lasts (ended_of 0 new-kinds.ps new-kinds.r) κs a) →
    new-reads.Post κs a r (at_exit (ended_of 0 new-kinds.ps new-kinds.r) κs a v) → reader_of r ≡ between first
before_first κs a r v (begun, (session, (gathered, (none, _)))) =
    let state = shows_back (start []) r.session.ledger r.session.pool (start_sound []) session in
    let bytes = ap gathered_in gathered ∙ gathered_back [] (omega arith) in
    λ i. record { kept = record { begun = begun i; state = state i; gathered = bytes i }; pending = take (none i) r.pending.bytes }
