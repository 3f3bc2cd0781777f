-- The contract of each public call is one step of a run: what it claims makes the record follow from the one before.
-- First the calls by value, then the forms over the record's two arrays.
-- Assumes nothing.
use Prim.Native.Nat.{ℕ}
use mathlib.Core.Path.{◌≡◌, refl, ◌∙◌}
use mathlib.Core.List.{List, []}
use contract.Lifetimes.{Lfts}
use denote.Triple.Clauses.{Lasts, at_exit}
use lib.ListN.{length, replicate}
use borrow.Fn.Kinds.{Dens, res_t, ended_of}
use Rattle.rules.specs.Pool.{pool_size}
use Rattle.rules.specs.State.{start}
use Rattle.rules.specs.Command.{Answer, wrote, lending}
use Rattle.rules.specs.Run.{starting, commanding, timing, arriving, taking_out, dropping_link}
use Rattle.rules.specs.TimerCalls.{second, envelope}
use Rattle.rules.proofs.Soundness.{start_sound}
use Rattle.text.specs.Prints.{outcome_of}
use Rattle.session.specs.declared.Session.{Session}
use Rattle.rules.specs.Words.{Ended}
use Rattle.session.specs.Picture.{Shows}
use Rattle.session.specs.Calls.{Answers}
use Rattle.session.proofs.Views.{shows_good}
use Rattle.session.proofs.Starts.{empty_pool}
use Rattle.bridge.specs.Reached.{Left, Called}
use Rattle.session.proofs.start.Kinds as start-kinds
use Rattle.session.proofs.start.Reads as start-reads
use Rattle.session.proofs.Session.restart.Kinds as restart-kinds
use Rattle.session.proofs.Session.restart.Reads as restart-reads
use Rattle.session.proofs.start_ledger.Kinds as start-ledger-kinds
use Rattle.session.proofs.start_ledger.Reads as start-ledger-reads
use Rattle.radio.proofs.arrival.Kinds as arrival-kinds
use Rattle.radio.proofs.arrival.Reads as arrival-reads
use Rattle.radio.proofs.take.Kinds as take-kinds
use Rattle.radio.proofs.take.Reads as take-reads
use Rattle.radio.proofs.drop.Kinds as drop-kinds
use Rattle.radio.proofs.drop.Reads as drop-reads
use Rattle.modem.proofs.command.Kinds as command-kinds
use Rattle.modem.proofs.command.Reads as command-reads
use Rattle.radio.proofs.arrival_in.Kinds as arrival-in-kinds
use Rattle.radio.proofs.arrival_in.Reads as arrival-in-reads
use Rattle.radio.proofs.taking_in.Kinds as taking-in-kinds
use Rattle.radio.proofs.taking_in.Reads as taking-in-reads
use Rattle.radio.proofs.dropping_in.Kinds as dropping-in-kinds
use Rattle.radio.proofs.dropping_in.Reads as dropping-in-reads
use Rattle.modem.proofs.command_in.Kinds as command-in-kinds
use Rattle.modem.proofs.command_in.Reads as command-in-reads
use Rattle.timers.proofs.pass_second.Kinds as pass-second-kinds
use Rattle.timers.proofs.pass_second.Reads as pass-second-reads
use Rattle.timers.proofs.envelope_in.Kinds as envelope-in-kinds
use Rattle.timers.proofs.envelope_in.Reads as envelope-in-reads

-- a call that is the answer x left the record t, and what it wrote is seen at the front of the buffer
pub left_by_lem :
    {x : Answer} {e : Ended} {before after : List ℕ} (t : Session) →
    Answers x t.ledger t.pool e before after → Left x (length before) t (outcome_of e after)
left_by_lem {x} {e} {before} {after} t h = record { before = before; after = after; ended = e; size = refl; answers = h; seen = refl }

-- the start: the record handed back is a start, whatever stood before it
pub start_called :
    (κs : Lfts 1) (a : Dens κs start-kinds.ps) (r : (res_t start-kinds.r κs).Denot) (v : Lasts (ended_of 1 start-kinds.ps start-kinds.r) κs a) →
    start-reads.Post κs a r (at_exit (ended_of 1 start-kinds.ps start-kinds.r) κs a v) → (s : Session) → Called s (starting a.0.now) r (wrote [])
start_called κs a r v h s = record { shows = h.0; good = h.1; seen = refl }

-- the command call: the record handed back follows from the one handed in
pub command_called :
    (κs : Lfts 2) (a : Dens κs command-kinds.ps) (r : (res_t command-kinds.r κs).Denot) (v : Lasts (ended_of 2 command-kinds.ps command-kinds.r) κs a) →
    command-reads.Post κs a r (at_exit (ended_of 2 command-kinds.ps command-kinds.r) κs a v) →
    Called a.0 (commanding (lending (length a.1.1.0.now)) a.1.0.now) r.session (outcome_of r.ended v.1.1.0)
command_called κs a r v h = left_by_lem r.session h

-- the arrival: the record handed back follows from the one handed in
pub arrival_called :
    (κs : Lfts 2) (a : Dens κs arrival-kinds.ps) (r : (res_t arrival-kinds.r κs).Denot) (v : Lasts (ended_of 2 arrival-kinds.ps arrival-kinds.r) κs a) →
    arrival-reads.Post κs a r (at_exit (ended_of 2 arrival-kinds.ps arrival-kinds.r) κs a v) →
    Called a.0 (arriving (length a.1.1.1.0.now) a.1.0 a.1.1.0.now) r.session (outcome_of r.ended v.1.1.1.0)
arrival_called κs a r v h = left_by_lem r.session h

-- the take: the record handed back follows from the one handed in
pub take_called :
    (κs : Lfts 1) (a : Dens κs take-kinds.ps) (r : (res_t take-kinds.r κs).Denot) (v : Lasts (ended_of 1 take-kinds.ps take-kinds.r) κs a) →
    take-reads.Post κs a r (at_exit (ended_of 1 take-kinds.ps take-kinds.r) κs a v) →
    Called a.0 (taking_out (length a.1.1.0.now) a.1.0) r.session (outcome_of r.ended v.1.1.0)
take_called κs a r v h = left_by_lem r.session h

-- the drop: the record handed back follows from the one handed in
pub drop_called :
    (κs : Lfts 1) (a : Dens κs drop-kinds.ps) (r : (res_t drop-kinds.r κs).Denot) (v : Lasts (ended_of 1 drop-kinds.ps drop-kinds.r) κs a) →
    drop-reads.Post κs a r (at_exit (ended_of 1 drop-kinds.ps drop-kinds.r) κs a v) →
    Called a.0 (dropping_link (length a.1.1.0.now) a.1.0) r.session (outcome_of r.ended v.1.1.0)
drop_called κs a r v h = left_by_lem r.session h

-- the record of two arrays
abbrev both : List ℕ → List ℕ → Session
both l p = record { ledger = l; pool = p }

-- the start over the ledger: with a pool of zeros it is a start, whatever stood before it
pub start_in_called :
    (κs : Lfts 2) (a : Dens κs start-ledger-kinds.ps) (r : (res_t start-ledger-kinds.r κs).Denot) →
    (v : Lasts (ended_of 2 start-ledger-kinds.ps start-ledger-kinds.r) κs a) (pool : List ℕ) → pool ≡ replicate pool_size 0 →
    start-ledger-reads.Post κs a r (at_exit (ended_of 2 start-ledger-kinds.ps start-ledger-kinds.r) κs a v) →
    (s : Session) → Called s (starting a.1.0.now) (both v.0 pool) (wrote [])
start_in_called κs a r v pool zeros h s =
    let p = a.1.0.now in
    let shows : Shows (start p) v.0 pool = record { ledger = h; pool = zeros ∙ empty_pool p } in
    record { shows = shows; good = shows_good (start p) v.0 pool (start_sound p) shows; seen = refl }

-- the start over a lent record is a start, whatever the record held
pub restart_called :
    (κs : Lfts 2) (a : Dens κs restart-kinds.ps) (r : (res_t restart-kinds.r κs).Denot) (v : Lasts (ended_of 2 restart-kinds.ps restart-kinds.r) κs a) →
    restart-reads.Post κs a r (at_exit (ended_of 2 restart-kinds.ps restart-kinds.r) κs a v) → (s : Session) → Called s (starting a.1.0.now) v.0 (wrote [])
restart_called κs a r v h s = record { shows = h.0; good = h.1; seen = refl }

-- the command call over the lent record: what it is at its exit follows from what it was at its entry
pub command_in_called :
    (κs : Lfts 3) (a : Dens κs command-in-kinds.ps) (r : (res_t command-in-kinds.r κs).Denot) (v : Lasts (ended_of 3 command-in-kinds.ps command-in-kinds.r) κs a) →
    command-in-reads.Post κs a r (at_exit (ended_of 3 command-in-kinds.ps command-in-kinds.r) κs a v) →
    Called a.0.now (commanding (lending (length a.1.1.0.now)) a.1.0.now) v.0 (outcome_of r v.1.1.0)
command_in_called κs a r v h = left_by_lem v.0 h

-- the arrival over the lent record
pub arrival_in_called :
    (κs : Lfts 3) (a : Dens κs arrival-in-kinds.ps) (r : (res_t arrival-in-kinds.r κs).Denot) (v : Lasts (ended_of 3 arrival-in-kinds.ps arrival-in-kinds.r) κs a) →
    arrival-in-reads.Post κs a r (at_exit (ended_of 3 arrival-in-kinds.ps arrival-in-kinds.r) κs a v) →
    Called a.0.now (arriving (length a.1.1.1.0.now) a.1.0 a.1.1.0.now) v.0 (outcome_of r v.1.1.1.0)
arrival_in_called κs a r v h = left_by_lem v.0 h

-- the take over the lent record
pub taking_in_called :
    (κs : Lfts 2) (a : Dens κs taking-in-kinds.ps) (r : (res_t taking-in-kinds.r κs).Denot) (v : Lasts (ended_of 2 taking-in-kinds.ps taking-in-kinds.r) κs a) →
    taking-in-reads.Post κs a r (at_exit (ended_of 2 taking-in-kinds.ps taking-in-kinds.r) κs a v) →
    Called a.0.now (taking_out (length a.1.1.0.now) a.1.0) v.0 (outcome_of r v.1.1.0)
taking_in_called κs a r v h = left_by_lem v.0 h

-- the drop over the lent record
pub dropping_in_called :
    (κs : Lfts 2) (a : Dens κs dropping-in-kinds.ps) (r : (res_t dropping-in-kinds.r κs).Denot) (v : Lasts (ended_of 2 dropping-in-kinds.ps dropping-in-kinds.r) κs a) →
    dropping-in-reads.Post κs a r (at_exit (ended_of 2 dropping-in-kinds.ps dropping-in-kinds.r) κs a v) →
    Called a.0.now (dropping_link (length a.1.1.0.now) a.1.0) v.0 (outcome_of r v.1.1.0)
dropping_in_called κs a r v h = left_by_lem v.0 h

-- a second over the lent record: it writes nothing, and is lent no buffer
pub second_called :
    (κs : Lfts 1) (a : Dens κs pass-second-kinds.ps) (r : (res_t pass-second-kinds.r κs).Denot) (v : Lasts (ended_of 1 pass-second-kinds.ps pass-second-kinds.r) κs a) →
    pass-second-reads.Post κs a r (at_exit (ended_of 1 pass-second-kinds.ps pass-second-kinds.r) κs a v) →
    Called a.0.now (timing second) v.0 (wrote [])
unfolding outcome_of
second_called κs a r v h = left_by_lem v.0 h

-- the envelope over the lent record
pub envelope_called :
    (κs : Lfts 2) (a : Dens κs envelope-in-kinds.ps) (r : (res_t envelope-in-kinds.r κs).Denot) (v : Lasts (ended_of 2 envelope-in-kinds.ps envelope-in-kinds.r) κs a) →
    envelope-in-reads.Post κs a r (at_exit (ended_of 2 envelope-in-kinds.ps envelope-in-kinds.r) κs a v) →
    Called a.0.now (timing (envelope (length a.1.0.now))) v.0 (outcome_of r v.1.0)
envelope_called κs a r v h = left_by_lem v.0 h
