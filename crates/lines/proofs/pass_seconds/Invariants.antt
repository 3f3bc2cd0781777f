-- `lines::pass_seconds` meets its contract: each turn one second more.
-- Assumes nothing.
use Rattle.session.specs.Picture.{Good, view}
use Rattle.lines.proofs.Timing.{Later}
use Rattle.lines.proofs.pass_seconds.Given as goal

abbrev pub invariant-loop : goal.invariant-loop
invariant-loop l = record { began : Good l.initial.session; passed : Later (view l.initial.session) l.counter l.session.ledger l.session.pool }
