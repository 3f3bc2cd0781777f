-- `timers::envelope_in` meets its contract: the law of each way out, at what it calls.
-- Assumes nothing.
use Prim.Native.Nat.{ℕ, ◌+◌, ◌<◌}
use mathlib.Core.Path.{refl, ap, ◌∙◌}
use native.Mathlib.Omega.{arith}
use Rattle.rules.specs.declared.Time.{Time}
use Rattle.rules.specs.Timers.{timer_count, of_day}
use Rattle.rules.specs.Written.{envelope_bytes}
use Rattle.octets.specs.Parts.{overlaid}
use Rattle.session.specs.Picture.{time_at}
use Rattle.session.proofs.Facts.{good_table}
use Rattle.timers.proofs.Records.{place_within, start_put, envelope_short, envelope_none, waiting_below, from_day, envelope_done}
use Rattle.timers.proofs.envelope_in.Goals as goal

pub returns-then-out-lt-ENVELOPE : goal.returns-then-out-lt-ENVELOPE
returns-then-out-lt-ENVELOPE c = envelope_short _ _ c.requires c.args.out.now c.if-out-lt-ENVELOPE.true

pub before_waiting-k-requires : goal.before_waiting-k-requires
before_waiting-k-requires c = c.requires

pub returns-then-k-eq-TIMERS : goal.returns-then-k-eq-TIMERS
returns-then-k-eq-TIMERS c = envelope_none _ _ c.requires c.args.out.now c.if-out-lt-ENVELOPE.false _ c.before_waiting-k.ensures c.if-k-eq-TIMERS.true

-- the timer that waits is one of the eight

pub place_of-place-requires : goal.place_of-place-requires
place_of-place-requires c = (let here : c.before_waiting-k.result < timer_count =
    waiting_below _ _ c.requires c.args.out.now c.if-out-lt-ENVELOPE.false _ c.before_waiting-k.ensures c.if-k-eq-TIMERS.false in here)

pub time_at-from-requires : goal.time_at-from-requires
time_at-from-requires c = let w = place_within _ ((let here : c.before_waiting-k.result < timer_count =
    waiting_below _ _ c.requires c.args.out.now c.if-out-lt-ENVELOPE.false _ c.before_waiting-k.ensures c.if-k-eq-TIMERS.false in here)) in
    omega (arith, w, c.place_of-place.ensures)

pub put_timer-requires : goal.put_timer-requires
put_timer-requires c = let w = place_within _ ((let here : c.before_waiting-k.result < timer_count =
    waiting_below _ _ c.requires c.args.out.now c.if-out-lt-ENVELOPE.false _ c.before_waiting-k.ensures c.if-k-eq-TIMERS.false in here)) in
    omega (arith, w, c.place_of-place.ensures)

pub overflow_cast-k : goal.overflow_cast-k
overflow_cast-k c = omega (
  arith,
  (let here : c.before_waiting-k.result < timer_count =
      waiting_below _ _ c.requires c.args.out.now c.if-out-lt-ENVELOPE.false _ c.before_waiting-k.ensures c.if-k-eq-TIMERS.false in here),
)

pub tell_envelope-requires : goal.tell_envelope-requires
tell_envelope-requires c = let is = c.time_at-from.ensures ∙ ap (λ (n : ℕ). time_at c.args.session.now.ledger (n + 3)) c.place_of-place.ensures in
    (c.if-out-lt-ENVELOPE.false, ap of_day is ∙ from_day _ _ c.requires c.args.out.now c.if-out-lt-ENVELOPE.false _ c.before_waiting-k.ensures c.if-k-eq-TIMERS.false)

pub returns : goal.returns
returns c = let is = c.time_at-from.ensures ∙ ap (λ (n : ℕ). time_at c.args.session.now.ledger (n + 3)) c.place_of-place.ensures in
    envelope_done _ _ c.requires c.args.out.now c.if-out-lt-ENVELOPE.false _ c.before_waiting-k.ensures c.if-k-eq-TIMERS.false _ _
    (start_put _ _ _ c.place_of-place.ensures refl c.put_timer.ensures)
    (c.tell_envelope.ensures ∙ ap (λ (x : Time). overlaid (envelope_bytes (c.before_waiting-k.result + 1) x) c.args.out.now) is)
