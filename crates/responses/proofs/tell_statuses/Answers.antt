-- `responses::tell_statuses` meets its contract: each turn tells of one channel more.
-- Assumes nothing.
use mathlib.Core.Path.{◌∙◌}
use native.Mathlib.Omega.{arith}
use Rattle.responses.proofs.Writes.{after_head}
use Rattle.responses.proofs.Statuses.{sofar_none, sofar_closed, sofar_open, sofar_end, some_stand, none_stands}
use Rattle.responses.proofs.tell_statuses.Goals as goal
use Rattle.responses.proofs.tell_statuses.Goals.{then-c-gt0, else-c-gt0}

pub loop-k-init : goal.loop-k-init
loop-k-init c = sofar_none _ _ _ (after_head _ _ _ _ _ 28 c.tell_result-head.ensures c.requires.1)

pub loop-k-preserved : goal.loop-k-preserved
loop-k-preserved c =
    elim c.if-c-gt0.branch [
      | then-c-gt0 w ↦
          let f = w.tell_status-at.ensures in
          sofar_open _ _ _ _ _ _ _ _ _ _ c.loop-k.invariant (omega arith) (omega arith) c.entry-c.ensures c.loop-k.k (omega arith) w.if-c-gt0.true
          (w.at-is ∙ f.value) (w.out-is ∙ f.out_after)
      | else-c-gt0 w ↦ sofar_closed _ _ _ _ _ _ _ _ _ _ c.loop-k.invariant (omega arith) (omega arith) c.entry-c.ensures w.if-c-gt0.false w.at-is w.out-is
    ]

pub returns-then-at-head : goal.returns-then-at-head
returns-then-at-head c = some_stand _ _ _ _ _ _ _ _ c.tell_result-head.ensures (sofar_end _ _ _ _ _ _ c.loop-k.invariant (omega arith)) c.requires.1 c.if-at-head.true

pub returns : goal.returns
returns c = none_stands _ _ _ _ _ _ _ _ c.tell_result-head.ensures (sofar_end _ _ _ _ _ _ c.loop-k.invariant (omega arith)) c.requires.1 c.if-at-head.false _ _
    c.append.ensures.value c.append.ensures.out_after
