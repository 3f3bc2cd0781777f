-- `csim::read_counted` meets its contract: a law for each check.
-- Assumes nothing.
use Rattle.std.proofs.Common.{ap, sym, ◌∙◌, arith, rules}
use borrow.Author.Rules.{part_to_end}
use Rattle.csim.specs.Records.{imported}
use Rattle.csim.proofs.Telling.{unheaded, no_data, miscounted, misstated, fitting}
use Rattle.csim.proofs.read_counted.Goals as goal

pub returns-in_err-kind : goal.returns-in_err-kind
returns-in_err-kind c =
    let e = unheaded c.args.count.now _ _ c.kind_of_frame.ensures (grind arith) in
    search rules

pub returns-then-n-lt-LEAST : goal.returns-then-n-lt-LEAST
returns-then-n-lt-LEAST c = no_data _ _ _ c.kind_of_frame.ensures c.in_ok-kind.kind (grind arith) c.if-n-lt-LEAST.true

pub returns-then-not-count_is : goal.returns-then-not-count_is
returns-then-not-count_is c =
    miscounted _ _ _ c.kind_of_frame.ensures c.in_ok-kind.kind (grind arith) c.if-n-lt-LEAST.false (sym c.count_is.ensures ∙ c.if-not-count_is.true)

pub returns-then-from-n : goal.returns-then-from-n
returns-then-from-n c =
    misstated _ _ _ c.kind_of_frame.ensures c.in_ok-kind.kind (grind arith) c.if-n-lt-LEAST.false (sym c.count_is.ensures ∙ c.if-not-count_is.false) (λ e. grind arith)

pub returns : goal.returns
returns c =
    fitting _ _ _ c.kind_of_frame.ensures c.in_ok-kind.kind (grind arith) c.if-n-lt-LEAST.false (sym c.count_is.ensures ∙ c.if-not-count_is.false) (grind arith)
    ∙ ap (imported c.in_ok-kind.kind) (sym (part_to_end c.args.s.now 5))
