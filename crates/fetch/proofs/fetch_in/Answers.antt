-- `fetch::fetch_in` meets its contract: R1, or what the bytes come to that the burst brings.
-- Assumes nothing.
use native.Mathlib.Omega.{arith}
use Rattle.fetch.specs.Gathers.{gathered_in}
use Rattle.fetch.proofs.Records.{gathers_stand, stands_size}
use Rattle.fetch.proofs.Bringing.{brought_count}
use Rattle.fetch.proofs.Concluding.{fetch_short, fetch_stands, fetch_told}
use Rattle.fetch.proofs.fetch_in.Goals as goal

pub returns-then-out-lt-RESPONSE : goal.returns-then-out-lt-RESPONSE
returns-then-out-lt-RESPONSE c = fetch_short _ _ c.requires.1 _ _ _ c.requires.0 c.if-out-lt-RESPONSE.true

pub overflow_cast-held : goal.overflow_cast-held
overflow_cast-held c = let f = (gathers_stand _ c.requires.1).fits in record { fits = omega (arith, f) }

pub bring-taken-requires : goal.bring-taken-requires
bring-taken-requires c = (stands_size _ _ (gathers_stand _ c.requires.1), (gathers_stand _ c.requires.1).fits)

pub overflow_add-held : goal.overflow_add-held
unfolding gathered_in
overflow_add-held c = let f = (fetch_stands _ _ c.requires.1 _ _ c.bring-taken.ensures.value c.bring-taken.ensures.gathered_after).fits in omega (arith, f)

pub conclude-ended-requires : goal.conclude-ended-requires
unfolding gathered_in
conclude-ended-requires c = (c.requires.0, fetch_stands _ _ c.requires.1 _ _ c.bring-taken.ensures.value c.bring-taken.ensures.gathered_after)

pub overflow_sub-result : goal.overflow_sub-result
overflow_sub-result c = brought_count _ _ _ c.bring-taken.ensures.value

pub returns : goal.returns
unfolding gathered_in
returns c = fetch_told _ _ c.requires.1 _ _ c.bring-taken.ensures.value c.bring-taken.ensures.gathered_after _ _ _ _ _ _ _ _ c.if-out-lt-RESPONSE.false c.conclude-ended.ensures
