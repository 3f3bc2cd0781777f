-- Each contract of the times settles its outcome.
-- Assumes nothing.
use mathlib.Core.Path.{refl, sym, ◌∙◌}
use Rattle.outcomes.specs.Determined.{Determined}
use Rattle.times.proofs.swap.Kinds as swap-kinds
use Rattle.times.proofs.swap.Reads as swap-reads
use Rattle.times.proofs.unswap.Kinds as unswap-kinds
use Rattle.times.proofs.unswap.Reads as unswap-reads
use Rattle.times.proofs.is_digits.Kinds as is-digits-kinds
use Rattle.times.proofs.is_digits.Reads as is-digits-reads
use Rattle.times.proofs.all_digits.Kinds as all-digits-kinds
use Rattle.times.proofs.all_digits.Reads as all-digits-reads
use Rattle.times.proofs.time_in.Kinds as time-in-kinds
use Rattle.times.proofs.time_in.Reads as time-in-reads
use Rattle.times.proofs.time_bytes.Kinds as time-bytes-kinds
use Rattle.times.proofs.time_bytes.Reads as time-bytes-reads
use Rattle.times.proofs.of_day.Kinds as of-day-kinds
use Rattle.times.proofs.of_day.Reads as of-day-reads
use Rattle.times.proofs.is_zero.Kinds as is-zero-kinds
use Rattle.times.proofs.is_zero.Reads as is-zero-reads
use Rattle.times.proofs.less_second.Kinds as less-second-kinds
use Rattle.times.proofs.less_second.Reads as less-second-reads

pub swap_settled : Determined 0 swap-kinds.ps swap-kinds.r swap-reads.Pre swap-reads.Post
swap_settled κs a _ x y v w p q = (p ∙ sym q, refl)

pub unswap_settled : Determined 0 unswap-kinds.ps unswap-kinds.r unswap-reads.Pre unswap-reads.Post
unswap_settled κs a _ x y v w p q = (p ∙ sym q, refl)

pub is_digits_settled : Determined 0 is-digits-kinds.ps is-digits-kinds.r is-digits-reads.Pre is-digits-reads.Post
is_digits_settled κs a _ x y v w p q = (p ∙ sym q, refl)

pub all_digits_settled : Determined 1 all-digits-kinds.ps all-digits-kinds.r all-digits-reads.Pre all-digits-reads.Post
all_digits_settled κs a _ x y v w p q = (p ∙ sym q, refl)

pub time_in_settled : Determined 1 time-in-kinds.ps time-in-kinds.r time-in-reads.Pre time-in-reads.Post
time_in_settled κs a _ x y v w p q = (p ∙ sym q, refl)

pub time_bytes_settled : Determined 0 time-bytes-kinds.ps time-bytes-kinds.r time-bytes-reads.Pre time-bytes-reads.Post
time_bytes_settled κs a _ x y v w p q = (p ∙ sym q, refl)

pub of_day_settled : Determined 0 of-day-kinds.ps of-day-kinds.r of-day-reads.Pre of-day-reads.Post
of_day_settled κs a _ x y v w p q = (p ∙ sym q, refl)

pub is_zero_settled : Determined 0 is-zero-kinds.ps is-zero-kinds.r is-zero-reads.Pre is-zero-reads.Post
is_zero_settled κs a _ x y v w p q = (p ∙ sym q, refl)

pub less_second_settled : Determined 0 less-second-kinds.ps less-second-kinds.r less-second-reads.Pre less-second-reads.Post
less_second_settled κs a _ x y v w p q = (p ∙ sym q, refl)
