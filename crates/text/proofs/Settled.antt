-- Each contract of the lines settles its outcome.
-- Assumes nothing.
use Prim.Native.Nat.{ℕ}
use mathlib.Core.Path.{◌≡◌, refl, sym, ap, ◌∙◌}
use mathlib.Core.List.{List}
use mathlib.Core.Option.{Option, none, some}
use Rattle.std.specs.Prelude.{Option as CodeOption, Some, None}
use Rattle.rules.specs.Radio.{arrives, takes, drops}
use Rattle.rules.specs.Run.{Call, starting, commanding, radio, timing}
use Rattle.text.specs.declared.Spoken.{Spoken}
use Rattle.text.specs.declared.Spoken.TheVariants.{Command, Arrival, Take, Drop}
use Rattle.text.specs.Calls.{call_spoken}
use Rattle.outcomes.specs.Determined.{Determined}
use Rattle.text.proofs.is_digit.Kinds as is-digit-kinds
use Rattle.text.proofs.is_digit.Reads as is-digit-reads
use Rattle.text.proofs.digit_value.Kinds as digit-value-kinds
use Rattle.text.proofs.digit_value.Reads as digit-value-reads
use Rattle.text.proofs.read_frame.Kinds as read-frame-kinds
use Rattle.text.proofs.read_frame.Reads as read-frame-reads
use Rattle.text.proofs.read_call.Kinds as read-call-kinds
use Rattle.text.proofs.read_call.Reads as read-call-reads
use Rattle.text.proofs.print_char.Kinds as print-char-kinds
use Rattle.text.proofs.print_char.Reads as print-char-reads
use Rattle.text.proofs.print_bytes.Kinds as print-bytes-kinds
use Rattle.text.proofs.print_bytes.Reads as print-bytes-reads
use Rattle.text.proofs.print_value.Kinds as print-value-kinds
use Rattle.text.proofs.print_value.Reads as print-value-reads
use Rattle.text.proofs.print_decimal.Kinds as print-decimal-kinds
use Rattle.text.proofs.print_decimal.Reads as print-decimal-reads
use Rattle.text.proofs.print_refusal.Kinds as print-refusal-kinds
use Rattle.text.proofs.print_refusal.Reads as print-refusal-reads
use Rattle.text.proofs.print.Kinds as print-kinds
use Rattle.text.proofs.print.Reads as print-reads

-- a call as the code tells it, read back from the call
spoken_in : Option Call → CodeOption Spoken
spoken_in (some (commanding k s)) = Some Command
spoken_in (some (radio k n (arrives s))) = Some (Arrival n)
spoken_in (some (radio k n takes)) = Some (Take n k)
spoken_in (some (radio k n drops)) = Some (Drop n)
spoken_in (some (starting p)) = None
spoken_in (some (timing act)) = None
spoken_in none = None

spoken_back : (r : CodeOption Spoken) (s : List ℕ) → spoken_in (call_spoken r s) ≡ r
unfolding spoken_in call_spoken
spoken_back (Some Command) s = refl
spoken_back (Some (Arrival n)) s = refl
spoken_back (Some (Take n k)) s = refl
spoken_back (Some (Drop n)) s = refl
spoken_back None s = refl

pub is_digit_settled : Determined 0 is-digit-kinds.ps is-digit-kinds.r is-digit-reads.Pre is-digit-reads.Post
is_digit_settled κs a _ x y v w p q = (p ∙ sym q, refl)

pub digit_value_settled : Determined 0 digit-value-kinds.ps digit-value-kinds.r digit-value-reads.Pre digit-value-reads.Post
digit_value_settled κs a _ x y v w p q = (p ∙ sym q, refl)

pub read_frame_settled : Determined 2 read-frame-kinds.ps read-frame-kinds.r read-frame-reads.Pre read-frame-reads.Post
read_frame_settled κs a _ x y v w p q = (p.0 ∙ sym q.0, λ i. (tt, ((p.1 ∙ sym q.1) i, tt)))

pub read_call_settled : Determined 1 read-call-kinds.ps read-call-kinds.r read-call-reads.Pre read-call-reads.Post
read_call_settled κs a _ x y v w p q = (sym (spoken_back x _) ∙ ap spoken_in (sym p ∙ q) ∙ spoken_back y _, refl)

-- what is printed, and the place behind it
pub print_char_settled : Determined 1 print-char-kinds.ps print-char-kinds.r print-char-reads.Pre print-char-reads.Post
print_char_settled κs a _ x y v w p q = (p.place ∙ sym q.place, λ i. ((p.stands ∙ sym q.stands) i, v.1))

pub print_bytes_settled : Determined 2 print-bytes-kinds.ps print-bytes-kinds.r print-bytes-reads.Pre print-bytes-reads.Post
print_bytes_settled κs a _ x y v w p q = (p.place ∙ sym q.place, λ i. ((p.stands ∙ sym q.stands) i, v.1))

pub print_value_settled : Determined 2 print-value-kinds.ps print-value-kinds.r print-value-reads.Pre print-value-reads.Post
print_value_settled κs a _ x y v w p q = (p.place ∙ sym q.place, λ i. ((p.stands ∙ sym q.stands) i, v.1))

pub print_decimal_settled : Determined 1 print-decimal-kinds.ps print-decimal-kinds.r print-decimal-reads.Pre print-decimal-reads.Post
print_decimal_settled κs a _ x y v w p q = (p.place ∙ sym q.place, λ i. ((p.stands ∙ sym q.stands) i, v.1))

pub print_refusal_settled : Determined 1 print-refusal-kinds.ps print-refusal-kinds.r print-refusal-reads.Pre print-refusal-reads.Post
print_refusal_settled κs a _ x y v w p q = (p.place ∙ sym q.place, λ i. ((p.stands ∙ sym q.stands) i, v.1))

pub print_settled : Determined 2 print-kinds.ps print-kinds.r print-reads.Pre print-reads.Post
print_settled κs a _ x y v w p q = (p.place ∙ sym q.place, λ i. ((p.stands ∙ sym q.stands) i, v.1))
