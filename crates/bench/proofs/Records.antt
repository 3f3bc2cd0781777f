-- The values of a record in its frame.
-- Assumes nothing.
use Prim.Native.Nat.{ℕ, ◌+◌, ◌*◌, ◌≤◌, ◌<◌}
use mathlib.Core.Path.{◌≡◌, sym, ap, ◌∙◌}
use mathlib.Core.List.{List}
use mathlib.Core.Option.{Option, none, some}
use native.Mathlib.Omega.{arith}
use lib.ListN.{length, get_or, take, drop, length-drop}
use lib.Seq.{get_or-drop, drop-drop}
use borrow.Author.Rules.{part_to_end}
use borrow.Author.Tests.{lt-ltb, le-ltb, eq-eqb, ne_eqb}
use Rattle.rules.specs.Words.{Ended}
use Rattle.rules.specs.declared.Refusal.TheVariants.{Unreadable}
use Rattle.rules.specs.Reading.{Body, open_channel, pair_in, transport_in}
use Rattle.rules.specs.Command.{refused, ended_of, written_by}
use Rattle.rules.specs.Bench.{bench_read, bench_write}
use Rattle.rules.proofs.Laws.{checks, stop, skip, empty_length}
use Rattle.octets.specs.Parts.{part, overlaid}
use Rattle.text.specs.Prints.{outcome_of, line_of, Prints}
use Rattle.text.proofs.Bounds.{front_back}
use Rattle.text.proofs.Printing.{prints_as}
use Rattle.bench_writer.specs.declared.Asking.{Asking}
use Rattle.bench_writer.specs.declared.Record.{Record}
use Rattle.bench_writer.specs.Records.{body_of, command_of}
use Rattle.bench.specs.Printed.{opening_in, body_for, command_for, record_in, record_line, reply_line, heard_line}

-- the values of an OPEN CHANNEL: none, where what stands behind the parameters is of no length that fits
pub opening_unfit : (v : List ℕ) → (length v ≡ 2 + get_or v 1 0 + 2 → ⊥) → (length v ≡ 2 + get_or v 1 0 + 5 → ⊥) → opening_in v ≡ none
unfolding opening_in
opening_unfit v n m =
    let rest = drop (2 + get_or v 1 0) v in
    let l = length-drop (2 + get_or v 1 0) v in
    skip _ _ _ (ne_eqb (length rest) 2 (λ e. n (omega arith))) ∙ skip _ _ _ (ne_eqb (length rest) 5 (λ e. m (omega arith)))

-- its parameters, and what stands behind them
module _ (v : List ℕ) {count size : ℕ} {bytes rest : List ℕ} (c : count ≡ get_or v 1 0) (f : bytes ≡ take count (part 2 (length v) v)) (r : rest ≡ drop count (part 2 (length v) v))
    (q : size ≡ 256 * get_or rest 0 0 + get_or rest 1 0) where
  bytes_is : take (get_or v 1 0) (drop 2 v) ≡ bytes
  bytes_is = ap (λ (k : ℕ). take k (drop 2 v)) (sym c) ∙ ap (take count) (sym (part_to_end v 2)) ∙ sym f

  rest_is : drop (2 + get_or v 1 0) v ≡ rest
  rest_is = ap (λ (k : ℕ). drop (2 + k) v) (sym c) ∙ sym (drop-drop count 2 v) ∙ ap (drop count) (sym (part_to_end v 2)) ∙ sym r

  pub opening_without : length rest ≡ 2 → opening_in v ≡ some (open_channel (record { kind = get_or v 0 0; parameters = bytes }) size none)
  unfolding opening_in pair_in
  opening_without e = rw (rest_is, bytes_is, q) (stop _ _ _ (eq-eqb (length rest) 2 e))

  pub opening_with :
      {level : List ℕ} {port : ℕ} → level ≡ part 2 (length rest) rest → port ≡ 256 * get_or level 1 0 + get_or level 2 0 → length rest ≡ 5 →
      opening_in v ≡ some (open_channel (record { kind = get_or v 0 0; parameters = bytes }) size (some (record { protocol = get_or level 0 0; port = port })))
  unfolding opening_in pair_in transport_in
  opening_with l p e =
      let tail = sym (part_to_end rest 2) ∙ sym l in
      rw (rest_is, bytes_is, q, p) (skip _ _ _ (ne_eqb (length rest) 2 (omega arith)) ∙ stop _ _ _ (eq-eqb (length rest) 5 e) ∙ rw tail (simp get_or-drop))

-- the values of the other types
pub ruleset values = (checks, empty_length)

-- the command of a record, as it was written
pub command_line :
    (s : List ℕ) (a : Asking) (w : List ℕ) (x : Ended) (c c' : List ℕ) {before after : List ℕ} {at r : ℕ} →
    let order : Record = record { number = get_or s 1 0; qualifier = get_or s 3 0; source = record { 0 = get_or s 4 0 }; destination = record { 0 = get_or s 5 0 }; asking = a } in
    (x ≡ ended_of (bench_write (length c) (command_of order w))) × (c' ≡ overlaid (written_by (bench_write (length c) (command_of order w))) c) → length c ≡ 256 →
    Prints (line_of (outcome_of x c')) r before at after → Prints (record_line (command_for s (some (body_of a w)))) r before at after
unfolding record_line command_for command_of
command_line s a w x c c' t l p =
    let order : Record = record { number = get_or s 1 0; qualifier = get_or s 3 0; source = record { 0 = get_or s 4 0 }; destination = record { 0 = get_or s 5 0 }; asking = a } in
    prints_as
    (ap line_of
    ((λ i. outcome_of (t.0 i) (t.1 i)) ∙ front_back (bench_write (length c) (command_of order w)) c ∙ ap (λ (k : ℕ). bench_write k (command_of order w)) l))
    p

-- the line of a record
module _ (s before : List ℕ) (at r : ℕ) (after : List ℕ) where
  pub short_record : length s < 6 → Prints (line_of (refused Unreadable)) r before at after → Prints (record_line (record_in s)) r before at after
  unfolding record_in record_line
  short_record h w = prints_as (ap record_line (sym (stop _ _ _ (lt-ltb (length s) 6 h)))) w

  pub record_line_lem :
      (b : Option Body) → 6 ≤ length s → body_for (get_or s 2 0) (part 6 (length s) s) ≡ b → Prints (record_line (command_for s b)) r before at after →
      Prints (record_line (record_in s)) r before at after
  unfolding record_in
  record_line_lem b h e w =
      let is = sym e ∙ ap (body_for (get_or s 2 0)) (part_to_end s 6) in
      prints_as (ap record_line (ap (command_for s) is ∙ sym (skip _ _ _ (le-ltb (length s) 6 h)))) w

  -- the line of a frame, by its first byte
  pub heard_reply : get_or s 0 0 ≡ 0x81 → Prints (heard_line (bench_read s)) r before at after → Prints (reply_line (some s)) r before at after
  unfolding reply_line
  heard_reply e w = prints_as (sym (stop _ _ _ (eq-eqb (get_or s 0 0) 0x81 e))) w

  module _ (n : get_or s 0 0 ≡ 0x81 → ⊥) where
    pub record_reply : get_or s 0 0 ≡ 0xB0 → Prints (record_line (record_in s)) r before at after → Prints (reply_line (some s)) r before at after
    unfolding reply_line
    record_reply e w = prints_as (sym (skip _ _ _ (ne_eqb (get_or s 0 0) 0x81 n) ∙ stop _ _ _ (eq-eqb (get_or s 0 0) 0xB0 e))) w

    pub other_reply : (get_or s 0 0 ≡ 0xB0 → ⊥) → Prints (line_of (refused Unreadable)) r before at after → Prints (reply_line (some s)) r before at after
    unfolding reply_line
    other_reply m w = prints_as (sym (skip _ _ _ (ne_eqb (get_or s 0 0) 0x81 n) ∙ skip _ _ _ (ne_eqb (get_or s 0 0) 0xB0 m))) w
