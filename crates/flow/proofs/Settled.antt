-- Each contract of the loop settles its outcome: that of `gather`, and what it is to fill, for any tool.
-- Assumes nothing.
use Prim.Native.Nat.{ℕ, ◌+◌, ◌≤◌}
use mathlib.Core.Path.{◌≡◌, sym, ap, ◌∙◌}
use mathlib.Core.HLevel.{is_prop→PathP}
use mathlib.Core.List.{List}
use native.Mathlib.Bridge.{le_prop}
use native.Mathlib.Nat.{ℕ_set}
use lib.ListN.{length, take}
use Rattle.octets.specs.Parts.{pasted, pad}
use Rattle.outcomes.specs.Determined.{Determined}
use Rattle.flow.specs.declared.Pending.{Pending}
use Rattle.flow.specs.declared.Progress.{Progress}
use Rattle.flow.specs.Flow.{kept_size, Ends, Reader, Fed, feeds}
use Rattle.flow.specs.Holds.{View, Held, reader_in, Fills}
use Rattle.flow.proofs.Feeding.{held_size}
use Rattle.flow.proofs.Pending.gather.Kinds as gather-kinds
use Rattle.flow.proofs.Pending.gather.Reads as gather-reads

-- two that have the same bytes and keep as many are the same
pub pending_same : (p q : Pending) → p.bytes ≡ q.bytes → p.len ≡ q.len → p ≡ q
pending_same p q b n =
    λ i.
    record {
      bytes = b i;
      len = n i;
      sized = is_prop→PathP (λ j. length (b j) ≡ kept_size) (λ j. ℕ_set (length (b j)) kept_size) p.sized q.sized i;
      within = is_prop→PathP (λ j. n j ≤ kept_size) (λ j. le_prop) p.within q.within i;
    }

pub gather_settled : Determined 2 gather-kinds.ps gather-kinds.r gather-reads.Pre gather-reads.Post
gather_settled κs a _ x y v w p q = (
  p.taken ∙ sym q.taken,
  λ i. (pending_same v.0 w.0 (p.kept ∙ sym q.kept) (p.len ∙ sym q.len) i, v.1),
)

-- two that read the same chunk with one reader
module _ {M K : Type 0} {view : View M K} {e : Ends K} {r : Reader K} {chunk : List ℕ} {h k : Held M} {x y : Progress} {before after after' : List ℕ}
    (f : Fills view e r chunk h x before after) (g : Fills view e r chunk k y before after') where
  next_same : x.next ≡ y.next
  next_same = f.next ∙ sym g.next

  fed_same : feeds e r (take x.next chunk) ≡ feeds e r (take y.next chunk)
  fed_same = ap (λ (n : ℕ). feeds e r (take n chunk)) next_same

  held_same : reader_in view h ≡ reader_in view k
  held_same = f.goes.holds ∙ ap (λ (d : Fed K). d.reader) fed_same ∙ sym g.goes.holds

  pub kept_same : view h.begun h.memory ≡ view k.begun k.memory
  kept_same = ap (λ (r : Reader K). r.kept) held_same

  pub line_same : h.pending ≡ k.pending
  line_same =
      pending_same h.pending k.pending (f.blank ∙ ap (λ (r : Reader K). pad kept_size r.pending) held_same ∙ sym g.blank)
      (sym (held_size h.pending) ∙ ap (λ (r : Reader K). length r.pending) held_same ∙ held_size k.pending)

  pub printed_same : after ≡ after'
  printed_same = f.goes.printed ∙ ap (λ (d : Fed K). pasted before 0 d.out) fed_same ∙ sym g.goes.printed

  pub progress_same : x ≡ y
  progress_same =
      let place = f.goes.place ∙ ap (λ (d : Fed K). 0 + length d.out) fed_same ∙ sym g.goes.place in
      λ i. record { next = next_same i; at = place i }
