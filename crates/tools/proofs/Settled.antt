-- Each public contract of the tools settles its outcome.
-- Assumes nothing.
use Prim.Native.Nat.{ℕ}
use mathlib.Core.Path.{◌≡◌, refl, sym, ap, ◌∙◌}
use mathlib.Core.HLevel.{is_prop→PathP}
use mathlib.Core.List.{List}
use Rattle.session.specs.Picture.{ledger_of, pool_of}
use Rattle.fetch.specs.Gathers.{gathered_of}
use Rattle.flow.specs.declared.Progress.{Progress}
use Rattle.flow.specs.Flow.{Ends, Reader}
use Rattle.flow.specs.Holds.{Fills}
use Rattle.flow.proofs.Settled.{pending_same, kept_same, line_same, printed_same, progress_same}
use Rattle.outcomes.specs.Determined.{Determined}
use Rattle.tools.specs.declared.Machine.{Machine}
use Rattle.tools.specs.Tools.{Kept, memory, GoodMemory, kept_in}
use Rattle.tools.specs.Props.{GoodMemory-prop}
use Rattle.tools.specs.Machines.{memory_of, held_by}
use Rattle.tools.proofs.tool_named.Kinds as tool-named-kinds
use Rattle.tools.proofs.tool_named.Reads as tool-named-reads
use Rattle.tools.proofs.Machine.new.Kinds as new-kinds
use Rattle.tools.proofs.Machine.new.Reads as new-reads
use Rattle.tools.proofs.Machine.fill.Kinds as fill-kinds
use Rattle.tools.proofs.Machine.fill.Reads as fill-reads
use Rattle.tools.proofs.Machine.finish.Kinds as finish-kinds
use Rattle.tools.proofs.Machine.finish.Reads as finish-reads

-- two machines that have the same parts are the same
module _ (m n : Machine) (b : m.begun ≡ n.begun) (p : m.pending ≡ n.pending) (t : m.session.ledger ≡ n.session.ledger) (q : m.session.pool ≡ n.session.pool)
    (g : m.gathered ≡ n.gathered) where
  machine_same : m ≡ n
  machine_same =
      λ i.
      record {
        begun = b i;
        pending = p i;
        session = record { ledger = t i; pool = q i };
        gathered = g i;
        good = is_prop→PathP (λ j. GoodMemory (memory (t j) (q j) (g j))) (λ j. GoodMemory-prop (memory (t j) (q j) (g j))) m.good n.good i;
      }

-- two that read the same chunk with one reader: what the memory shows is the same, and so are the arrays by it
module _ {e : Ends Kept} {r : Reader Kept} {chunk : List ℕ} (m n : Machine) {x y : Progress} {before after after' : List ℕ}
    (w : Fills kept_in e r chunk (held_by m) x before after) (z : Fills kept_in e r chunk (held_by n) y before after') where
  same : kept_in m.begun (memory_of m) ≡ kept_in n.begun (memory_of n)
  same = kept_same w z

  filled_same : m ≡ n
  filled_same =
      machine_same m n (ap (λ (k : Kept). k.begun) same) (line_same w z)
      (m.good.session.shows.ledger ∙ ap (λ (k : Kept). ledger_of k.state) same ∙ sym n.good.session.shows.ledger)
      (m.good.session.shows.pool ∙ ap (λ (k : Kept). pool_of k.state) same ∙ sym n.good.session.shows.pool)
      (m.good.gathers.is ∙ ap (λ (k : Kept). gathered_of k.gathered) same ∙ sym n.good.gathers.is)

pub fill_settled : Determined 3 fill-kinds.ps fill-kinds.r fill-reads.Pre fill-reads.Post
fill_settled κs a _ x y v w p q = (progress_same p q, λ i. (filled_same v.0 w.0 p q i, (tt, (tt, (printed_same p q i, tt)))))

pub finish_settled : Determined 2 finish-kinds.ps finish-kinds.r finish-reads.Pre finish-reads.Post
finish_settled κs a _ x y v w p q = (progress_same p q, λ i. (filled_same v.0 w.0 p q i, (tt, (printed_same p q i, tt))))

pub new_settled : Determined 0 new-kinds.ps new-kinds.r new-reads.Pre new-reads.Post
new_settled κs a _ x y v w (b, (s, (g, (n, z)))) (d, (t, (h, (m, o)))) = (
  machine_same x y (b ∙ sym d) (pending_same x.pending y.pending (z ∙ sym o) (n ∙ sym m)) (s.ledger ∙ sym t.ledger) (s.pool ∙ sym t.pool) (g ∙ sym h),
  refl,
)

pub tool_named_settled : Determined 1 tool-named-kinds.ps tool-named-kinds.r tool-named-reads.Pre tool-named-reads.Post
tool_named_settled κs a _ x y v w p q = (p ∙ sym q, refl)
