-- The loop between two pieces of its input, as the code keeps it, over any memory M: what it shows.
use Rattle.std.specs.Prelude.{ℕ, ◌+◌, ◌≡◌, Bool, true, List, [], ◌∷◌, length, take, drop}
use Rattle.octets.specs.Parts.{pasted, pad}
use Rattle.rules.specs.Input.{Said}
use Rattle.flow.specs.Flow.{kept_size, Ends, Reader, Fed, feeds, piece, fitting, read_within}
use Rattle.flow.specs.declared.Pending.{Pending}
use Rattle.flow.specs.declared.Progress.{Progress}

-- what a memory shows, before the first line and behind it
abbrev pub View : Type 0 → Type 0 → Type 0
View M K = Bool → M → K

-- what the code holds: whether the first line was read, what is kept of a line that is not whole yet, and a memory
pub record Held (M : Type 0) : Type 0 where
  pub begun : Bool
  pub pending : Pending
  pub memory : M

-- the line's bytes so far
abbrev pub line_of : Pending → List ℕ
line_of p = take p.len p.bytes

-- the reader that the code holds
abbrev pub reader_in : {M K : Type 0} → View M K → Held M → Reader K
reader_in view h = record { kept = view h.begun h.memory; pending = line_of h.pending }

-- a line ended so: the memory shows what is kept behind it, and what is printed stands in the output from its place on
pub record Says {M K : Type 0} (view : View M K) (f : Said K) (m : M) (end : ℕ) (before : List ℕ) (at : ℕ) (after : List ℕ) : Type 0 where
  pub state : view true m ≡ f.kept
  pub stands : after ≡ pasted before at f.out
  pub place : end ≡ at + length f.out

-- a piece was read
pub record Goes {M K : Type 0} (view : View M K) (f : Fed K) (h : Held M) (end : ℕ) (before : List ℕ) (at : ℕ) (after : List ℕ) : Type 0 where
  pub holds : reader_in view h ≡ f.reader
  pub printed : after ≡ pasted before at f.out
  pub place : end ≡ at + length f.out

-- the line's buffer: what was kept of the piece stands behind what it had
pub record Keeps (c : Progress) (before : Pending) (chunk : List ℕ) (from : ℕ) (after : Pending) : Type 0 where
  pub kept : after.bytes ≡ pasted before.bytes before.len (fitting before.len (drop from chunk))
  pub next : c.next ≡ from + length (piece (drop from chunk))

-- so much of a chunk was read: what that printed stands at the front of the output, and the line's buffer has what is kept of a line and 0 behind it
pub record Fills {M K : Type 0} (view : View M K) (e : Ends K) (r : Reader K) (chunk : List ℕ) (h : Held M) (c : Progress) (before after : List ℕ) : Type 0 where
  pub next : c.next ≡ read_within e r chunk (length before)
  pub goes : Goes view (feeds e r (take c.next chunk)) h c.at before 0 after
  pub blank : h.pending.bytes ≡ pad kept_size (line_of h.pending)

-- a turn: the bytes of the input that it read, and the bytes that it wrote
pub record Turn : Type 0 where
  pub read : List ℕ
  pub wrote : List ℕ

-- turns, one after the other
pub record Turned {K : Type 0} (e : Ends K) (r : Reader K) (u : Turn) (q : Reader K) : Type 0 where
  pub wrote : u.wrote ≡ (feeds e r u.read).out
  pub reader : q ≡ (feeds e r u.read).reader

abbrev pub Turns : {K : Type 0} → Ends K → Reader K → List Turn → Reader K → Type 0
Turns e r [] q = r ≡ q
Turns e r (u ∷ us) q = (m : Reader _) × Turned e r u m × Turns e m us q
