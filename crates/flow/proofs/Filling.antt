-- A chunk that is read line by line: how far it is read, and what holds between two lines of it.
-- Assumes nothing.
use Prim.Native.Nat.{ℕ, zero, suc, ◌+◌, ◌-◌, ◌≤◌, ◌<◌}
use mathlib.Core.Path.{◌≡◌, refl, sym, ap, ◌∙◌}
use mathlib.Core.List.{List, [], ◌∷◌, ◌++◌, append-nil}
use native.Mathlib.Omega.{arith}
use lib.ListN.{length, take, drop, replicate, length-append, length-take, length-drop, drop_of_length-le}
use lib.Seq.{take-add, take_at, drop-drop, length-take-le}
use lib.Dec.{ltb}
use borrow.Author.Tests.{lt-ltb, le-ltb}
use borrow.Rule.Slice.PartMut.{mid_of, put_mid}
use Rattle.rules.specs.Checks.{◌⇒◌else◌}
use Rattle.rules.proofs.Laws.{stop, skip, branch}
use Rattle.octets.specs.Parts.{pasted, pad}
use Rattle.octets.proofs.Pastes.{paste_after, length_pasted}
use Rattle.flow.specs.declared.Pending.{Pending}
use Rattle.flow.specs.declared.Progress.{Progress}
use Rattle.flow.specs.Flow.{kept_size, printed_size, Ends, Reader, Fed, feeds, piece, read_up_to, read_within}
use Rattle.flow.specs.Holds.{View, Held, line_of, reader_in, Goes, Keeps, Fills}
use Rattle.octets.proofs.Stores.{paste_none}
use Rattle.flow.proofs.Gathering.{piece_front, piece_some, piece_few}
use Rattle.flow.proofs.Flows.{fed_pieces}
use Rattle.flow.proofs.Feeding.{held_size}

-- behind the first line of a list less is left
rest_less : (c : ℕ) (s : List ℕ) → length (drop (length (piece (c ∷ s))) (c ∷ s)) ≤ length s
rest_less c s =
    let e = length-drop (length (piece (c ∷ s))) (c ∷ s) in
    let k = piece_some (c ∷ s) (omega arith) in
    omega arith

module _ {K : Type 0} (e : Ends K) where
  -- of nothing, nothing is read
  up_to_none : (n : ℕ) (r : Reader K) (room : ℕ) → read_up_to e n r [] room ≡ 0
  unfolding read_up_to
  up_to_none zero r room = refl
  up_to_none (suc n) r room = refl

  -- how many lines are allowed for does not matter, where they are as many as the bytes
  up_to_enough : (n m : ℕ) (r : Reader K) (s : List ℕ) (room : ℕ) → length s ≤ n → length s ≤ m → read_up_to e n r s room ≡ read_up_to e m r s room
  unfolding read_up_to
  up_to_enough zero m r [] room h k = sym (up_to_none m r room)
  up_to_enough (suc n) m r [] room h k = sym (up_to_none m r room)
  up_to_enough zero m r (c ∷ s) room h k = absurd (let z : length (c ∷ s) ≤ 0 = h in omega arith)
  up_to_enough (suc n) zero r (c ∷ s) room h k = absurd (let z : length (c ∷ s) ≤ 0 = k in omega arith)
  up_to_enough (suc n) (suc m) r (c ∷ s) room h k =
      let l = piece (c ∷ s) in
      let f = feeds e r l in
      let t = rest_less c s in
      ap (λ (j : ℕ). ltb room printed_size ⇒ 0 else length l + j)
      (up_to_enough n m f.reader (drop (length l) (c ∷ s)) (room - length f.out) (omega arith) (omega arith))

  up_to_few : (n : ℕ) (r : Reader K) (s : List ℕ) (room : ℕ) → read_up_to e n r s room ≤ length s
  unfolding read_up_to
  up_to_few zero r s room = omega arith
  up_to_few (suc n) r [] room = omega arith
  up_to_few (suc n) r (c ∷ s) room =
      let l = piece (c ∷ s) in
      let f = feeds e r l in
      let rest = drop (length l) (c ∷ s) in
      let k = piece_few (c ∷ s) in
      let d = length-drop (length l) (c ∷ s) in
      let h = up_to_few n f.reader rest (room - length f.out) in
      branch (λ (j : ℕ). j ≤ length (c ∷ s)) (ltb room printed_size) 0 (length l + read_up_to e n f.reader rest (room - length f.out))
      (λ _. omega arith) (λ _. omega arith)

  -- never more is read than is there
  pub read_few : (r : Reader K) (s : List ℕ) (room : ℕ) → read_within e r s room ≤ length s
  unfolding read_within
  read_few r s room = up_to_few (length s) r s room

  -- nothing is read of nothing, nor where the longest answer would not fit
  read_none : (r : Reader K) (s : List ℕ) (room : ℕ) → length s ≤ 0 → read_within e r s room ≡ 0
  read_none r s room h = let k = read_few r s room in omega arith

  read_full : (r : Reader K) (s : List ℕ) (room : ℕ) → room < printed_size → read_within e r s room ≡ 0
  unfolding read_within read_up_to
  read_full r [] room h = refl
  read_full r (c ∷ s) room h = stop _ _ _ (lt-ltb room printed_size h)

  -- else a line, and what is read behind it
  read_line :
      (r : Reader K) (s : List ℕ) (room : ℕ) → 1 ≤ length s → printed_size ≤ room →
      let f = feeds e r (piece s) in
      read_within e r s room ≡ length (piece s) + read_within e f.reader (drop (length (piece s)) s) (room - length f.out)
  unfolding read_within read_up_to
  read_line r [] room h k = absurd (let z : 1 ≤ 0 = h in omega arith)
  read_line r (c ∷ s) room h k =
      let l = piece (c ∷ s) in
      let f = feeds e r l in
      let rest = drop (length l) (c ∷ s) in
      skip _ _ _ (le-ltb room printed_size k)
      ∙ ap (λ (j : ℕ). length l + j) (up_to_enough (length s) (length rest) f.reader rest (room - length f.out) (rest_less c s) (omega arith))

  -- where a line fits, something is read
  pub read_some : (r : Reader K) (s : List ℕ) (room : ℕ) → 1 ≤ length s → printed_size ≤ room → 1 ≤ read_within e r s room
  read_some r s room h k =
      let t = read_line r s room h k in
      let m = piece_some s h in
      omega arith

-- what is printed stands within the output
place_within :
    {M K : Type 0} {view : View M K} {f : Fed K} {h : Held M} {end : ℕ} {out : List ℕ} {at : ℕ} {out' : List ℕ} → Goes view f h end out at out' → at ≤ length out →
    end ≤ length out'
unfolding pasted
place_within {f = f} {out = out} {at = at} g k =
    let e = ap length g.printed ∙ length-append (take at out) (f.out ++ drop (at + length f.out) out) in
    let l = length-take-le at out k in
    let m = length-append f.out (drop (at + length f.out) out) in
    omega (arith, g.place)

pub fills_within :
    {M K : Type 0} {view : View M K} {e : Ends K} {r : Reader K} {chunk : List ℕ} {h : Held M} {c : Progress} {out out' : List ℕ} → Fills view e r chunk h c out out' →
    c.at ≤ length out'
fills_within w = place_within w.goes (omega arith)

-- between two lines of a chunk: the code holds what the reader has behind the bytes read, what that printed stands in the output, and what is read from here completes what is read of the chunk
pub record Filling {M K : Type 0} (view : View M K) (e : Ends K) (x : Reader K) (s before : List ℕ) (h : Held M) (c : Progress) (out : List ℕ) : Type 0 where
  pub goes : Goes view (feeds e x (take c.next s)) h c.at before 0 out
  pub within : c.next ≤ length s
  pub room : c.at ≤ length before
  pub left : read_within e x s (length before) ≡ c.next + read_within e (reader_in view h) (drop c.next s) (length before - c.at)

pub filling_none :
    {M K : Type 0} (view : View M K) (e : Ends K) (h : Held M) (s out : List ℕ) → Filling view e (reader_in view h) s out h (record { next = 0; at = 0 }) out
unfolding feeds
filling_none view e h s out =
    record {
      goes = record { holds = refl; printed = paste_none out 0; place = refl };
      within = omega arith;
      room = omega arith;
      left = let n : length out - 0 ≡ length out = omega arith in let t = ap (read_within e (reader_in view h) s) n in omega arith;
    }

module _ {M K : Type 0} {view : View M K} {e : Ends K} {x : Reader K} {s before : List ℕ} {h : Held M} {c : Progress} {out : List ℕ}
    (w : Filling view e x s before h c out) where
  abbrev y : Reader K
  y = reader_in view h

  -- what is printed so far, and the reader behind it
  abbrev q : Fed K
  q = feeds e x (take c.next s)

  pub filling_size : length out ≡ length before
  filling_size = ap length w.goes.printed ∙ length_pasted before 0 q.out (omega (arith, w.goes.place, w.room))

  module _ (some : c.next < length s) (k : printed_size ≤ length out - c.at) {h' : Held M} {d : Progress} {out' : List ℕ}
      (g : Goes view (feeds e y (piece (drop c.next s))) h' d.at out c.at out') (p : Keeps d h.pending s c.next h'.pending) where
    abbrev l : List ℕ
    l = piece (drop c.next s)

    some_left : 1 ≤ length (drop c.next s)
    some_left = let t = length-drop c.next s in omega arith

    pub filling_less : c.next < d.next
    filling_less = let n = piece_some (drop c.next s) some_left in omega (arith, p.next)

    few : d.next ≤ length s
    few = let t = length-drop c.next s in let n = piece_few (drop c.next s) in omega (arith, p.next, w.within)

    both : feeds e x (take d.next s) ≡ record { reader = (feeds e y l).reader; out = q.out ++ (feeds e y l).out }
    both =
        ap (λ (r : List ℕ). feeds e x r)
        (ap (λ (j : ℕ). take j s) p.next ∙ take-add c.next (length l) s ∙ ap (λ (r : List ℕ). take c.next s ++ r) (piece_front (drop c.next s)))
        ∙ fed_pieces e x (take c.next s) l ∙ (λ i. let f = feeds e (sym w.goes.holds i) l in record { reader = f.reader; out = q.out ++ f.out })

    left_on :
        read_within e (feeds e y l).reader (drop (length l) (drop c.next s)) (length before - c.at - length (feeds e y l).out)
        ≡ read_within e (reader_in view h') (drop d.next s) (length before - d.at)
    left_on =
        let rest = drop (length l) (drop c.next s) in
        let room = length before - c.at - length (feeds e y l).out in
        let t : rest ≡ drop d.next s = drop-drop (length l) c.next s ∙ ap (λ (j : ℕ). drop j s) (sym p.next) in
        let n : room ≡ length before - d.at = omega (arith, g.place) in
        λ i. read_within e (sym g.holds i) (t i) (n i)

    pub filling_more : length out' ≡ length out → Filling view e x s before h' d out'
    filling_more n =
        let z = filling_size in
        let o = length-append q.out (feeds e y l).out in
        let b = ap (λ (f : Fed K). length f.out) both in
        let a = read_line e y (drop c.next s) (length before - c.at) some_left (omega arith) in
        let r = left_on in
        let i = place_within g (omega arith) in
        record {
          goes =
              record {
                holds = g.holds ∙ ap (λ (f : Fed K). f.reader) (sym both);
                printed =
                    g.printed ∙ (λ i. pasted (w.goes.printed i) (w.goes.place i) (feeds e y l).out)
                    ∙ paste_after before 0 q.out (omega (arith, w.goes.place, w.room)) (feeds e y l).out ∙ ap (λ (f : Fed K). pasted before 0 f.out) (sym both);
                place = omega (arith, g.place, w.goes.place);
              };
          within = few;
          room = omega arith;
          left = omega (arith, w.left, p.next);
        }

  -- no line is left, or the longest answer might not fit: all that is read of the chunk was read
  pub filling_end : length s ≤ c.next → c.next ≡ read_within e x s (length before)
  filling_end k =
      let t = length-drop c.next s in
      let z = read_none e y (drop c.next s) (length before - c.at) (omega arith) in
      omega (arith, w.left)

  pub filling_full : length out - c.at < printed_size → c.next ≡ read_within e x s (length before)
  filling_full k =
      let t = filling_size in
      let z = read_full e y (drop c.next s) (length before - c.at) (omega arith) in
      omega (arith, w.left)

  -- zeros behind what is kept of a line change nothing of what the code holds
  module _ (t : c.next ≡ read_within e x s (length before)) (p : Pending) (n : p.len ≡ h.pending.len) {z : List ℕ} (a : z ≡ replicate (length (mid_of h.pending.len (kept_size - h.pending.len) h.pending.bytes)) 0)
      (b : p.bytes ≡ put_mid h.pending.len (kept_size - h.pending.len) h.pending.bytes z) where
    padded : p.bytes ≡ pad kept_size (line_of h.pending)
    unfolding pad
    padded =
        let q = h.pending in
        let e = held_size q in
        let m : length (mid_of q.len (kept_size - q.len) q.bytes) ≡ kept_size - length (line_of q) = simp (length-take, length-drop) (omega arith) in
        let l : length (drop q.len q.bytes) ≤ kept_size - q.len = simp length-drop (omega arith) in
        b ∙ ap (λ (r : List ℕ). line_of q ++ (z ++ r)) (drop_of_length-le (drop q.len q.bytes) l)
        ∙ ap (λ (r : List ℕ). line_of q ++ r) (append-nil z ∙ a ∙ ap (λ (j : ℕ). replicate j 0) m)

    pub filling_done : Fills view e x s (record { begun = h.begun; pending = p; memory = h.memory }) c before out
    unfolding pad
    filling_done =
        let l = line_of h.pending in
        let front : line_of p ≡ l = (λ i. take (n i) (padded i)) ∙ take_at l (replicate (kept_size - length l) 0) h.pending.len (held_size h.pending) in
        record {
          next = t;
          goes =
              record {
                holds = (λ i. record { kept = view h.begun h.memory; pending = front i }) ∙ w.goes.holds;
                printed = w.goes.printed;
                place = w.goes.place;
              };
          blank = padded ∙ ap (pad kept_size) (sym front);
        }
