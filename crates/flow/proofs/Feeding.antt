-- A piece of the input: what the code keeps of it, and what the reader does with it.
-- Assumes nothing.
use Prim.Native.Nat.{ℕ, ◌+◌, ◌-◌, ◌≤◌, ◌<◌}
use mathlib.Core.Path.{◌≡◌, refl, sym, ap, subst, ◌∙◌}
use mathlib.Core.Bool.{Bool, true, false}
use mathlib.Core.List.{List, [], ◌∷◌, ◌++◌}
use native.Mathlib.Omega.{arith}
use lib.ListN.{length, take, drop, length-take, length-drop}
use lib.Seq.{take_all, length-take-le}
use Rattle.std.specs.Prelude.{Option, Some, None}
use Rattle.rules.specs.Checks.{◌⇒◌else◌, is_empty, member}
use Rattle.rules.proofs.Laws.{stop, skip}
use Rattle.octets.specs.Parts.{part}
use borrow.Author.Rules.{part_to_end}
use Rattle.octets.proofs.Pastes.{take_pasted}
use Rattle.flow.specs.declared.Pending.{Pending}
use Rattle.flow.specs.Flow.{kept_size, Ends, Reader, Fed, ended, feeds, before_feed, piece, fitting, last_piece}
use Rattle.flow.specs.LineReads.{LineReads}
use Rattle.flow.specs.Holds.{View, Held, line_of, reader_in, Says, Goes, Keeps}
use Rattle.octets.proofs.Stores.{paste_none}
use Rattle.flow.proofs.Gathering.{piece_few, piece_all}
use Rattle.flow.proofs.Flows.{take_both, piece_open, piece_whole}

-- the code keeps all of the line that it holds
pub held_size : (p : Pending) → length (line_of p) ≡ p.len
held_size p = length-take-le p.len p.bytes (omega arith)

-- what a line takes of a chunk tells whether a line feed stands there
module _ {t : Option ℕ} {p : Pending} {s : List ℕ} {q : Pending} (g : LineReads t p s q) where
  open_is : t ≡ None → member 10 s ≡ false
  unfolding ◌⇒◌else◌
  open_is e = by (member 10 s) g.taken
    where
      by : (b : Bool) → t ≡ (b ⇒ Some (length (piece s)) else None) → b ≡ false
      by true h = cc
      by false h = refl

  whole_is : {n : ℕ} → t ≡ Some n → (member 10 s ≡ true) × (n ≡ length (piece s))
  unfolding ◌⇒◌else◌
  whole_is {n} e = by (member 10 s) g.taken
    where
      by : (b : Bool) → t ≡ (b ⇒ Some (length (piece s)) else None) → (b ≡ true) × (n ≡ length (piece s))
      by true h = (refl, cc)
      by false h = (cc, cc)

  kept_line : line_of q ≡ take kept_size (line_of p ++ before_feed s)
  unfolding fitting
  kept_line =
      let x = line_of p in
      let n = held_size p in
      let k : kept_size - p.len ≡ kept_size - length x = omega arith in
      let z = length-take (kept_size - p.len) (before_feed s) in
      (λ i. take (g.len i) (g.kept i)) ∙ take_pasted p.bytes p.len (fitting p.len s) (omega arith)
      ∙ (λ i. sym (take_all kept_size x (omega arith)) i ++ take (k i) (before_feed s)) ∙ sym (take_both kept_size x (before_feed s))

-- the reader before
abbrev reader_with : {M K : Type 0} → View M K → Bool → Pending → M → Reader K
reader_with view b p m = reader_in view (record { begun = b; pending = p; memory = m })

short : {M K : Type 0} (view : View M K) (b : Bool) (p : Pending) (m : M) → length (reader_with view b p m).pending ≤ kept_size
short view b p m = let n = held_size p in omega arith

-- a line that goes on, and one that is whole, of what is left of a chunk
module _ {t : Option ℕ} {p : Pending} (chunk : List ℕ) (from : ℕ) {q : Pending} (h : LineReads t p (part from (length chunk) chunk) q) (k : from ≤ length chunk) where
  abbrev s : List ℕ
  s = drop from chunk

  g : LineReads t p s q
  g = subst (λ (r : List ℕ). LineReads t p r q) (part_to_end chunk from) h

  pub taken_within : {n : ℕ} → t ≡ Some n → from + n ≤ length chunk
  taken_within e = let o = whole_is g e in let l = length-drop from chunk in let m = piece_few s in omega (arith, o.1)

  module _ {M K : Type 0} (view : View M K) (e : Ends K) (b : Bool) (m : M) where
    pub feeds_open :
        (out : List ℕ) (at : ℕ) → t ≡ None →
        Goes view (feeds e (reader_with view b p m) (piece s)) (record { begun = b; pending = q; memory = m }) at out at out × Keeps (record { next = length chunk; at = at }) p chunk from q
    feeds_open out at z =
        let o = open_is g z in
        let l = length-drop from chunk in
        let a = piece_all s o in (
          subst (λ (f : Fed K). Goes view f (record { begun = b; pending = q; memory = m }) at out at out) (sym (piece_open e (reader_with view b p m) s (short view b p m) o))
              (record { holds = λ i. record { kept = view b m; pending = kept_line g i }; printed = paste_none out at; place = omega arith }),
          record { kept = g.kept; next = omega arith },
        )

    pub feeds_whole :
        {n : ℕ} {m' : M} {r : Pending} {end : ℕ} {out : List ℕ} {at : ℕ} {out' : List ℕ} → t ≡ Some n → Says view (e (view b m) (line_of q)) m' end out at out' →
        r.len ≡ 0 → r.bytes ≡ q.bytes →
        Goes view (feeds e (reader_with view b p m) (piece s)) (record { begun = true; pending = r; memory = m' }) end out at out' × Keeps (record { next = from + n; at = end }) p chunk from r
    feeds_whole {m' = m'} {r = r} {end = end} {out = out} {at = at} {out' = out'} z w none same =
        let o = whole_is g z in
        let ends = ap (λ (l : List ℕ). ended (e (view b m) l)) (kept_line g) ∙ sym (piece_whole e (reader_with view b p m) s (short view b p m) o.0) in (
          subst (λ (f : Fed K). Goes view f (record { begun = true; pending = r; memory = m' }) end out at out') ends
              (record { holds = λ i. record { kept = w.state i; pending = take (none i) r.bytes }; printed = w.stands; place = w.place }),
          record { kept = same ∙ g.kept; next = ap (λ (j : ℕ). from + j) o.1 },
        )

-- the end of the input: nothing is left of it, or a line
empty_is : (l : List ℕ) → length l ≡ 0 → is_empty l ≡ true
unfolding is_empty
empty_is [] e = refl
empty_is (c ∷ l) e = absurd (let z : length (c ∷ l) ≡ 0 = e in omega arith)

held_is : (l : List ℕ) → 1 ≤ length l → is_empty l ≡ false
unfolding is_empty
held_is [] e = absurd (let z : 1 ≤ 0 = e in omega arith)
held_is (c ∷ l) e = refl

module _ {M K : Type 0} (view : View M K) (h : Held M) where
  pub last_none : h.pending.len < 1 → last_piece (reader_in view h) ≡ []
  unfolding last_piece
  last_none k = let e = held_size h.pending in stop _ _ _ (empty_is (line_of h.pending) (omega arith))

  pub last_held : 1 ≤ h.pending.len → last_piece (reader_in view h) ≡ 10 ∷ []
  unfolding last_piece
  last_held k = let e = held_size h.pending in skip _ _ _ (held_is (line_of h.pending) (omega arith))
