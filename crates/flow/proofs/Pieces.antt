-- An input that is read piece by piece: what a turn leaves of a piece.
-- Assumes nothing.
use Prim.Native.Nat.{ℕ, ◌≤◌, ◌<◌}
use mathlib.Core.Path.{◌≡◌, refl, sym, ap, ◌∙◌}
use mathlib.Core.List.{List, [], ◌∷◌}
use native.Mathlib.Omega.{arith}
use lib.ListN.{length, drop, length-drop}
use borrow.Author.Rules.{part_to_end}
use Rattle.std.proofs.lemmas.List.{take-append-drop}
use Rattle.octets.specs.Parts.{part}
use Rattle.flow.specs.declared.Progress.{Progress}
use Rattle.flow.specs.Flow.{printed_size, Ends, Reader, Fed, feeds}
use Rattle.flow.specs.Holds.{View, Held, reader_in, Fills}
use Rattle.flow.proofs.Flows.{fed_pieces}
use Rattle.flow.proofs.Filling.{read_few}
use Rattle.flow.proofs.Turns.{filled_advances}

-- a turn of what is left of a piece
module _ {M K : Type 0} {view : View M K} {e : Ends K} {r : Reader K} (s : List ℕ) {h : Held M} (d : Progress) {out out' : List ℕ} (f : Fills view e r s h d out out') where
  -- the reader behind what is left then is the one behind all of it
  pub rest_fed : (feeds e (reader_in view h) (part d.next (length s) s)).reader ≡ (feeds e r s).reader
  rest_fed =
      ap (λ (l : List ℕ). (feeds e (reader_in view h) l).reader) (part_to_end s d.next) ∙ ap (λ (y : Reader K). (feeds e y (drop d.next s)).reader) f.goes.holds
      ∙ ap (λ (y : Fed K). y.reader) (sym (ap (feeds e r) (sym (take-append-drop d.next s)) ∙ fed_pieces e r _ (drop d.next s)))

  pub rest_within : d.next ≤ length s
  rest_within = let k = read_few e r s (length out) in omega (arith, f.next)

  pub rest_less : 1 ≤ length s → printed_size ≤ length out → length (part d.next (length s) s) < length s
  rest_less some room =
      let k = filled_advances f some room in
      let l = ap length (part_to_end s d.next) in
      let m = length-drop d.next s in
      omega arith

-- nothing is left
pub rest_none : {K : Type 0} (e : Ends K) (r : Reader K) (s : List ℕ) → length s ≡ 0 → r ≡ (feeds e r s).reader
unfolding feeds
rest_none e r [] k = refl
rest_none e r (c ∷ s) k = absurd (let z : length (c ∷ s) ≡ 0 = k in omega arith)
