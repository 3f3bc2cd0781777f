-- What is told to be written, turn by turn, is what the tool prints of its input, however that is divided.
-- Assumes nothing.
use Prim.Native.Nat.{ℕ, ◌+◌, ◌≤◌}
use mathlib.Core.Path.{◌≡◌, sym, ap, ◌∙◌}
use mathlib.Core.Bool.{Bool, true, false}
use mathlib.Core.List.{List, [], ◌∷◌, ◌++◌, map, append_assoc}
use native.Mathlib.Omega.{arith}
use lib.ListN.{length, take, drop}
use lib.Seq.{take_at, take_all, take-nil}
use Rattle.rules.specs.Checks.{◌⇒◌else◌, is_empty}
use Rattle.octets.specs.Parts.{pasted}
use Rattle.flow.specs.declared.Progress.{Progress}
use Rattle.flow.specs.Flow.{printed_size, Ends, Reader, between, feeds, finishes, joined, printed_from, prints, read_within, last_piece}
use Rattle.flow.specs.Holds.{View, Held, reader_in, Fills, Turn, Turned, Turns}
use Rattle.flow.proofs.Flows.{divided, finishes_fed}
use Rattle.flow.proofs.Filling.{read_some}

abbrev reads : List Turn → List (List ℕ)
reads us = map (λ (u : Turn). u.read) us

abbrev writes : List Turn → List (List ℕ)
writes us = map (λ (u : Turn). u.wrote) us

module _ {K : Type 0} (e : Ends K) where
  turns_from : (us : List Turn) (r q : Reader K) → Turns e r us q → joined (writes us) ++ finishes e q ≡ printed_from e r (reads us)
  unfolding joined printed_from
  turns_from [] r q t = ap (finishes e) (sym t)
  turns_from (u ∷ us) r q t =
      let rest = turns_from us t.0 q t.2 in
      append_assoc u.wrote (joined (writes us)) (finishes e q)
      ∙ (λ i. t.1.wrote i ++ (rest ∙ ap (λ (x : Reader K). printed_from e x (reads us)) t.1.reader) i)

  -- whatever the turns are in which an input is read from its start to its end, what they write is what the tool prints of the input
  pub turns_print :
      (k : K) (us : List Turn) (q : Reader K) (w : List ℕ) → Turns e (between k) us q → w ≡ finishes e q → (s : List ℕ) → s ≡ joined (reads us) →
      joined (writes us) ++ w ≡ prints e k s
  unfolding prints
  turns_print k us q w t f s j =
      ap (λ (l : List ℕ). joined (writes us) ++ l) f ∙ turns_from us (between k) q t ∙ divided e (between k) (reads us)
      ∙ ap (λ (l : List ℕ). printed_from e (between k) (l ∷ [])) (sym j)

  -- the end of an input is read as a whole, where the longest answer fits
  read_last : (r : Reader K) (room : ℕ) → printed_size ≤ room → take (read_within e r (last_piece r) room) (last_piece r) ≡ last_piece r
  unfolding last_piece ◌⇒◌else◌
  read_last r room h = by (is_empty r.pending)
    where
      by : (b : Bool) → let s : List ℕ = b ⇒ [] else 10 ∷ [] in take (read_within e r s room) s ≡ s
      by true = take-nil (read_within e r [] room)
      by false = take_all (read_within e r (10 ∷ []) room) (10 ∷ []) (read_some e r (10 ∷ []) room (omega arith) h)

module _ {M K : Type 0} {view : View M K} {e : Ends K} {r : Reader K} {chunk : List ℕ} {h : Held M} {c : Progress} {before after : List ℕ} where
  -- what is to be written of a filled output is what was printed
  filled_front : Fills view e r chunk h c before after → take c.at after ≡ (feeds e r (take c.next chunk)).out
  unfolding pasted
  filled_front w =
      let s = (feeds e r (take c.next chunk)).out in
      ap (take c.at) w.goes.printed ∙ take_at s (drop (0 + length s) before) c.at (omega (arith, w.goes.place))

  -- a filled output is a turn, from the reader that the code holds to the one that it holds then
  pub filled_turned : Fills view e r chunk h c before after → Turned e r (record { read = take c.next chunk; wrote = take c.at after }) (reader_in view h)
  filled_turned w = record { wrote = filled_front w; reader = w.goes.holds }

  -- where there is something to read and room for the longest answer, something is read
  pub filled_advances : Fills view e r chunk h c before after → 1 ≤ length chunk → printed_size ≤ length before → 1 ≤ c.next
  filled_advances w some room = let k = read_some e r chunk (length before) some room in omega (arith, w.next)

-- what is to be written at the end of an input is what is printed there
pub filled_last :
    {M K : Type 0} {view : View M K} {e : Ends K} {r : Reader K} {h : Held M} {c : Progress} {before after : List ℕ} →
    Fills view e r (last_piece r) h c before after → printed_size ≤ length before → take c.at after ≡ finishes e r
filled_last {e = e} {r = r} w room =
    filled_front w
    ∙ ap (λ (s : List ℕ). (feeds e r s).out) (ap (λ (k : ℕ). take k (last_piece r)) w.next ∙ read_last e r _ room) ∙ sym (finishes_fed e r)
