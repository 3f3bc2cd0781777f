-- Bounds that the contracts of the lines give: a frame in its buffer, and a printed line.
-- Assumes nothing.
use Prim.Native.Nat.{ℕ, ◌+◌, ◌*◌, ◌≤◌, ◌<◌}
use mathlib.Core.Path.{◌≡◌, refl, sym, ap, subst, ◌∙◌}
use mathlib.Core.List.{List, [], ◌∷◌}
use mathlib.Core.Option.{Option, none, some}
use native.Mathlib.Omega.{arith}
use lib.ListN.{length, take, drop, length-append, length-take}
use lib.Seq.{take-append_seam, length-take-le}
use Rattle.rules.specs.Command.{Outcome, wrote, refused, ended_of, written_by}
use Rattle.rules.specs.Lines.{printed}
use Rattle.octets.specs.Parts.{overlaid}
use Rattle.rules.specs.Words.{Ended}
use Rattle.std.specs.Prelude.{Ok, Err, Option as CodeOption, Some, None}
use Rattle.text.specs.Sizes.{short_line}
use Rattle.text.specs.Frames.{frame_told, frame_bytes}
use Rattle.text.specs.Prints.{count_of, outcome_of, line_of}
use Rattle.text.proofs.Printing.{value_few, refused_few}

-- a frame that was read: its bytes stand at the front of the buffer
pub record Read (o : Option (List ℕ)) (n : ℕ) (buffer : List ℕ) : Type 0 where
  pub fits : n ≤ length buffer
  pub size : n ≡ length (take n buffer)
  pub bytes : o ≡ some (take n buffer)

pub frame_read :
    (o : Option (List ℕ)) (f : CodeOption ℕ) (n : ℕ) (before after : List ℕ) → (f ≡ frame_told o) × (after ≡ overlaid (frame_bytes o) before) → f ≡ Some n → Read o n after
unfolding frame_told frame_bytes overlaid
frame_read none f n before after t e = absurd (let z : ◌≡◌ {A = ℕ} 0 1 = cc in omega arith)
frame_read (some s) f n before after t e =
    let size : n ≡ length s = cc in
    let long = ap length t.1 ∙ length-append s (drop (length s) before) in
    let fits : n ≤ length after = omega arith in
    record { fits = fits; size = sym (length-take-le n after fits); bytes = sym (ap some ((λ i. take (size i) (t.1 i)) ∙ take-append_seam s (drop (length s) before))) }

-- a line that was not read has no frame
pub frame_unread : (o : Option (List ℕ)) (f : CodeOption ℕ) → f ≡ frame_told o → f ≡ None → o ≡ none
unfolding frame_told
frame_unread none f t e = refl
frame_unread (some s) f t e = absurd (let z : ◌≡◌ {A = ℕ} 0 1 = cc in omega arith)

-- the bytes that a call wrote stand at the front of its buffer
front_within : (o : Outcome) (d : List ℕ) → count_of (ended_of o) ≤ length (overlaid (written_by o) d)
unfolding count_of ended_of overlaid written_by
front_within (wrote s) d = simp length-append (omega arith)
front_within (refused r) d = omega arith

pub front_back : (o : Outcome) (d : List ℕ) → outcome_of (ended_of o) (overlaid (written_by o) d) ≡ o
unfolding outcome_of ended_of overlaid written_by
front_back (wrote s) d = ap wrote (take-append_seam s (drop (length s) d))
front_back (refused r) d = refl

pub count_within : (o : Outcome) (x : Ended) (before after : List ℕ) → (x ≡ ended_of o) × (after ≡ overlaid (written_by o) before) → count_of x ≤ length after
count_within o x before after t =
    subst (λ (y : Ended). count_of y ≤ length after) (sym t.0) (subst (λ (s : List ℕ). count_of (ended_of o) ≤ length s) (sym t.1) (front_within o before))

-- a printed line has its line feed, and at most two digits for each byte of the buffer, or three characters
printed_few : (x : Ended) (s : List ℕ) → length (printed (outcome_of x s)) ≤ 2 * length s + 3
unfolding outcome_of
printed_few (Ok k) s = let e = length-take k s in let v = value_few (take k s) in omega arith
printed_few (Err r) s = let few = refused_few r in omega arith

pub line_within :
    (x : Ended) (s : List ℕ) (r at : ℕ) → r ≡ at + length (line_of (outcome_of x s)) → (at < r) × (r ≤ at + 2 * length s + short_line)
line_within x s r at e =
    let few = printed_few x s in
    let l = length-append (printed (outcome_of x s)) (10 ∷ []) in
    let one : length {A = ℕ} (10 ∷ []) ≡ 1 = refl in
    (omega arith, omega arith)
