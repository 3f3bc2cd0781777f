-- The outer frame, case by case.
-- Assumes nothing.
use Prim.Native.Nat.{ℕ, ◌-◌, ◌≤◌}
use mathlib.Core.Path.{◌≡◌, refl, sym, ap, ◌∙◌}
use mathlib.Core.Bool.{Bool, false, ◌&&◌}
use mathlib.Core.List.{List, [], ◌∷◌}
use native.Mathlib.Omega.{arith}
use lib.ListN.{length, drop, get_or, length-drop}
use lib.Dec.{eqb}
use borrow.Author.Tests.{eq-eqb, ne_eqb}
use Rattle.rules.specs.Frames.{LengthRead, no_length, length_at, fills, following, framed, contents}
use Rattle.rules.proofs.Laws.{and-false}
use Rattle.objects.specs.Places.{LengthAt}
use Rattle.objects.proofs.Reading.{Byte}
use Rattle.command.specs.Requests.{FramedAt}

pub frame_empty : (s : List ℕ) → length s ≤ 0 → framed s ≡ false
unfolding framed
frame_empty [] h = refl
frame_empty (x ∷ s) h = absurd (omega arith)

-- another first byte
pub frame_other : {s : List ℕ} {b : ℕ} → Byte s 0 b → (b ≡ 0xD0 → ⊥) → framed s ≡ false
unfolding framed
frame_other {s} w h = ap (λ (b : Bool). b && fills (length_at (drop 1 s))) (ne_eqb (get_or s 0 0) 0xD0 (λ e. h (sym w.value ∙ e)))

pub frame_unsized : (s : List ℕ) → length_at (drop 1 s) ≡ no_length → framed s ≡ false
unfolding framed fills
frame_unsized s e = ap (λ (l : LengthRead). eqb (get_or s 0 0) 0xD0 && fills l) e ∙ and-false (eqb (get_or s 0 0) 0xD0)

pub frame_count : {s : List ℕ} {n start : ℕ} → LengthAt s 1 n start → (length s - start ≡ n → ⊥) → framed s ≡ false
unfolding framed fills
frame_count {s} {n} {start} l h =
    let d = length-drop start s in
    ap (λ (x : LengthRead). eqb (get_or s 0 0) 0xD0 && fills x) l.is
    ∙ ap (λ (b : Bool). eqb (get_or s 0 0) 0xD0 && b) (ne_eqb n (length (drop start s)) (λ e. h (sym d ∙ sym e)))
    ∙ and-false (eqb (get_or s 0 0) 0xD0)

pub frame_right : {s : List ℕ} {b n start : ℕ} → Byte s 0 b → b ≡ 0xD0 → LengthAt s 1 n start → length s - start ≡ n → FramedAt s start
unfolding framed fills contents following
frame_right {s} {b} {n} {start} w f l e =
    record {
      is =
          ap (λ (x : LengthRead). eqb (get_or s 0 0) 0xD0 && fills x) l.is
          ∙ (λ i. eq-eqb (get_or s 0 0) 0xD0 (w.value ∙ f) i && eq-eqb n (length (drop start s)) (sym e ∙ sym (length-drop start s)) i);
      objects = ap following l.is;
      within = l.within;
    }
