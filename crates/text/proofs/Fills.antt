-- The frame of a line, written at the front of a buffer byte by byte.
-- Assumes nothing.
use Prim.Native.Nat.{ℕ, ◌+◌, ◌*◌, ◌/◌, ◌≤◌, ◌<◌}
use mathlib.Core.Path.{◌≡◌, refl, sym, ap, subst, ◌∙◌}
use mathlib.Core.Bool.{Bool, true, false, not, true≢false}
use mathlib.Core.List.{List}
use mathlib.Core.Option.{Option, none, some}
use native.Mathlib.Omega.{arith}
use native.Mathlib.Nat.{zero-add}
use lib.ListN.{length, get_or, set}
use borrow.Author.Tests.{lt-ltb, le-ltb, not-true, not-false}
use Rattle.std.specs.Prelude.{Option as CodeOption, Some, None}
use Rattle.rules.specs.Lines.{is_digit, digit_value, bytes_of, frame_of}
use Rattle.rules.proofs.Laws.{stop, skip}
use Rattle.octets.proofs.Copies.{Copied, copied_none, copied_more, copied_all}
use Rattle.octets.specs.Parts.{overlaid}
use Rattle.octets.proofs.Pastes.{front_over}
use Rattle.text.specs.Sizes.{frame_cap, digit_cap}
use Rattle.text.specs.Frames.{readable, frame_told, frame_bytes}
use Rattle.text.proofs.Digits.{digit_small}
use Rattle.text.proofs.Bytes.{bytes_size, digit_at, byte_at}

-- what is told of a frame, and what stands in the buffer
abbrev pub Told : CodeOption ℕ → Option (List ℕ) → List ℕ → List ℕ → Type 0
Told f o before after = (f ≡ frame_told o) × (after ≡ overlaid (frame_bytes o) before)

unread : (o : Option (List ℕ)) → readable o ≡ false → (out : List ℕ) → Told None o out out
unfolding readable frame_told frame_bytes overlaid
unread none e out = (refl, refl)
unread (some s) e out = absurd (true≢false e)

counted : (o : Option (List ℕ)) → readable o ≡ true → Some (length (frame_bytes o)) ≡ frame_told o
unfolding readable frame_told frame_bytes
counted none e = absurd (true≢false (sym e))
counted (some s) e = refl

-- a line that is too long, and one that is not digits in pairs, leave the buffer
pub told_long : (l out : List ℕ) → digit_cap < length l → Told None (frame_of l) out out
unfolding frame_of readable
told_long l out h = unread (frame_of l) (ap readable (stop _ none (bytes_of l) (lt-ltb digit_cap (length l) h))) out

short : (l : List ℕ) → length l ≤ digit_cap → frame_of l ≡ bytes_of l
unfolding frame_of
short l h = skip _ none (bytes_of l) (le-ltb digit_cap (length l) h)

pub told_unread : (l out : List ℕ) (b : Bool) → length l ≤ digit_cap → b ≡ readable (bytes_of l) → not b ≡ true → Told None (frame_of l) out out
told_unread l out b h e f = unread (frame_of l) (ap readable (short l h) ∙ sym e ∙ not-true b f) out

-- the first i bytes of a line that is readable stand in the buffer
pub record Fills (l before : List ℕ) (i : ℕ) (after : List ℕ) : Type 0 where
  pub read : readable (bytes_of l) ≡ true
  pub few : length l ≤ digit_cap
  pub copied : Copied before 0 (frame_bytes (bytes_of l)) i after

pub fills_none : (l before : List ℕ) (b : Bool) → b ≡ readable (bytes_of l) → not b ≡ false → length l ≤ digit_cap → frame_cap ≤ length before → Fills l before 0 before
fills_none l before b u f h w =
    let e = sym u ∙ not-false b f in
    record { read = e; few = h; copied = copied_none before 0 _ (let n = bytes_size l e in omega arith) }

module _ (l before : List ℕ) (i : ℕ) (after : List ℕ) (f : Fills l before i after) where
  pub fills_digit : (k : ℕ) → k < length l → is_digit (get_or l k 0) ≡ true
  fills_digit k h = digit_at l k f.read h

  pub fills_small : (k v : ℕ) → k < length l → v ≡ digit_value (get_or l k 0) → v ≤ 15
  fills_small k v h e = let d = digit_small (get_or l k 0) (fills_digit k h) in omega arith

  pub fills_more :
      (v u : ℕ) → i < length l / 2 → v ≡ digit_value (get_or l (2 * i) 0) → u ≡ digit_value (get_or l (2 * i + 1) 0) → Fills l before (i + 1) (set after i (16 * v + u))
  fills_more v u h d e =
      let n = bytes_size l f.read in
      let b : i < length (frame_bytes (bytes_of l)) = omega arith in
      record {
        read = f.read;
        few = f.few;
        copied =
            subst (λ (k : ℕ). Copied before 0 (frame_bytes (bytes_of l)) (i + 1) (set after k (16 * v + u))) (zero-add i)
            (copied_more before 0 _ i after _ f.copied b ((λ j. 16 * d j + e j) ∙ sym (byte_at l i f.read b)));
      }

  pub fills_all : length l / 2 ≤ i → Told (Some (length l / 2)) (frame_of l) before after
  fills_all h =
      let n = bytes_size l f.read in
      let half : length l / 2 ≡ length (frame_bytes (bytes_of l)) = omega arith in
      subst (λ (o : Option (List ℕ)). Told (Some (length l / 2)) o before after) (sym (short l f.few))
      (ap Some half ∙ counted (bytes_of l) f.read, copied_all before 0 _ i after f.copied (omega arith) ∙ front_over before _)
