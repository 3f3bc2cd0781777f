-- A time and a timer put into the ledger, number by number.
-- Assumes nothing.
use Prim.Native.Nat.{ℕ, suc, ◌+◌, ◌≤◌}
use mathlib.Core.Path.{◌≡◌, ap, ◌∙◌}
use mathlib.Core.List.{List, [], ◌∷◌, ◌++◌, append_assoc}
use native.Mathlib.Omega.{arith}
use lib.ListN.{length, set, take, drop, get_or}
use lib.Seq.{sets-eq}
use Rattle.rules.specs.declared.Time.{Time}
use Rattle.rules.specs.Checks.{◌⇒◌else◌}
use Rattle.rules.specs.Frames.{length_bytes, object_bytes, written}
use Rattle.rules.specs.Timers.{time_bytes}
use Rattle.rules.specs.Written.{timer_object, time_object, envelope_bytes}
use Rattle.octets.specs.Parts.{pasted, overlaid}
use Rattle.octets.proofs.Pastes.{paste_after, length_pasted, front_over}
use Rattle.session.specs.Picture.{time_numbers}

pub time_put : (t : List ℕ) (at : ℕ) (x : Time) → at + 3 ≤ length t → set (set (set t at x.hours) (at + 1) x.minutes) (at + 2) x.seconds ≡ pasted t at (time_numbers x)
unfolding pasted
time_put t at x h =
    let e1 : at + 1 ≡ suc at = omega arith in
    let e2 : at + 2 ≡ suc (suc at) = omega arith in
    (λ i. set (set (set t at x.hours) (e1 i) x.minutes) (e2 i) x.seconds) ∙ sets-eq (time_numbers x) t at h
    ∙ append_assoc (take at t) (time_numbers x) (drop (at + 3) t)

pub put_size : (t u : List ℕ) (at : ℕ) (x : Time) {n : ℕ} → at + 3 ≤ length t → u ≡ pasted t at (time_numbers x) → length t ≡ n → length u ≡ n
put_size t u at x h e s = ap length e ∙ length_pasted t at (time_numbers x) h ∙ s

pub timer_put :
    (t u v : List ℕ) (at : ℕ) (x y : Time) → at + 6 ≤ length t → u ≡ pasted t at (time_numbers x) → v ≡ pasted u (at + 3) (time_numbers y) →
    v ≡ pasted t at (time_numbers x ++ time_numbers y)
timer_put t u v at x y h e f = f ∙ ap (λ (w : List ℕ). pasted w (at + 3) (time_numbers y)) e ∙ paste_after t at (time_numbers x) (omega arith) (time_numbers y)

-- the envelope, from the bytes of its time
pub envelope_stands :
    (n : ℕ) (t : Time) (b out after : List ℕ) → b ≡ time_bytes t →
    after ≡ pasted out 0 (0xD7 ∷ 0x0C ∷ 0x82 ∷ 0x02 ∷ 0x82 ∷ 0x81 ∷ 0x24 ∷ 0x01 ∷ n ∷ 0x25 ∷ 0x03 ∷ get_or b 0 0 ∷ get_or b 1 0 ∷ get_or b 2 0 ∷ []) →
    after ≡ overlaid (envelope_bytes n t) out
unfolding envelope_bytes written object_bytes length_bytes timer_object time_object time_bytes ◌⇒◌else◌
envelope_stands n t b out after e f =
    f ∙ front_over out _
    ∙ ap (λ (v : List ℕ). overlaid (0xD7 ∷ 0x0C ∷ 0x82 ∷ 0x02 ∷ 0x82 ∷ 0x81 ∷ 0x24 ∷ 0x01 ∷ n ∷ 0x25 ∷ 0x03 ∷ get_or v 0 0 ∷ get_or v 1 0 ∷ get_or v 2 0 ∷ []) out) e
