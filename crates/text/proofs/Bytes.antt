-- The bytes of a line: what a pair of digits gives, and the scan that tells whether a line is readable.
-- Assumes nothing.
use Prim.Native.Nat.{ℕ, zero, suc, ◌+◌, ◌*◌, ◌%◌, ◌<◌}
use mathlib.Core.Path.{◌≡◌, refl, sym, ap, ◌∙◌}
use mathlib.Core.Bool.{Bool, true, false, ◌&&◌, false≢true}
use mathlib.Core.List.{List, [], ◌∷◌}
use mathlib.Core.Option.{Option, none, some}
use native.Mathlib.Omega.{arith}
use lib.ListN.{length, get_or}
use Rattle.std.specs.List.{list_all}
use Rattle.std.specs.Char.{is_ascii_hexdigit}
use Rattle.std.proofs.lemmas.Bool.Decides.{nat_tests}
use Rattle.std.proofs.Math.Bool.{and_assoc}
use Rattle.rules.specs.Lines.{is_digit, digit_value, with_byte, bytes_of}
use Rattle.text.specs.Frames.{readable, frame_bytes}
use Rattle.rules.proofs.Laws.{both_left, both_right}

readable_pair : (t : Bool) (b : ℕ) (o : Option (List ℕ)) → readable (with_byte t b o) ≡ t && readable o
unfolding readable with_byte
readable_pair false b o = refl
readable_pair true b none = refl
readable_pair true b (some s) = refl

-- a line is readable where its length is even and every character is a digit
pub readable_even : (l : List ℕ) → length l % 2 ≡ 0 → list_all is_ascii_hexdigit l ≡ readable (bytes_of l)
unfolding readable bytes_of is_digit
readable_even [] e = refl
readable_even (c ∷ []) e = absurd (omega (arith, e))
readable_even (c ∷ d ∷ l) e =
    let rest = readable_even l (let k : suc (suc (length l)) % 2 ≡ 0 = e in omega arith) in
    let pair = readable_pair (is_digit c && is_digit d) (16 * digit_value c + digit_value d) (bytes_of l) in
    grind (arith, nat_tests, and_assoc)

pub readable_odd : (l : List ℕ) → (length l % 2 ≡ 0 → ⊥) → false ≡ readable (bytes_of l)
unfolding readable bytes_of
readable_odd [] e = absurd (e refl)
readable_odd (c ∷ []) e = refl
readable_odd (c ∷ d ∷ l) e =
    let rest = readable_odd l (λ k. e (let m : length l % 2 ≡ 0 = k in omega arith)) in
    let pair = readable_pair (is_digit c && is_digit d) (16 * digit_value c + digit_value d) (bytes_of l) in
    grind (arith, nat_tests)

-- the parts of a byte that was read
read_pair :
    (t : Bool) (b : ℕ) (o : Option (List ℕ)) → readable (with_byte t b o) ≡ true →
    (t ≡ true) × (readable o ≡ true) × (frame_bytes (with_byte t b o) ≡ b ∷ frame_bytes o)
unfolding readable with_byte frame_bytes
read_pair false b o e = absurd (false≢true e)
read_pair true b none e = absurd (false≢true e)
read_pair true b (some s) e = (refl, refl, refl)

pub bytes_size : (l : List ℕ) → readable (bytes_of l) ≡ true → 2 * length (frame_bytes (bytes_of l)) ≡ length l
unfolding bytes_of readable frame_bytes
bytes_size [] e = refl
bytes_size (c ∷ []) e = absurd (false≢true e)
bytes_size (c ∷ d ∷ l) e =
    let r = read_pair _ _ (bytes_of l) e in
    let n = bytes_size l r.1 in
    let m = ap length r.2 in
    omega arith

pub digit_at : (l : List ℕ) (k : ℕ) → readable (bytes_of l) ≡ true → k < length l → is_digit (get_or l k 0) ≡ true
unfolding bytes_of readable
digit_at [] k e h = absurd (let z : k < 0 = h in omega arith)
digit_at (c ∷ []) k e h = absurd (false≢true e)
digit_at (c ∷ d ∷ l) zero e h = both_left _ _ (read_pair _ _ (bytes_of l) e).0
digit_at (c ∷ d ∷ l) (suc zero) e h = both_right (is_digit c) (is_digit d) (read_pair _ _ (bytes_of l) e).0
digit_at (c ∷ d ∷ l) (suc (suc k)) e h = digit_at l k (read_pair _ _ (bytes_of l) e).1 (let z : suc (suc k) < suc (suc (length l)) = h in omega arith)

pub byte_at :
    (l : List ℕ) (i : ℕ) → readable (bytes_of l) ≡ true → i < length (frame_bytes (bytes_of l)) →
    get_or (frame_bytes (bytes_of l)) i 0 ≡ 16 * digit_value (get_or l (2 * i) 0) + digit_value (get_or l (2 * i + 1) 0)
unfolding bytes_of readable frame_bytes
byte_at [] i e h = absurd (let z : i < 0 = h in omega arith)
byte_at (c ∷ []) i e h = absurd (false≢true e)
byte_at (c ∷ d ∷ l) zero e h = ap (λ (s : List ℕ). get_or s 0 0) (read_pair _ _ (bytes_of l) e).2
byte_at (c ∷ d ∷ l) (suc i) e h =
    let r = read_pair _ _ (bytes_of l) e in
    let n = ap length r.2 in
    let k : 2 * suc i ≡ suc (suc (2 * i)) = omega arith in
    let m : 2 * suc i + 1 ≡ suc (suc (2 * i + 1)) = omega arith in
    ap (λ (s : List ℕ). get_or s (suc i) 0) r.2 ∙ byte_at l i r.1 (omega arith)
    ∙ (λ j. 16 * digit_value (get_or (c ∷ d ∷ l) (sym k j) 0) + digit_value (get_or (c ∷ d ∷ l) (sym m j) 0))
