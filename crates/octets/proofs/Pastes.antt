-- Laws of a paste: two in a row are one, and what a paste does to a list in parts.
-- Assumes nothing.
use Prim.Native.Nat.{ℕ, ◌+◌, ◌-◌, ◌≤◌}
use mathlib.Core.Path.{◌≡◌, refl, sym, ap, ◌∙◌}
use mathlib.Core.List.{List, ◌++◌, append_assoc}
use native.Mathlib.Omega.{arith}
use native.Mathlib.Nat.{zero-add}
use lib.ListN.{length, take, drop, replicate, length-append, length-take, length-drop, length-replicate}
use lib.Seq.{take_at, drop_at, drop-drop, take-take, take-append-le, length-take-le}
use borrow.Rule.Slice.PartMut.{put_mid}
use Rattle.octets.specs.Parts.{part, pasted, cleared, moved, cut_out, spread, overlaid, pad}

-- a part that is written over as a whole is a paste
pub paste_mid : (d now s : List ℕ) (at k : ℕ) → now ≡ s → k ≡ length s → put_mid at k d now ≡ pasted d at s
unfolding pasted
paste_mid d now s at k e l = λ i. take at d ++ (e i ++ (drop-drop k at d ∙ ap (λ (m : ℕ). drop (at + m) d) l) i)

module _ (d : List ℕ) (at : ℕ) (s : List ℕ) (h : at + length s ≤ length d) where
  front : length (take at d ++ s) ≡ at + length s
  front = length-append (take at d) s ∙ ap (λ (k : ℕ). k + length s) (length-take-le at d (omega arith))

  -- what stands up to the end of a paste, and what stands behind it
  pub take_pasted : take (at + length s) (pasted d at s) ≡ take at d ++ s
  unfolding pasted
  take_pasted =
      ap (λ (l : List ℕ). take (at + length s) l) (sym (append_assoc (take at d) s (drop (at + length s) d)))
      ∙ take_at (take at d ++ s) (drop (at + length s) d) (at + length s) front

  pub drop_pasted : drop (at + length s) (pasted d at s) ≡ drop (at + length s) d
  unfolding pasted
  drop_pasted =
      ap (λ (l : List ℕ). drop (at + length s) l) (sym (append_assoc (take at d) s (drop (at + length s) d)))
      ∙ drop_at (take at d ++ s) (drop (at + length s) d) (at + length s) front

  pub length_pasted : length (pasted d at s) ≡ length d
  unfolding pasted
  length_pasted = simp (length-append, length-take, length-drop) (omega arith)

  drop_past : (t : List ℕ) → drop (at + length s + length t) (pasted d at s) ≡ drop (at + length (s ++ t)) d
  drop_past t =
      let e : at + length s + length t ≡ at + length (s ++ t) = simp length-append (omega arith) in
      sym (drop-drop (length t) (at + length s) (pasted d at s)) ∙ ap (λ (l : List ℕ). drop (length t) l) drop_pasted
      ∙ drop-drop (length t) (at + length s) d ∙ ap (λ (k : ℕ). drop k d) e

  -- a paste behind a paste
  pub paste_after : (t : List ℕ) → pasted (pasted d at s) (at + length s) t ≡ pasted d at (s ++ t)
  unfolding pasted
  paste_after t =
      ap (λ (l : List ℕ). l ++ (t ++ drop (at + length s + length t) (pasted d at s))) take_pasted
      ∙ ap (λ (l : List ℕ). take at d ++ s ++ (t ++ l)) (drop_past t)
      ∙ append_assoc (take at d) s (t ++ drop (at + length (s ++ t)) d)
      ∙ ap (λ (l : List ℕ). take at d ++ l) (sym (append_assoc s t (drop (at + length (s ++ t)) d)))

-- a paste before a paste
module _ (d : List ℕ) (at : ℕ) (s t : List ℕ) (h : at + length (s ++ t) ≤ length d) where
  fits : at + length s + length t ≤ length d
  fits = let e = length-append s t in omega arith

  pub paste_before : pasted (pasted d (at + length s) t) at s ≡ pasted d at (s ++ t)
  unfolding pasted
  paste_before =
      let q = take (at + length s) d ++ (t ++ drop (at + length s + length t) d) in
      let e : at + length s + length t ≡ at + length (s ++ t) = simp length-append (omega arith) in
      let short : length (take (at + length s) d) ≡ at + length s = length-take-le (at + length s) d (let f = fits in omega arith) in
      let low : take at q ≡ take at d =
      take-append-le at (take (at + length s) d) (t ++ drop (at + length s + length t) d) (omega arith) ∙ take-take at (at + length s) d (omega arith) in
      let high : drop (at + length s) q ≡ t ++ drop (at + length s + length t) d =
      drop_at (take (at + length s) d) (t ++ drop (at + length s + length t) d) (at + length s) short in
      ap (λ (l : List ℕ). l ++ (s ++ drop (at + length s) q)) low
      ∙ ap (λ (l : List ℕ). take at d ++ (s ++ l)) high
      ∙ ap (λ (l : List ℕ). take at d ++ l) (sym (append_assoc s t (drop (at + length s + length t) d)))
      ∙ ap (λ (k : ℕ). take at d ++ (s ++ t ++ drop k d)) e

-- a part moved down, and zeros behind it
pub cut_is : (d : List ℕ) (at k end : ℕ) → at + k ≤ end → end ≤ length d → cleared (moved d at (at + k) end) (end - k) end ≡ cut_out d at k end
unfolding cleared moved cut_out
cut_is d at k end h l =
    let y = part (at + k) end d in
    let ly : length y ≡ end - (at + k) = simp (length-take, length-drop) (omega arith) in
    let place : end - k ≡ at + length y = omega arith in
    let count : end - (end - k) ≡ k = omega arith in
    ap (λ (n : ℕ). pasted (pasted d at y) (end - k) (replicate n 0)) count
    ∙ ap (λ (n : ℕ). pasted (pasted d at y) n (replicate k 0)) place ∙ paste_after d at y (omega arith) (replicate k 0)

-- a part moved up, and zeros before it
pub spread_is : (d : List ℕ) (at k end : ℕ) → at ≤ end → end + k ≤ length d → cleared (moved d (at + k) at end) at (at + k) ≡ spread d at k end
unfolding cleared moved spread
spread_is d at k end h l =
    let y = part at end d in
    let z : List ℕ = replicate k 0 in
    let ly : length y ≡ end - at = simp (length-take, length-drop) (omega arith) in
    let lz = length-replicate {A = ℕ} k 0 in
    let lzy = length-append z y in
    let count : at + k - at ≡ k = omega arith in
    ap (λ (n : ℕ). pasted (pasted d (at + k) y) at (replicate n 0)) count
    ∙ ap (λ (n : ℕ). pasted (pasted d (at + n) y) at z) (sym lz) ∙ paste_before d at z y (omega arith)

-- a paste over a part of its own length
pub paste_parts : (x k s w : List ℕ) (at : ℕ) → length x ≡ at → length k ≡ length s → pasted (x ++ (k ++ w)) at s ≡ x ++ (s ++ w)
unfolding pasted
paste_parts x k s w at e l =
    ap (λ (r : List ℕ). r ++ (s ++ drop (at + length s) (x ++ (k ++ w)))) (take_at x (k ++ w) at e)
    ∙ ap (λ (r : List ℕ). x ++ (s ++ r))
    (ap (λ (r : List ℕ). drop (at + length s) r) (sym (append_assoc x k w))
    ∙ drop_at (x ++ k) w (at + length s) (length-append x k ∙ cong_add e l))
  where
    cong_add : {a b c d : ℕ} → a ≡ b → c ≡ d → a + c ≡ b + d
    cong_add p q = λ i. p i + q i

-- a part that stands between two others
pub part_parts : (x y w : List ℕ) (a e : ℕ) → length x ≡ a → a + length y ≡ e → part a e (x ++ (y ++ w)) ≡ y
part_parts x y w a e p q =
    let n : e - a ≡ length y = omega arith in
    ap (λ (r : List ℕ). take (e - a) r) (drop_at x (y ++ w) a p) ∙ ap (λ (m : ℕ). take m (y ++ w)) n ∙ take_at y w (length y) refl

-- the part k of a list in parts is cut out
pub cut_parts :
    (x k y w : List ℕ) (at n end : ℕ) → length x ≡ at → length k ≡ n → at + n + length y ≡ end →
    cut_out (x ++ (k ++ (y ++ w))) at n end ≡ x ++ (y ++ (replicate n 0 ++ w))
unfolding cut_out
cut_parts x k y w at n end p q r =
    let lk = length-append x k in
    let lky = length-append k y in
    let lyz = length-append y (replicate n 0) in
    let lz = length-replicate {A = ℕ} n 0 in
    let middle : part (at + n) end (x ++ (k ++ (y ++ w))) ≡ y =
    ap (λ (d : List ℕ). part (at + n) end d) (sym (append_assoc x k (y ++ w))) ∙ part_parts (x ++ k) y w (at + n) end (omega arith) r in
    ap (λ (s : List ℕ). pasted (x ++ (k ++ (y ++ w))) at (s ++ replicate n 0)) middle
    ∙ ap (λ (d : List ℕ). pasted (x ++ d) at (y ++ replicate n 0)) (sym (append_assoc k y w))
    ∙ paste_parts x (k ++ y) (y ++ replicate n 0) w at p (omega arith) ∙ ap (λ (d : List ℕ). x ++ d) (append_assoc y (replicate n 0) w)

-- n zeros are spread in before the part y
pub spread_parts :
    (x y z w : List ℕ) (at n end : ℕ) → length x ≡ at → length z ≡ n → at + length y ≡ end →
    spread (x ++ (y ++ (z ++ w))) at n end ≡ x ++ (replicate n 0 ++ (y ++ w))
unfolding spread
spread_parts x y z w at n end p q r =
    let lyz = length-append y z in
    let lzy = length-append (replicate n 0) y in
    let lz = length-replicate {A = ℕ} n 0 in
    ap (λ (s : List ℕ). pasted (x ++ (y ++ (z ++ w))) at (replicate n 0 ++ s)) (part_parts x y (z ++ w) at end p r)
    ∙ ap (λ (d : List ℕ). pasted (x ++ d) at (replicate n 0 ++ y)) (sym (append_assoc y z w))
    ∙ paste_parts x (y ++ z) (replicate n 0 ++ y) w at p (omega arith) ∙ ap (λ (d : List ℕ). x ++ d) (append_assoc (replicate n 0) y w)

-- a paste at the front of a buffer lies over it
pub front_over : (d s : List ℕ) → pasted d 0 s ≡ overlaid s d
unfolding pasted overlaid
front_over d s = ap (λ (k : ℕ). s ++ drop k d) (zero-add (length s))

-- a list with zeros behind it has the bytes told
pub length_pad : (n : ℕ) (l : List ℕ) → length l ≤ n → length (pad n l) ≡ n
unfolding pad
length_pad n l h = let z = length-replicate {A = ℕ} (n - length l) 0 in simp length-append (omega arith)
