-- A byte that is stored, as a paste.
-- Assumes nothing.
use Prim.Native.Nat.{ℕ, ◌+◌, ◌<◌}
use mathlib.Core.Path.{◌≡◌, sym, ap, ◌∙◌}
use mathlib.Core.List.{List, [], ◌∷◌, ◌++◌}
use native.Mathlib.Omega.{arith}
use native.Mathlib.Nat.{add-zero}
use native.Mathlib.Numerals.{add-one}
use lib.ListN.{length, take, drop, set, take-append-drop}
use lib.Seq.{take-suc-set, drop-set-lt, append_snoc}
use Rattle.octets.specs.Parts.{pasted}

-- a byte that is set, and a paste behind it
pub paste_one : (d : List ℕ) (k c : ℕ) (s : List ℕ) → k < length d → pasted (set d k c) (k + 1) s ≡ pasted d k (c ∷ s)
unfolding pasted
paste_one d k c s h =
    let e : k + 1 + length s ≡ k + length (c ∷ s) = omega arith in
    ap (λ (l : List ℕ). l ++ (s ++ drop (k + 1 + length s) (set d k c)))
    (ap (λ (j : ℕ). take j (set d k c)) (add-one k) ∙ take-suc-set d k c h)
    ∙ ap (λ (l : List ℕ). (take k d ++ (c ∷ [])) ++ (s ++ l)) (drop-set-lt (k + 1 + length s) d k c (omega arith))
    ∙ ap (λ (j : ℕ). (take k d ++ (c ∷ [])) ++ (s ++ drop j d)) e
    ∙ append_snoc (take k d) c (s ++ drop (k + length (c ∷ s)) d)

pub paste_none : (d : List ℕ) (k : ℕ) → d ≡ pasted d k []
unfolding pasted
paste_none d k = sym (take-append-drop k d) ∙ ap (λ (j : ℕ). take k d ++ drop j d) (sym (add-zero k))

-- a byte alone
pub store_one : (d : List ℕ) (k c : ℕ) → k < length d → set d k c ≡ pasted d k (c ∷ [])
store_one d k c h = paste_none (set d k c) (k + 1) ∙ paste_one d k c [] h
