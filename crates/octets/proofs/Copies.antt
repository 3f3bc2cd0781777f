-- A copy of a list into another one, byte by byte: from its front, and from its end.
-- Assumes nothing.
use Prim.Native.Nat.{ℕ, suc, ◌+◌, ◌-◌, ◌≤◌, ◌<◌}
use mathlib.Core.Path.{◌≡◌, refl, sym, ap, subst, ◌∙◌}
use mathlib.Core.List.{List, [], ◌∷◌, ◌++◌, append_assoc}
use native.Mathlib.Omega.{arith}
use native.Mathlib.Nat.{add-zero, add-suc}
use native.Mathlib.Numerals.{add-one}
use lib.ListN.{length, take, drop, get_or, set, length-take, length-drop, length-set, take-append-drop, get_or-append}
use lib.Seq.{paste, paste-zero, paste-suc, drop-paste, take-length, drop-length, drop-cons, take-suc, set_at, append_snoc, get_or-drop, get_or-take, length-take-le}
use Rattle.octets.specs.Parts.{part, pasted, moved}

-- d is d₀ with the first n bytes of s copied in from at
pub record Copied (d₀ : List ℕ) (at : ℕ) (s : List ℕ) (n : ℕ) (d : List ℕ) : Type 0 where
  pub upto : n ≤ length s
  pub fits : at + length s ≤ length d₀
  pub is : d ≡ paste d₀ at s n
  pub same : length d ≡ length d₀

module _ (d₀ : List ℕ) (at : ℕ) (s : List ℕ) where
  pub copied_none : at + length s ≤ length d₀ → Copied d₀ at s 0 d₀
  copied_none h = record { upto = omega arith; fits = h; is = paste-zero d₀ at s; same = refl }

  pub copied_more : (n : ℕ) (d : List ℕ) (v : ℕ) → Copied d₀ at s n d → n < length s → v ≡ get_or s n 0 → Copied d₀ at s (n + 1) (set d (at + n) v)
  copied_more n d v c h e =
      record {
        upto = omega arith;
        fits = c.fits;
        is =
            ap (λ (l : List ℕ). set l (at + n) v) c.is ∙ ap (λ (x : ℕ). set (paste d₀ at s n) (at + n) x) e
            ∙ paste-suc d₀ at s n 0 (omega (arith, c.fits)) h ∙ ap (λ (k : ℕ). paste d₀ at s k) (sym (add-one n));
        same = length-set d (at + n) v ∙ c.same;
      }

  pub copied_all : (n : ℕ) (d : List ℕ) → Copied d₀ at s n d → length s ≤ n → d ≡ pasted d₀ at s
  unfolding pasted
  copied_all n d c h =
      let e : n ≡ length s = omega (arith, c.upto) in
      c.is ∙ ap (λ (k : ℕ). paste d₀ at s k) e ∙ ap (λ (l : List ℕ). take at d₀ ++ l ++ drop (at + length s) d₀) (take-length s)
      ∙ append_assoc (take at d₀) s (drop (at + length s) d₀)

  -- what lies past the copy is as it was
  pub copied_past : (n k : ℕ) (d : List ℕ) → Copied d₀ at s n d → at + n ≤ k → get_or d k 0 ≡ get_or d₀ k 0
  copied_past n k d c h =
      let e : at + n + (k - (at + n)) ≡ k = omega arith in
      ap (λ (j : ℕ). get_or d j 0) (sym e) ∙ sym (get_or-drop (at + n) d (k - (at + n)) 0)
      ∙ ap (λ (l : List ℕ). get_or (drop (at + n) l) (k - (at + n)) 0) c.is
      ∙ ap (λ (l : List ℕ). get_or l (k - (at + n)) 0) (drop-paste d₀ at s n (omega (arith, c.fits)) c.upto)
      ∙ get_or-drop (at + n) d₀ (k - (at + n)) 0 ∙ ap (λ (j : ℕ). get_or d₀ j 0) e

-- d is d₀ with all but the first n bytes of s copied in
pub record CopiedBack (d₀ : List ℕ) (at : ℕ) (s : List ℕ) (n : ℕ) (d : List ℕ) : Type 0 where
  pub upto : n ≤ length s
  pub fits : at + length s ≤ length d₀
  pub is : d ≡ take (at + n) d₀ ++ (drop n s ++ drop (at + length s) d₀)
  pub same : length d ≡ length d₀

module _ (d₀ : List ℕ) (at : ℕ) (s : List ℕ) where
  pub back_none : at + length s ≤ length d₀ → CopiedBack d₀ at s (length s) d₀
  back_none h =
      record {
        upto = omega arith;
        fits = h;
        is = sym (ap (λ (l : List ℕ). take (at + length s) d₀ ++ (l ++ drop (at + length s) d₀)) (drop-length s) ∙ take-append-drop (at + length s) d₀);
        same = refl;
      }

  pub back_more :
      (n : ℕ) (d : List ℕ) (v : ℕ) → CopiedBack d₀ at s (n + 1) d → v ≡ get_or s n 0 → CopiedBack d₀ at s n (set d (at + n) v)
  back_more n d v c e =
      let h : n < length s = omega (arith, c.upto) in
      let hd : at + n < length d₀ = omega (arith, c.fits) in
      let rest = drop n s ++ drop (at + length s) d₀ in
      let tail = drop (suc n) s ++ drop (at + length s) d₀ in
      let split : take (at + (n + 1)) d₀ ≡ take (at + n) d₀ ++ (get_or d₀ (at + n) 0 ∷ []) =
      ap (λ (k : ℕ). take k d₀) (ap (λ (k : ℕ). at + k) (add-one n) ∙ add-suc at n) ∙ take-suc d₀ (at + n) 0 hd in
      record {
        upto = omega arith;
        fits = c.fits;
        is =
            ap (λ (l : List ℕ). set l (at + n) v) c.is
            ∙ ap (λ (l : List ℕ). set (l ++ (drop (n + 1) s ++ drop (at + length s) d₀)) (at + n) v) split
            ∙ ap (λ (l : List ℕ). set l (at + n) v) (append_snoc (take (at + n) d₀) (get_or d₀ (at + n) 0) (drop (n + 1) s ++ drop (at + length s) d₀))
            ∙ set_at (take (at + n) d₀) (get_or d₀ (at + n) 0) (drop (n + 1) s ++ drop (at + length s) d₀) v (at + n) (length-take-le (at + n) d₀ (omega arith))
            ∙ ap (λ (x : ℕ). take (at + n) d₀ ++ x ∷ (drop (n + 1) s ++ drop (at + length s) d₀)) e
            ∙ ap (λ (k : ℕ). take (at + n) d₀ ++ get_or s n 0 ∷ (drop k s ++ drop (at + length s) d₀)) (add-one n)
            ∙ ap (λ (l : List ℕ). take (at + n) d₀ ++ (l ++ drop (at + length s) d₀)) (sym (drop-cons s n 0 h));
        same = length-set d (at + n) v ∙ c.same;
      }

  pub back_all : (d : List ℕ) → CopiedBack d₀ at s 0 d → d ≡ pasted d₀ at s
  unfolding pasted
  back_all d c = c.is ∙ ap (λ (k : ℕ). take k d₀ ++ (s ++ drop (at + length s) d₀)) (add-zero at)

  -- what lies before the copy is as it was
  pub back_before : (n k : ℕ) (d : List ℕ) → CopiedBack d₀ at s n d → k < at + n → get_or d k 0 ≡ get_or d₀ k 0
  back_before n k d c h =
      let short : length (take (at + n) d₀) ≡ at + n = length-take-le (at + n) d₀ (omega (arith, c.fits, c.upto)) in
      ap (λ (l : List ℕ). get_or l k 0) c.is
      ∙ get_or-append (take (at + n) d₀) (drop n s ++ drop (at + length s) d₀) 0 k (omega arith)
      ∙ get_or-take (at + n) d₀ k 0 h

-- a byte of a part is a byte of the whole
pub part_get : (a e i : ℕ) (d : List ℕ) → i < e - a → get_or (part a e d) i 0 ≡ get_or d (a + i) 0
part_get a e i d h = get_or-take (e - a) (drop a d) i 0 h ∙ get_or-drop a d i 0

pub length_part : (a e : ℕ) (d : List ℕ) → e ≤ length d → length (part a e d) ≡ e - a
length_part a e d h = simp (length-take, length-drop) (omega arith)

-- a part copied down, from its front
module _ (d₀ : List ℕ) (to from end : ℕ) (h : (to ≤ from) × (from ≤ end) × (end ≤ length d₀)) where
  pub down_none : Copied d₀ to (part from end d₀) 0 d₀
  down_none = copied_none d₀ to (part from end d₀) (let e = length_part from end d₀ h.2 in omega arith)

  pub down_more :
      (i : ℕ) (d : List ℕ) → Copied d₀ to (part from end d₀) i d → i < end - from →
      Copied d₀ to (part from end d₀) (i + 1) (set d (to + i) (get_or d (from + i) 0))
  down_more i d c k =
      copied_more d₀ to (part from end d₀) i d (get_or d (from + i) 0) c (let e = length_part from end d₀ h.2 in omega arith)
      (copied_past d₀ to (part from end d₀) i (from + i) d c (omega arith) ∙ sym (part_get from end i d₀ k))

  pub down_all : (i : ℕ) (d : List ℕ) → Copied d₀ to (part from end d₀) i d → end - from ≤ i → d ≡ moved d₀ to from end
  unfolding moved
  down_all i d c k = copied_all d₀ to (part from end d₀) i d c (let e = length_part from end d₀ h.2 in omega arith)

-- a part copied up, from its end
module _ (d₀ : List ℕ) (to from end : ℕ) (h : (from ≤ to) × (from ≤ end) × (to + (end - from) ≤ length d₀)) where
  up_length : length (part from end d₀) ≡ end - from
  up_length = length_part from end d₀ (omega arith)

  pub up_none : CopiedBack d₀ to (part from end d₀) (end - from) d₀
  up_none =
      subst (λ (n : ℕ). CopiedBack d₀ to (part from end d₀) n d₀) up_length
      (back_none d₀ to (part from end d₀) (let e = up_length in omega arith))

  pub up_more :
      (n : ℕ) (d : List ℕ) → CopiedBack d₀ to (part from end d₀) n d → 0 < n →
      CopiedBack d₀ to (part from end d₀) (n - 1) (set d (to + (n - 1)) (get_or d (from + (n - 1)) 0))
  up_more n d c k =
      let e : n ≡ n - 1 + 1 = omega arith in
      back_more d₀ to (part from end d₀) (n - 1) d (get_or d (from + (n - 1)) 0) (subst (λ (m : ℕ). CopiedBack d₀ to (part from end d₀) m d) e c)
      (back_before d₀ to (part from end d₀) n (from + (n - 1)) d c (omega arith)
      ∙ sym (part_get from end (n - 1) d₀ (let l = up_length in omega (arith, c.upto))))

  pub up_all : (n : ℕ) (d : List ℕ) → CopiedBack d₀ to (part from end d₀) n d → n ≤ 0 → d ≡ moved d₀ to from end
  unfolding moved
  up_all n d c k =
      let e : n ≡ 0 = omega arith in
      back_all d₀ to (part from end d₀) d (subst (λ (m : ℕ). CopiedBack d₀ to (part from end d₀) m d) e c)
