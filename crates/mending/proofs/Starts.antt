-- Objects that come out alike with the same changes began at the same place, or no length of theirs was shortened.
-- Assumes nothing.
use Prim.Native.Nat.{ℕ, ◌+◌, ◌≤◌, ◌<◌}
use mathlib.Core.Path.{◌≡◌, refl, sym, ap, subst, ◌∙◌}
use mathlib.Core.Logic.{◌⊎◌, inl, inr, ⊎_elim}
use mathlib.Core.Bool.{Bool, true, false}
use mathlib.Core.List.{List, [], ◌∷◌, ◌++◌}
use native.Mathlib.Omega.{arith}
use lib.ListN.{length, length-append}
use Rattle.rules.specs.Checks.{◌⇒◌else◌}
use Rattle.rules.specs.Frames.{length_bytes, Object, object, object_at}
use Rattle.rules.specs.Sound.{Each}
use Rattle.rules.proofs.Laws.{skip}
use Rattle.mending.specs.Mends.{Change, shortened, is_overlong, LooseRead, loose, fault, loose_at, Mended, with_object, mend_from}
use Rattle.mending.specs.Unmends.{unmended}
use Rattle.mending.proofs.Parts.{LooseParts, LooseIs, loose_parts}
use Rattle.mending.proofs.Walked.{mend_end, mend_fault, mend_object, holds, form_size, some_length}
use Rattle.mending.proofs.Told.{From, Told, told_none, told_cut, told_more, mend_told}

-- nothing was shortened
abbrev pub Free : List Change → Type 0
Free cs = (p : ℕ) (s : List ℕ) → unmended p s cs ≡ s

-- two objects of the same tag size at starts that are near each other: a shortened length beside one that is not would be an object behind it
meet :
    (over over' : Bool) (a a' n k k' : ℕ) (cs cs' : List Change) →
    (over ⇒ shortened (a + n) ∷ [] else []) ++ cs ≡ (over' ⇒ shortened (a' + n) ∷ [] else []) ++ cs' → Each (From (a + k)) cs → Each (From (a' + k')) cs' →
    n < k → n < k' → a ≤ a' + 1 → a' ≤ a + 1 → (over ≡ false → over' ≡ false → k ≡ k') → (k ≡ k' → cs ≡ cs' → (a + k ≡ a' + k') ⊎ Free cs) →
    (a ≡ a') ⊎ Free ((over ⇒ shortened (a + n) ∷ [] else []) ++ cs)
unfolding ◌⇒◌else◌
meet true true a a' n k k' cs cs' e f f' h h' g g' same ih = let places : a + n ≡ a' + n = cc in inl (omega arith)
meet true false a a' n k k' cs cs' e f f' h h' g g' same ih = absurd (let w = subst (Each (From (a' + k'))) (sym e) f' in omega (arith, w.0))
meet false true a a' n k k' cs cs' e f f' h h' g g' same ih = absurd (let w = subst (Each (From (a + k))) e f in omega (arith, w.0))
meet false false a a' n k k' cs cs' e f f' h h' g g' same ih = let z = same refl refl in ⊎_elim (λ p. inl (omega arith)) inr (ih z e)

abbrev OneStart : ℕ → Mended → Type 0
OneStart a m =
    (a' : ℕ) (x : List ℕ) → m.bytes ≡ (mend_from a' x).bytes → m.changes ≡ (mend_from a' x).changes → a ≤ a' + 1 → a' ≤ a + 1 → (a ≡ a') ⊎ Free m.changes

plain : (l : List ℕ) → is_overlong l ≡ false → length {A = ℕ} (is_overlong l ⇒ 0x81 ∷ [] else []) ≡ 0
plain l e = ap length (skip (is_overlong l) (0x81 ∷ []) [] e)

module _
    (a : ℕ)
    (s t l : List ℕ)
    (o : Object)
    (r : List ℕ)
    (m : Mended)
    (h : LooseParts s t l o r)
    (f : Told (a + length (t ++ (l ++ o.value))) r m)
    (ih : OneStart (a + length (t ++ (l ++ o.value))) m) where
  bytes_some : (y : List ℕ) → (with_object a t l o m).bytes ≡ y → 1 ≤ length y
  unfolding with_object
  bytes_some y e =
      let v = length_bytes (length o.value) ++ o.value in
      let n = sym (ap length e) ∙ length-append (t ++ v) m.bytes in
      let k = length-append t v in
      omega (arith, h.some)

  same_object :
      (a' : ℕ) (x t' l' : List ℕ) (o' : Object) (r' : List ℕ) (m' : Mended) → LooseParts x t' l' o' r' → m' ≡ mend_from (a' + length (t' ++ (l' ++ o'.value))) r' →
      (with_object a t l o m).bytes ≡ (with_object a' t' l' o' m').bytes → (with_object a t l o m).changes ≡ (with_object a' t' l' o' m').changes → a ≤ a' + 1 → a' ≤ a + 1 →
      (a ≡ a') ⊎ Free (with_object a t l o m).changes
  unfolding with_object
  same_object a' x t' l' o' r' m' h' is e c g g' =
      let b = length_bytes (length o.value) in
      let b' = length_bytes (length o'.value) in
      let read : object o m.bytes ≡ object o' m'.bytes = sym (h.reads m.bytes) ∙ ap object_at e ∙ h'.reads m'.bytes in
      let same : o ≡ o' = cc read in
      let rest : m.bytes ≡ m'.bytes = cc read in
      let v = ap (λ (y : Object). length y.value) same in
      let z = ap (λ (y : Object). length (length_bytes (length y.value))) same in
      let sizes = sym (length-append (t ++ (b ++ o.value)) m.bytes) ∙ ap length e ∙ length-append (t' ++ (b' ++ o'.value)) m'.bytes in
      let out = length-append t (b ++ o.value) in
      let out₂ = length-append b o.value in
      let out' = length-append t' (b' ++ o'.value) in
      let out₂' = length-append b' o'.value in
      let w = length-append t (l ++ o.value) in
      let w₂ = length-append l o.value in
      let w' = length-append t' (l' ++ o'.value) in
      let w₂' = length-append l' o'.value in
      let form = form_size h in
      let form' = form_size h' in
      let some = some_length (length o.value) in
      let some' = some_length (length o'.value) in
      let tags : length t ≡ length t' = omega (arith, ap length rest) in
      meet (is_overlong l) (is_overlong l') a a' (length t) (length (t ++ (l ++ o.value))) (length (t' ++ (l' ++ o'.value))) m.changes m'.changes
      (c ∙ ap (λ (n : ℕ). (is_overlong l' ⇒ shortened (a' + n) ∷ [] else []) ++ m'.changes) (sym tags))
      f.later
      (subst (λ (y : Mended). Each (From (a' + length (t' ++ (l' ++ o'.value)))) y.changes) (sym is) (mend_told (a' + length (t' ++ (l' ++ o'.value))) r').later)
      (omega arith) (omega arith) g g'
      (λ k k'. omega (arith, plain l k, plain l' k'))
      (λ k d. ih _ r' (rest ∙ ap (λ (y : Mended). y.bytes) is) (d ∙ ap (λ (y : Mended). y.changes) is) (omega arith) (omega arith))

  by_read :
      (a' b : ℕ) (x : List ℕ) (y : LooseRead) → loose_at (b ∷ x) ≡ y → LooseIs (b ∷ x) y → (with_object a t l o m).bytes ≡ (mend_from a' (b ∷ x)).bytes →
      (with_object a t l o m).changes ≡ (mend_from a' (b ∷ x)).changes → a ≤ a' + 1 → a' ≤ a + 1 → (a ≡ a') ⊎ Free (with_object a t l o m).changes
  by_read a' b x fault q h' e c g g' = absurd (let n = bytes_some _ (e ∙ ap (λ (y : Mended). y.bytes) (mend_fault a' b x q)) in omega arith)
  by_read a' b x (loose t' l' o' r') q h' e c g g' =
      let is = mend_object a' b x t' l' o' r' q in
      same_object a' (b ∷ x) t' l' o' r' _ h' refl (e ∙ ap (λ (y : Mended). y.bytes) is) (c ∙ ap (λ (y : Mended). y.changes) is) g g'

  start_more : OneStart a (with_object a t l o m)
  start_more a' [] e c g g' = absurd (let n = bytes_some _ (e ∙ ap (λ (y : Mended). y.bytes) (mend_end a')) in omega arith)
  start_more a' (b ∷ x) e c g g' = by_read a' b x (loose_at (b ∷ x)) refl (loose_parts (b ∷ x)) e c g g'

pub one_start : (a : ℕ) (s : List ℕ) → Told a s (mend_from a s) × OneStart a (mend_from a s)
unfolding unmended
one_start =
    holds (λ a s m. Told a s m × OneStart a m) (λ a. (told_none a, λ _ _ _ _ _ _. inr (λ _ _. refl))) (λ a b s. (told_cut a b s, λ _ _ _ _ _ _. inr (λ _ _. refl)))
    (λ a s t l o r m h p. (told_more a s t l o r m h p.0, start_more a s t l o r m h p.0 p.1))
