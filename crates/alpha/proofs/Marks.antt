-- An alpha identifier by its first byte, and what the call hands back by what was found.
-- Assumes nothing.
use Prim.Native.Nat.{ℕ, suc, ◌+◌, ◌-◌, ◌*◌, ◌≤◌, ◌<◌}
use mathlib.Core.Path.{◌≡◌, refl, sym, ap, ◌∙◌}
use mathlib.Core.Bool.{false}
use mathlib.Core.List.{List, [], ◌∷◌}
use native.Mathlib.Omega.{arith}
use lib.ListN.{length, get_or, take, drop}
use lib.Dec.{ltb}
use borrow.Author.Rules.{part_to_end}
use borrow.Author.Tests.{lt-ltb, le-ltb, ne_eqb}
use Rattle.std.specs.Prelude.{Ok, Err, Some, None}
use Rattle.rules.specs.Checks.{◌⇒◌else◌, is_empty}
use Rattle.rules.specs.declared.Refusal.TheVariants.{ShortText}
use Rattle.rules.specs.declared.Refusal.TheVariants.{Malformed as MalformedText}
use Rattle.rules.proofs.Laws.{stop, skip}
use Rattle.octets.specs.Parts.{overlaid}
use Rattle.alpha.specs.Reads.{Text, units, malformed, pairs, based, default_from, block_pointer, base_pointer, block_mark, base_mark, reads}
use Rattle.alpha.specs.Calls.{fitted, laid, ended_of, leaves}
use Rattle.alpha.specs.Bodies.{text_told}

-- no byte, and another than the three marks
pub reads_empty : (s : List ℕ) → length s ≡ 0 → default_from false s ≡ reads s
unfolding reads default_from is_empty ◌⇒◌else◌
reads_empty [] e = refl
reads_empty (b ∷ s) e = absurd (let z : suc (length s) ≡ 0 = e in omega arith)

pub reads_default : (v s : List ℕ) (m : ℕ) → v ≡ m ∷ s → (m ≡ 128 → ⊥) → (m ≡ 129 → ⊥) → (m ≡ 130 → ⊥) → default_from false v ≡ reads v
unfolding reads is_empty ◌⇒◌else◌
reads_default v s m e a b c = ap (default_from false) e ∙ sym (ap reads e ∙ skip _ _ _ (ne_eqb m 128 a) ∙ skip _ _ _ (ne_eqb m 129 b) ∙ skip _ _ _ (ne_eqb m 130 c))

-- 80
pub reads_pairs : (v s : List ℕ) (m : ℕ) → v ≡ m ∷ s → m ≡ 128 → pairs s ≡ reads v
unfolding reads is_empty ◌⇒◌else◌
reads_pairs v s m e f = sym (ap reads e ∙ ap (λ (n : ℕ). reads (n ∷ s)) f)

-- 81 and 82: a head that is cut short, and one that is whole
module _ (s : List ℕ) where
  block_is : reads (block_mark ∷ s) ≡ (ltb (length (129 ∷ s)) 3 ⇒ malformed else based (get_or s 0 0) (128 * get_or s 1 0) (drop 2 s))
  unfolding reads is_empty block_pointer ◌⇒◌else◌
  block_is = refl

  pub block_short : length s < 2 → reads (block_mark ∷ s) ≡ malformed
  block_short h = block_is ∙ stop _ _ _ (lt-ltb (length (129 ∷ s)) 3 (omega arith))

  pub block_reads : (p : ℕ) → 2 ≤ length s → p ≡ 128 * get_or s 1 0 → based (get_or s 0 0) p (take (length s - 2) (drop 2 s)) ≡ reads (block_mark ∷ s)
  block_reads p h e = (λ i. based (get_or s 0 0) (e i) (part_to_end s 2 i)) ∙ sym (block_is ∙ skip _ _ _ (le-ltb (length (129 ∷ s)) 3 (omega arith)))

  base_is : reads (base_mark ∷ s) ≡ (ltb (length (130 ∷ s)) 4 ⇒ malformed else based (get_or s 0 0) (256 * get_or s 1 0 + get_or s 2 0) (drop 3 s))
  unfolding reads is_empty base_pointer ◌⇒◌else◌
  base_is = refl

  pub base_short : length s < 3 → reads (base_mark ∷ s) ≡ malformed
  base_short h = base_is ∙ stop _ _ _ (lt-ltb (length (130 ∷ s)) 4 (omega arith))

  pub base_reads : (p : ℕ) → 3 ≤ length s → p ≡ 256 * get_or s 1 0 + get_or s 2 0 → based (get_or s 0 0) p (take (length s - 3) (drop 3 s)) ≡ reads (base_mark ∷ s)
  base_reads p h e = (λ i. based (get_or s 0 0) (e i) (part_to_end s 3 i)) ∙ sym (base_is ∙ skip _ _ _ (le-ltb (length (130 ∷ s)) 4 (omega arith)))

-- the end of the call, by what was told of the units
module _ (t : Text) (out : List ℕ) where
  pub ended_malformed : None ≡ text_told t → (Err MalformedText ≡ ended_of t (length out)) × (out ≡ leaves t out)
  unfolding ended_of leaves text_told
  ended_malformed e = by t e
    where
      by : (u : Text) → None ≡ text_told u → (Err MalformedText ≡ ended_of u (length out)) × (out ≡ leaves u out)
      by malformed f = (refl, refl)
      by (units us) f = absurd (let o : ◌≡◌ {A = ℕ} 0 1 = cc in omega arith)

  module _ (us : List ℕ) (e : Some us ≡ text_told t) where
    is_units : t ≡ units us
    unfolding text_told
    is_units = by t e
      where
        by : (u : Text) → Some us ≡ text_told u → u ≡ units us
        by malformed f = absurd (let o : ◌≡◌ {A = ℕ} 0 1 = cc in omega arith)
        by (units ws) f = ap units (cc)

    pub ended_short : length out < length us → (Err ShortText ≡ ended_of t (length out)) × (out ≡ leaves t out)
    unfolding ended_of leaves fitted laid
    ended_short h =
        let s = lt-ltb (length out) (length us) h in
        (sym (ap (λ (u : Text). ended_of u (length out)) is_units ∙ stop _ _ _ s), sym (ap (λ (u : Text). leaves u out) is_units ∙ stop _ _ _ s))

    pub ended_units : (k : ℕ) (after : List ℕ) → k ≡ length us → length us ≤ length out → after ≡ overlaid us out → (Ok k ≡ ended_of t (length out)) × (after ≡ leaves t out)
    unfolding ended_of leaves fitted laid overlaid
    ended_units k after l h w =
        let s = le-ltb (length out) (length us) h in
        (ap Ok l ∙ sym (ap (λ (u : Text). ended_of u (length out)) is_units ∙ skip _ _ _ s), w ∙ sym (ap (λ (u : Text). leaves u out) is_units ∙ skip _ _ _ s))
