-- The shape of a line: by what the code finds of it, and the parts of a line that has it.
-- Assumes nothing.
use Prim.Native.Nat.{ℕ, suc, ◌+◌, ◌-◌, ◌≤◌, ◌<◌}
use mathlib.Core.Path.{◌≡◌, refl, sym, ap, subst, ◌∙◌}
use mathlib.Core.Bool.{Bool, true, false, not}
use mathlib.Core.List.{List, [], ◌∷◌, ◌++◌, append_assoc}
use native.Mathlib.Omega.{arith}
use lib.ListN.{length, get_or, take, drop, length-append, length-take, length-drop}
use borrow.Author.Rules.{part_to_end}
use lib.Seq.{drop-drop, drop_at, take-suc, take_all, take-append_seam, get_or-drop, get_or_at}
use borrow.Author.Tests.{eqb-true, eq-eqb, eqb-false, ne_eqb, le-leb, lt-leb, leb-false, not-false}
use Rattle.std.specs.Prelude.{Option as CodeOption, Some, None}
use Rattle.std.specs.List.{starts_with, ends_with}
use lib.Dec.{eqb}
use Rattle.rules.specs.Checks.{◌⇒◌else◌}
use Rattle.rules.specs.Sound.{Each}
use Rattle.rules.proofs.Laws.{stop, skip}
use Rattle.octets.specs.Parts.{part}
use Rattle.octets.proofs.Pastes.{part_parts}
use Rattle.csim.specs.Kinds.{leads}
use Rattle.csim.specs.Records.{opening, quoting, is_decimal, digits_in, shape_behind, shape_of, counted, shaped, record_in}
use Rattle.csim.specs.Proper.{Counting}
use Rattle.csim.specs.Printed.{longest}
use Rattle.csim.proofs.Scans.{leads_starts, leads_ends, leads_self, leads_true, digits_decimal, digits_front, digits_before}

-- by what the code finds, test by test
module _ (c : List ℕ) (b : Bool) (u : b ≡ starts_with eqb c opening) where
  pub unopened : not b ≡ true → None ≡ shape_of c
  unfolding shape_of
  unopened f = sym (stop _ _ _ (ap not (sym (u ∙ leads_starts opening c)) ∙ f))

  module _ (f : not b ≡ false) (k : ℕ) (is : k ≡ length (digits_in (part 8 (length c) c))) where
    behind : shape_behind k c ≡ shape_of c
    unfolding shape_of
    behind = ap (λ (n : ℕ). shape_behind n c) (is ∙ ap (λ (r : List ℕ). length (digits_in r)) (part_to_end c 8)) ∙ sym (skip _ _ _ (ap not (sym (u ∙ leads_starts opening c)) ∙ f))

    pub uncounted : k ≡ 0 → None ≡ shape_of c
    unfolding shape_behind
    uncounted e = sym (stop _ _ _ (eq-eqb k 0 e)) ∙ behind

    module _ (n : k ≡ 0 → ⊥) (q : Bool) (w : q ≡ starts_with eqb (part (8 + k) (length c) c) quoting) where
      v : q ≡ leads quoting (drop (8 + k) c)
      v = w ∙ leads_starts quoting (part (8 + k) (length c) c) ∙ ap (leads quoting) (part_to_end c (8 + k))

      pub unquoted : not q ≡ true → None ≡ shape_of c
      unfolding shape_behind
      unquoted g = sym (skip _ _ _ (ne_eqb k 0 n) ∙ stop _ _ _ (ap not (sym v) ∙ g)) ∙ behind

      module _ (g : not q ≡ false) where
        pub unended : length c ≤ 10 + k → None ≡ shape_of c
        unfolding shape_behind
        unended h = sym (skip _ _ _ (ne_eqb k 0 n) ∙ skip _ _ _ (ap not (sym v) ∙ g) ∙ stop _ _ _ (le-leb (length c) (10 + k) h)) ∙ behind

        module _ (h : 10 + k < length c) (z : Bool) (x : z ≡ ends_with eqb c (34 ∷ [])) where
          told : shape_of c ≡ (not z ⇒ None else Some k)
          unfolding shape_behind
          told =
              sym behind ∙ skip _ _ _ (ne_eqb k 0 n) ∙ skip _ _ _ (ap not (sym v) ∙ g) ∙ skip _ _ _ (lt-leb (length c) (10 + k) h)
              ∙ ap (λ (t : Bool). not t ⇒ None else Some k) (sym (x ∙ leads_ends c 34 (omega arith)))

          pub unclosed : not z ≡ true → None ≡ shape_of c
          unclosed e = sym (told ∙ stop _ _ _ e)

          pub closed : not z ≡ false → Some k ≡ shape_of c
          closed e = sym (told ∙ skip _ _ _ e)

-- a line that has the shape: what is known of its count, and its text
pub record Shaping (c : List ℕ) (k : ℕ) : Type 0 where
  pub long : 10 + k < length c
  pub counting : Counting (part 8 (8 + k) c)
  pub text : c ≡ opening ++ (part 8 (8 + k) c ++ (quoting ++ (part (10 + k) (length c - 1) c ++ 34 ∷ [])))

-- a test before the shape was passed
passed : (b : Bool) (x : CodeOption ℕ) (k : ℕ) → (b ⇒ None else x) ≡ Some k → (b ≡ false) × (x ≡ Some k)
unfolding ◌⇒◌else◌
passed true x k e = absurd (let z : ◌≡◌ {A = ℕ} 0 1 = cc in omega arith)
passed false x k e = (refl, e)

positive : {k : ℕ} → (k ≡ 0 → ⊥) → 0 < k
positive n = omega (arith, n)

-- a list that ends with a character
last_one : (s : List ℕ) (c : ℕ) → 0 < length s → get_or s (length s - 1) 0 ≡ c → s ≡ take (length s - 1) s ++ c ∷ []
last_one s c h e =
    let n : suc (length s - 1) ≡ length s = omega arith in
    sym (take_all (suc (length s - 1)) s (omega arith)) ∙ take-suc s (length s - 1) 0 (omega arith)
    ∙ ap (λ (x : ℕ). take (length s - 1) s ++ x ∷ []) e

module _ (c : List ℕ) (k : ℕ) where
  behind_count :
      leads opening c ≡ true → k ≡ length (digits_in (drop 8 c)) → (k ≡ 0 → ⊥) → leads quoting (drop (8 + k) c) ≡ true → 10 + k < length c →
      get_or c (length c - 1) 0 ≡ 34 → Shaping c k
  behind_count o is n q long l =
      let m : 8 + k - 8 ≡ k = omega arith in
      let ds : part 8 (8 + k) c ≡ digits_in (drop 8 c) =
      (λ i. take ((m ∙ is) i) (drop 8 c)) ∙ ap (take (length (digits_in (drop 8 c)))) (digits_front (drop 8 c))
      ∙ take-append_seam (digits_in (drop 8 c)) (drop (length (digits_in (drop 8 c))) (drop 8 c)) in
      let to : 8 + k + 2 ≡ 10 + k = omega arith in
      let size = length-drop (10 + k) c in
      let place : 10 + k + (length (drop (10 + k) c) - 1) ≡ length c - 1 = omega arith in
      let inner : length (drop (10 + k) c) - 1 ≡ length c - 1 - (10 + k) = omega arith in
      let ends : drop (10 + k) c ≡ part (10 + k) (length c - 1) c ++ 34 ∷ [] =
      last_one (drop (10 + k) c) 34 (omega arith) (get_or-drop (10 + k) c _ 0 ∙ ap (λ (j : ℕ). get_or c j 0) place ∙ l)
      ∙ ap (λ (j : ℕ). take j (drop (10 + k) c) ++ 34 ∷ []) inner in
      let rest : drop k (drop 8 c) ≡ quoting ++ (part (10 + k) (length c - 1) c ++ 34 ∷ []) =
      drop-drop k 8 c ∙ leads_true quoting (drop (8 + k) c) q
      ∙ ap (λ (r : List ℕ). quoting ++ r) (drop-drop 2 (8 + k) c ∙ ap (λ (j : ℕ). drop j c) to ∙ ends) in
      record {
        long = long;
        counting = record { digits = subst (Each (λ (x : ℕ). is_decimal x ≡ true)) (sym ds) (digits_decimal (drop 8 c)); some = subst (λ (j : ℕ). 0 < j) (is ∙ sym (ap length ds)) (positive n) };
        text =
            leads_true opening c o
            ∙ ap (λ (r : List ℕ). opening ++ r) (digits_front (drop 8 c) ∙ (λ i. sym ds i ++ drop (sym is i) (drop 8 c)) ∙ ap (λ (r : List ℕ). part 8 (8 + k) c ++ r) rest);
      }

  pub shape_is : Some k ≡ shape_of c → Shaping c k
  unfolding shape_of shape_behind
  shape_is e =
      let o = passed _ _ k (sym e) in
      let n = passed _ _ k o.1 in
      let q = passed _ _ k n.1 in
      let h = passed _ _ k q.1 in
      let l = passed _ _ k h.1 in
      let is : k ≡ length (digits_in (drop 8 c)) = size l.1 in
      let m : 8 + length (digits_in (drop 8 c)) ≡ 8 + k = omega arith in
      let t : 10 + length (digits_in (drop 8 c)) ≡ 10 + k = omega arith in
      behind_count (not-false _ o.0) is (λ z. eqb-false _ 0 n.0 (sym is ∙ z)) (ap (λ (j : ℕ). leads quoting (drop j c)) (sym m) ∙ not-false _ q.0)
      (subst (λ (j : ℕ). j < length c) t (leb-false _ _ h.0)) (eqb-true _ 34 (not-false _ l.0))
    where
      size : {n : ℕ} → Some n ≡ Some k → k ≡ n
      size p = cc

-- what stands between the quotes is no longer than the line
pub quoted_few : (c : List ℕ) (k : ℕ) → length c ≤ longest → length (part (10 + k) (length c - 1) c) ≤ longest
quoted_few c k h =
    let t = length-take (length c - 1 - (10 + k)) (drop (10 + k) c) in
    let d = length-drop (10 + k) c in
    omega arith

-- and a text of that kind has the shape
module _ (ds q : List ℕ) (h : Counting ds) where
  module _ (c : List ℕ) (is : c ≡ opening ++ (ds ++ (quoting ++ (q ++ 34 ∷ [])))) where
    sizes : length c ≡ 11 + length ds + length q
    sizes =
        let a = length-append ds (quoting ++ (q ++ 34 ∷ [])) in
        let b = length-append q (34 ∷ []) in
        let e = ap length is in
        let d : length (opening ++ (ds ++ (quoting ++ (q ++ 34 ∷ [])))) ≡ 8 + length (ds ++ (quoting ++ (q ++ 34 ∷ []))) = omega arith in
        let f : length (quoting ++ (q ++ 34 ∷ [])) ≡ 2 + length (q ++ 34 ∷ []) = omega arith in
        let o : length {A = ℕ} (34 ∷ []) ≡ 1 = refl in
        omega arith

    by_parts : c ≡ (opening ++ (ds ++ quoting)) ++ (q ++ 34 ∷ [])
    by_parts = is ∙ ap (λ (r : List ℕ). opening ++ r) (sym (append_assoc ds quoting (q ++ 34 ∷ [])))

    front : length (opening ++ (ds ++ quoting)) ≡ 10 + length ds
    front = let a = length-append ds quoting in omega arith

    pub text_counted : record_in c ≡ counted ds q
    unfolding record_in shaped is_decimal
    text_counted =
        let k : length (digits_in (drop 8 c)) ≡ length ds = ap (λ (r : List ℕ). length (digits_in (drop 8 r))) is ∙ ap length (digits_before ds 44 (34 ∷ q ++ 34 ∷ []) h.digits refl) in
        let size = sizes in
        let room : 8 + length ds ≡ length (opening ++ ds) = omega arith in
        let last : length c - 1 ≡ length ((opening ++ (ds ++ quoting)) ++ q) = let a = length-append (opening ++ (ds ++ quoting)) q in let b = front in omega arith in
        let long : 10 + length ds < length c = omega arith in
        let opened : starts_with eqb c opening ≡ true = leads_starts opening c ∙ ap (leads opening) is ∙ leads_self opening _ in
        let digits : length ds ≡ length (digits_in (part 8 (length c) c)) = sym (ap (λ (r : List ℕ). length (digits_in r)) (part_to_end c 8) ∙ k) in
        let rest : part (8 + length ds) (length c) c ≡ quoting ++ (q ++ 34 ∷ []) =
        part_to_end c (8 + length ds)
        ∙ ap (drop (8 + length ds)) (is ∙ sym (append_assoc opening ds (quoting ++ (q ++ 34 ∷ []))))
        ∙ drop_at (opening ++ ds) (quoting ++ (q ++ 34 ∷ [])) (8 + length ds) (sym room) in
        let comma : starts_with eqb (part (8 + length ds) (length c) c) quoting ≡ true = leads_starts quoting _ ∙ ap (leads quoting) rest ∙ leads_self quoting (q ++ 34 ∷ []) in
        let end : get_or c (length c - 1) 0 ≡ 34 =
        ap (λ (r : List ℕ). get_or r (length c - 1) 0) (by_parts ∙ sym (append_assoc (opening ++ (ds ++ quoting)) q (34 ∷ [])))
        ∙ get_or_at ((opening ++ (ds ++ quoting)) ++ q) 34 [] 0 (length c - 1) (sym last) in
        let quote : ends_with eqb c (34 ∷ []) ≡ true = leads_ends c 34 (omega arith) ∙ eq-eqb _ 34 end in
        let shape = closed c true (sym opened) refl (length ds) digits (λ z. omega (arith, z, h.some)) true (sym comma) refl long true (sym quote) refl in
        ap (λ (s : CodeOption ℕ). shaped s c) (sym shape)
        ∙ (λ i. counted (count i) (inner i))
      where
        count : part 8 (8 + length ds) c ≡ ds
        count = ap (part 8 (8 + length ds)) is ∙ part_parts opening ds (quoting ++ (q ++ 34 ∷ [])) 8 (8 + length ds) refl refl

        inner : part (10 + length ds) (length c - 1) c ≡ q
        inner =
            ap (part (10 + length ds) (length c - 1)) by_parts
            ∙ part_parts (opening ++ (ds ++ quoting)) q (34 ∷ []) (10 + length ds) (length c - 1) front (let size = sizes in omega arith)
