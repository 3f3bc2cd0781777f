-- Characters without blanks and small letters, and the digits of bytes, there and back.
-- Assumes nothing.
use Prim.Native.Nat.{ℕ, ◌+◌, ◌-◌, ◌*◌, ◌/◌, ◌%◌, ◌≤◌, ◌<◌}
use mathlib.Core.Path.{◌≡◌, refl, sym, ap, subst, ◌∙◌}
use mathlib.Core.Logic.{⊎_elim}
use mathlib.Core.Bool.{Bool, true, false, not, ◌&&◌, false≢true}
use mathlib.Core.List.{List, [], ◌∷◌, ◌++◌}
use mathlib.Core.Option.{Option, none, some}
use native.Mathlib.Omega.{arith}
use lib.Dec.{eqb, leb, ltb}
use borrow.Author.Tests.{ltb-true, ltb-false, leb-true, eqb-false, lt-ltb, le-ltb, le-leb, lt-leb, ne_eqb, not-true}
use Rattle.rules.specs.Sound.{Each}
use Rattle.rules.specs.Lines.{is_digit, digit_value, with_byte, bytes_of, digit_of, hex}
use Rattle.rules.proofs.Laws.{stop, skip, branch, both, both_left, both_right}
use Rattle.text.proofs.Digits.{digit_ranges, low_digit, capital_digit, digit_small}
use Rattle.csim.specs.Records.{capital, cleaned, is_decimal}
use Rattle.csim.specs.Logged.{is_plain}
use Rattle.csim.proofs.Decimals.{decimal_range}

abbrev pub Plain : ℕ → Type 0
Plain c = is_plain c ≡ true

abbrev pub Byte : ℕ → Type 0
Byte b = b < 256

-- the parts of a list whose elements share a property
pub each_left : (P : ℕ → Type 0) (s t : List ℕ) → Each P (s ++ t) → Each P s
each_left P [] t h = tt
each_left P (x ∷ s) t h = (h.0, each_left P s t h.1)

pub each_right : (P : ℕ → Type 0) (s t : List ℕ) → Each P (s ++ t) → Each P t
each_right P [] t h = h
each_right P (x ∷ s) t h = each_right P s t h.1

-- what stands before the small letters
plain_below : (c : ℕ) → c < 97 → (c ≡ 32 → ⊥) → Plain c
unfolding is_plain
plain_below c h n = both _ _ (ap not (ne_eqb c 32 n)) (ap (λ (b : Bool). not (b && leb c 122)) (lt-leb 97 c h))

capital_plain : (c : ℕ) → (c ≡ 32 → ⊥) → Plain (capital c)
unfolding capital is_plain
capital_plain c n =
    branch Plain (leb 97 c && leb c 122) (c - 32) c
    (λ t.
    let p = leb-true 97 c (both_left _ _ t) in
    let q = leb-true c 122 (both_right (leb 97 c) _ t) in
    plain_below (c - 32) (omega arith) (λ e. omega (arith, e)))
    (λ f. both _ _ (ap not (ne_eqb c 32 n)) (ap not f))

-- a line without blanks and in capitals, and that it is the same line where it was so already
pub cleaned_plain : (l : List ℕ) → Each Plain (cleaned l)
unfolding cleaned
cleaned_plain [] = tt
cleaned_plain (c ∷ l) =
    branch (Each Plain) (eqb c 32) (cleaned l) (capital c ∷ cleaned l) (λ _. cleaned_plain l) (λ f. (capital_plain c (eqb-false c 32 f), cleaned_plain l))

pub plain_cleaned : (l : List ℕ) → Each Plain l → cleaned l ≡ l
unfolding cleaned capital is_plain
plain_cleaned [] h = refl
plain_cleaned (c ∷ l) h =
    let same : capital c ≡ c = skip _ _ _ (not-true _ (both_right (not (eqb c 32)) _ h.0)) in
    skip _ _ _ (not-true _ (both_left (not (eqb c 32)) _ h.0)) ∙ (λ i. same i ∷ plain_cleaned l h.1 i)

pub decimals_plain : (ds : List ℕ) → Each (λ (c : ℕ). is_decimal c ≡ true) ds → Each Plain ds
decimals_plain [] h = tt
decimals_plain (c ∷ ds) h =
    let r = decimal_range c h.0 in
    (plain_below c (omega arith) (λ e. omega (arith, e)), decimals_plain ds h.1)

-- a digit of a number below 16
module _ (n : ℕ) (h : n < 16) where
  digit_back : (is_digit (digit_of n) ≡ true) × (digit_value (digit_of n) ≡ n)
  unfolding digit_of digit_value
  digit_back =
      branch P (ltb n 10) (n + 48) (n + 55)
      (λ t.
      let k = ltb-true n 10 t in
      let e : n + 48 - 48 ≡ n = omega arith in
      (sym (low_digit (n + 48) (omega arith) (omega arith)), stop _ _ _ (le-leb (n + 48) 57 (omega arith)) ∙ e))
      (λ f.
      let k = ltb-false n 10 f in
      let e : n + 55 - 55 ≡ n = omega arith in
      (sym (capital_digit (n + 55) (omega arith) (omega arith)), skip _ _ _ (lt-leb (n + 55) 57 (omega arith)) ∙ stop _ _ _ (le-leb (n + 55) 70 (omega arith)) ∙ e))
    where
      P : ℕ → Type 0
      P c = (is_digit c ≡ true) × (digit_value c ≡ n)

  digit_plain : Plain (digit_of n)
  unfolding digit_of
  digit_plain =
      branch Plain (ltb n 10) (n + 48) (n + 55) (λ _. plain_below (n + 48) (omega arith) (λ e. omega (arith, e))) (λ _. plain_below (n + 55) (omega arith) (λ e. omega (arith, e)))

pub hex_plain : (s : List ℕ) → Each Byte s → Each Plain (hex s)
unfolding hex
hex_plain [] h = tt
hex_plain (b ∷ s) h = (digit_plain (b / 16) (let z = h.0 in omega arith), (digit_plain (b % 16) (omega arith), hex_plain s h.1))

-- the digits of bytes are read as these bytes
pub bytes_hex : (s : List ℕ) → Each Byte s → bytes_of (hex s) ≡ some s
unfolding bytes_of hex with_byte
bytes_hex [] h = refl
bytes_hex (b ∷ s) h =
    let p = digit_back (b / 16) (let z = h.0 in omega arith) in
    let q = digit_back (b % 16) (omega arith) in
    let e : 16 * (b / 16) + b % 16 ≡ b = omega arith in
    let v : 16 * digit_value (digit_of (b / 16)) + digit_value (digit_of (b % 16)) ≡ b = (λ i. 16 * p.1 i + q.1 i) ∙ e in
    λ i. with_byte (both _ _ p.0 q.0 i) (v i) (bytes_hex s h.1 i)

-- a digit that is not a small letter is the capital of its number
digit_of_lem : (c : ℕ) → Plain c → is_digit c ≡ true → digit_of (digit_value c) ≡ c
unfolding digit_of digit_value is_plain
digit_of_lem c p d = ⊎_elim (⊎_elim low high) small (digit_ranges c d)
  where
    low : (48 ≤ c) × (c ≤ 57) → digit_of (digit_value c) ≡ c
    low r =
        let v : digit_value c ≡ c - 48 = stop _ _ _ (le-leb c 57 r.1) in
        let e : c - 48 + 48 ≡ c = omega (arith, r.0) in
        ap digit_of v ∙ stop _ _ _ (lt-ltb (c - 48) 10 (omega (arith, r.0, r.1))) ∙ e

    high : (65 ≤ c) × (c ≤ 70) → digit_of (digit_value c) ≡ c
    high r =
        let v : digit_value c ≡ c - 55 = skip _ _ _ (lt-leb c 57 (omega (arith, r.0))) ∙ stop _ _ _ (le-leb c 70 r.1) in
        let e : c - 55 + 55 ≡ c = omega (arith, r.0) in
        ap digit_of v ∙ skip _ _ _ (le-ltb (c - 55) 10 (omega (arith, r.0))) ∙ e

    small : (97 ≤ c) × (c ≤ 102) → digit_of (digit_value c) ≡ c
    small r =
        let t = both _ _ (le-leb 97 c r.0) (le-leb c 122 (omega (arith, r.1))) in
        absurd (false≢true (sym (ap not t) ∙ both_right (not (eqb c 32)) _ p))

-- a byte more was read
one_more_lem : {X : Type 0} (t : Bool) (b : ℕ) (o : Option (List ℕ)) (s : List ℕ) → with_byte t b o ≡ some s → ((r : List ℕ) → t ≡ true → o ≡ some r → s ≡ b ∷ r → X) → X
unfolding with_byte
one_more_lem false b o s e k = absurd (let z : ◌≡◌ {A = ℕ} 0 1 = cc in omega arith)
one_more_lem true b none s e k = absurd (let z : ◌≡◌ {A = ℕ} 0 1 = cc in omega arith)
one_more_lem true b (some r) s e k = let z : s ≡ b ∷ r = cc in k r refl refl z

-- characters without small letters that are read are the digits of what is read
pub hex_read : (q s : List ℕ) → Each Plain q → bytes_of q ≡ some s → (q ≡ hex s) × Each Byte s
unfolding bytes_of hex
hex_read [] s h e = let z : s ≡ [] = cc in (ap hex (sym z), subst (Each Byte) (sym z) tt)
hex_read (c ∷ []) s h e = absurd (let z : ◌≡◌ {A = ℕ} 0 1 = cc in omega arith)
hex_read (c ∷ d ∷ q) s h e =
    one_more_lem _ _ (bytes_of q) s e
    (λ r t o is.
    let high = both_left (is_digit c) _ t in
    let low = both_right (is_digit c) _ t in
    let v = digit_small c high in
    let u = digit_small d low in
    let b = 16 * digit_value c + digit_value d in
    let x : b / 16 ≡ digit_value c = omega arith in
    let y : b % 16 ≡ digit_value d = omega arith in
    let rest = hex_read q r h.1.1 o in (
      (λ i. sym (ap digit_of x ∙ digit_of_lem c h.0 high) i ∷ sym (ap digit_of y ∙ digit_of_lem d h.1.0 low) i ∷ rest.0 i) ∙ ap hex (sym is),
      subst (Each Byte) (sym is) (let z : b < 256 = omega arith in z, rest.1),
    ))
