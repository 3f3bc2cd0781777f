-- The scans over a line: a front that two lists share, the decimal digits at the front, and a line without its blanks.
-- Assumes nothing.
use Prim.Native.Nat.{ℕ, suc, ◌+◌, ◌-◌, ◌≤◌, ◌<◌}
use mathlib.Core.Path.{◌≡◌, refl, sym, ap, ◌∙◌}
use mathlib.Core.Bool.{Bool, true, false, ◌&&◌, false≢true}
use mathlib.Core.List.{List, [], ◌∷◌, ◌++◌, append-nil}
use native.Mathlib.Omega.{arith}
use native.Mathlib.Numerals.{add-one}
use lib.ListN.{length, get_or, take, drop, set, length-append, length-take, drop_of_length-le}
use lib.Seq.{drop-cons, take-suc}
use lib.Dec.{eqb}
use Rattle.std.specs.List.{starts_with, ends_with, take_while, prefix_len}
use Rattle.std.specs.Cmp.Lexicographic.{pointwise}
use Rattle.std.specs.Char.{is_ascii_digit, to_ascii_uppercase}
use Rattle.std.proofs.lemmas.Bool.Decides.{nat_tests}
use Rattle.std.proofs.lemmas.List.Folds.{length-prefix_len}
use borrow.Author.Tests.{eqb-true, eq-eqb, ne_eqb, le-leb}
use Rattle.rules.specs.Checks.{◌⇒◌else◌}
use Rattle.rules.specs.Sound.{Each}
use Rattle.rules.proofs.Laws.{stop, skip, branch, both, both_left, both_right}
use Rattle.octets.proofs.Pastes.{length_pasted}
use Rattle.text.specs.Prints.{Prints}
use Rattle.octets.proofs.Stores.{paste_none}
use Rattle.text.proofs.Printing.{prints_after, prints_as, char_printed}
use Rattle.csim.specs.Kinds.{leads}
use Rattle.csim.specs.Records.{capital, cleaned, is_decimal, digits_in}

-- a list begins with its own front
pub leads_self : (s t : List ℕ) → leads s (s ++ t) ≡ true
unfolding leads
leads_self [] t = refl
leads_self (x ∷ s) t = rw (eq-eqb x x refl, leads_self s t)

pub leads_true : (s t : List ℕ) → leads s t ≡ true → t ≡ s ++ drop (length s) t
unfolding leads
leads_true [] t e = refl
leads_true (x ∷ s) [] e = absurd (false≢true e)
leads_true (x ∷ s) (y ∷ t) e =
    λ i. sym (eqb-true x y (both_left (eqb x y) (leads s t) e)) i ∷ leads_true s t (both_right (eqb x y) (leads s t) e) i

pub leads_size : (s t : List ℕ) → leads s t ≡ true → length s ≤ length t
leads_size s t e = let l = ap length (leads_true s t e) ∙ length-append s (drop (length s) t) in omega arith

-- as the library tells it
pub leads_starts : (s t : List ℕ) → starts_with eqb t s ≡ leads s t
unfolding leads
leads_starts [] t = refl
leads_starts (x ∷ s) [] = refl
leads_starts (x ∷ s) (y ∷ t) = ap (λ (b : Bool). eqb x y && b) (leads_starts s t)

-- the last character, as the library tells it
pub leads_ends : (s : List ℕ) (c : ℕ) → 0 < length s → ends_with eqb s (c ∷ []) ≡ eqb (get_or s (length s - 1) 0) c
leads_ends s c h =
    let past : length s ≤ suc (length s - 1) = omega arith in
    let last : drop (length s - 1) s ≡ get_or s (length s - 1) 0 ∷ [] =
    drop-cons s (length s - 1) 0 (omega arith) ∙ ap (λ (r : List ℕ). get_or s (length s - 1) 0 ∷ r) (drop_of_length-le s past) in
    ap (pointwise eqb (c ∷ [])) last ∙ grind (arith, nat_tests)

-- a decimal digit by its range
pub decimal_within : (c : ℕ) → 48 ≤ c → c ≤ 57 → is_decimal c ≡ true
unfolding is_decimal
decimal_within c h k = both _ _ (le-leb 48 c h) (le-leb c 57 k)

-- the digits at the front are digits, and the front
pub digits_decimal : (s : List ℕ) → Each (λ (c : ℕ). is_decimal c ≡ true) (digits_in s)
unfolding digits_in
digits_decimal [] = tt
digits_decimal (c ∷ s) = branch (Each (λ (d : ℕ). is_decimal d ≡ true)) (is_decimal c) (c ∷ digits_in s) [] (λ e. (e, digits_decimal s)) (λ _. tt)

pub digits_front : (s : List ℕ) → s ≡ digits_in s ++ drop (length (digits_in s)) s
unfolding digits_in
digits_front [] = refl
digits_front (c ∷ s) =
    branch (λ (r : List ℕ). c ∷ s ≡ r ++ drop (length r) (c ∷ s)) (is_decimal c) (c ∷ digits_in s) [] (λ _. ap (λ (r : List ℕ). c ∷ r) (digits_front s)) (λ _. refl)

-- digits before another character are all that stand at the front
pub digits_before : (ds : List ℕ) (c : ℕ) (s : List ℕ) → Each (λ (d : ℕ). is_decimal d ≡ true) ds → is_decimal c ≡ false → digits_in (ds ++ c ∷ s) ≡ ds
unfolding digits_in
digits_before [] c s h e = skip _ _ _ e
digits_before (d ∷ ds) c s h e = stop _ _ _ h.0 ∙ ap (λ (r : List ℕ). d ∷ r) (digits_before ds c s h.1 e)

-- as the library counts them
prefix_digits : (s : List ℕ) → prefix_len is_ascii_digit s ≡ length (digits_in s)
unfolding digits_in is_decimal
prefix_digits [] = refl
prefix_digits (c ∷ s) =
    branch (λ (r : List ℕ). prefix_len is_ascii_digit (c ∷ s) ≡ length r) (is_decimal c) (c ∷ digits_in s) []
    (λ e. rw e (let k = prefix_digits s in omega arith)) (λ e. rw e refl)

pub digits_taken : (s : List ℕ) → length (take_while is_ascii_digit s) ≡ length (digits_in s)
digits_taken s = length-prefix_len is_ascii_digit s ∙ prefix_digits s

-- a character as a capital, as the library gives it
pub capital_is : (c : ℕ) → to_ascii_uppercase c ≡ capital c
unfolding capital ◌⇒◌else◌
capital_is c = grind (arith, nat_tests)

-- two lines in a row
pub cleaned_append : (s t : List ℕ) → cleaned (s ++ t) ≡ cleaned s ++ cleaned t
unfolding cleaned
cleaned_append [] t = refl
cleaned_append (c ∷ s) t =
    ap (λ (r : List ℕ). eqb c 32 ⇒ r else capital c ∷ r) (cleaned_append s t) ∙ sym (choice (eqb c 32) (cleaned s) (capital c ∷ cleaned s))
  where
    choice : (b : Bool) (x y : List ℕ) → (b ⇒ x else y) ++ cleaned t ≡ (b ⇒ x ++ cleaned t else (y ++ cleaned t))
    choice b x y = branch (λ (r : List ℕ). r ++ cleaned t ≡ (b ⇒ x ++ cleaned t else (y ++ cleaned t))) b x y (λ e. sym (stop _ _ _ e)) (λ e. sym (skip _ _ _ e))

pub cleaned_few : (s : List ℕ) → length (cleaned s) ≤ length s
unfolding cleaned
cleaned_few [] = omega arith
cleaned_few (c ∷ s) =
    let k = cleaned_few s in
    branch (λ (r : List ℕ). length r ≤ suc (length s)) (eqb c 32) (cleaned s) (capital c ∷ cleaned s) (λ _. omega arith) (λ _. let z : suc (length (cleaned s)) ≤ suc (length s) = omega arith in z)

-- the first i characters of a line stand at the front of the buffer without their blanks, in capitals
abbrev pub Cleaned : List ℕ → List ℕ → ℕ → ℕ → List ℕ → Type 0
Cleaned line before n i after = Prints (cleaned (take i line)) n before 0 after

pub cleaned_none : (line before : List ℕ) → Cleaned line before 0 0 before
unfolding cleaned
cleaned_none line before = record { stands = paste_none before 0; place = refl }

module _ (line before : List ℕ) (n i : ℕ) (after : List ℕ) (p : Cleaned line before n i after) (fits : length line ≤ length before) where
  pub cleaned_until : n ≤ i
  cleaned_until =
      let k = cleaned_few (take i line) in
      let t = length-take i line in
      omega (arith, p.place)

  pub cleaned_room : i < length line → n < length after
  cleaned_room h =
      let k = cleaned_until in
      let same = ap length p.stands ∙ length_pasted before 0 (cleaned (take i line)) (omega (arith, p.place)) in
      omega arith

  next : i < length line → cleaned (take (i + 1) line) ≡ cleaned (take i line) ++ cleaned (get_or line i 0 ∷ [])
  next h = ap (λ (j : ℕ). cleaned (take j line)) (add-one i) ∙ ap cleaned (take-suc line i 0 h) ∙ cleaned_append (take i line) (get_or line i 0 ∷ [])

  pub cleaned_blank : i < length line → get_or line i 0 ≡ 32 → Cleaned line before n (i + 1) after
  unfolding cleaned
  cleaned_blank h e =
      let none : cleaned (get_or line i 0 ∷ []) ≡ [] = stop _ _ _ (eq-eqb (get_or line i 0) 32 e) in
      prints_as (sym (next h ∙ ap (λ (r : List ℕ). cleaned (take i line) ++ r) none ∙ append-nil (cleaned (take i line)))) p

  pub cleaned_more : (v : ℕ) → i < length line → (get_or line i 0 ≡ 32 → ⊥) → v ≡ to_ascii_uppercase (get_or line i 0) → Cleaned line before (n + 1) (i + 1) (set after n v)
  unfolding cleaned
  cleaned_more v h ne e =
      let one : cleaned (get_or line i 0 ∷ []) ≡ v ∷ [] = skip _ _ _ (ne_eqb (get_or line i 0) 32 ne) ∙ ap (λ (x : ℕ). x ∷ []) (sym (e ∙ capital_is (get_or line i 0))) in
      prints_as (sym (next h ∙ ap (λ (r : List ℕ). cleaned (take i line) ++ r) one))
      (prints_after p (char_printed after n v (cleaned_room h)) (let k = cleaned_until in omega (arith, p.place)))
