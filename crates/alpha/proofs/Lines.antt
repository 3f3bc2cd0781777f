-- Lines of units: read, scanned and written to a buffer, and printed.
-- Assumes nothing.
use Prim.Native.Nat.{ℕ, zero, suc, ◌+◌, ◌*◌, ◌/◌, ◌≤◌, ◌<◌}
use mathlib.Core.Path.{◌≡◌, refl, sym, ap, subst, ◌∙◌}
use mathlib.Core.Bool.{Bool, true, false, ◌&&◌, cond, false≢true}
use mathlib.Core.List.{List, [], ◌∷◌, ◌++◌, append-nil, append_assoc}
use mathlib.Core.Option.{Option, none, some}
use native.Mathlib.Omega.{arith}
use native.Mathlib.Numerals.{add-one}
use lib.ListN.{length, get_or, take, drop, set, length-append}
use lib.Seq.{drop-cons, take-suc, take_all, length-take-le, take-append_seam}
use lib.Dec.{eqb}
use Rattle.std.specs.List.{list_all, slice_split, onto_first}
use Rattle.std.proofs.lemmas.List.Splits.{slice_split-cons_yes, slice_split-cons_no}
use borrow.Author.Tests.{lt-ltb, le-ltb, eq-eqb, ne_eqb, eqb-true}
use Rattle.std.specs.Prelude.{Option as CodeOption, Some, None}
use Rattle.rules.specs.Checks.{◌⇒◌else◌, same}
use Rattle.rules.specs.Lines.{is_digit}
use Rattle.rules.proofs.Forms.{same_true}
use Rattle.rules.proofs.Laws.{stop, skip, both_left, both_right}
use Rattle.octets.specs.Parts.{overlaid}
use Rattle.octets.proofs.Pastes.{length_pasted}
use Rattle.octets.proofs.Stores.{paste_none}
use Rattle.text.specs.Frames.{readable, frame_bytes}
use Rattle.text.specs.Prints.{Prints}
use Rattle.text.proofs.Printing.{hex_size, prints_after, prints_as}
use Rattle.alpha.specs.Printed.{dashes, unit_text, further_text, with_unit, four_digits, are_digits, units_from, units_of}
use Rattle.alpha.specs.Passes.{digits_at, is_word, unit_at, size_told}
use Rattle.alpha.proofs.Scans.{and_true}
use Rattle.alpha.proofs.Fronts.{Front, front_room, front_more, front_all}

-- the test of every character of four
pub four_all : (w : List ℕ) → length w ≡ 4 → list_all is_digit w ≡ is_word w
unfolding is_word digits_at are_digits
four_all w e = by w e
  where
    turn : (a b c d : Bool) → a && (b && (c && (d && true))) ≡ ((a && b) && c) && d
    turn true true true d = and_true d
    turn true true false d = refl
    turn true false c d = refl
    turn false b c d = refl

    by : (v : List ℕ) → length v ≡ 4 → list_all is_digit v ≡ eqb (length v) 4 && digits_at v 0
    by [] f = absurd (let z : 0 ≡ 4 = f in omega arith)
    by (a ∷ []) f = absurd (let z : 1 ≡ 4 = f in omega arith)
    by (a ∷ b ∷ []) f = absurd (let z : 2 ≡ 4 = f in omega arith)
    by (a ∷ b ∷ c ∷ []) f = absurd (let z : 3 ≡ 4 = f in omega arith)
    by (a ∷ b ∷ c ∷ d ∷ []) f = turn (is_digit a) (is_digit b) (is_digit c) (is_digit d)
    by (a ∷ b ∷ c ∷ d ∷ x ∷ v) f = absurd (let z : suc (suc (suc (suc (suc (length v))))) ≡ 4 = f in omega arith)

pub not_four : (w : List ℕ) → (length w ≡ 4 → ⊥) → false ≡ is_word w
unfolding is_word
not_four w n = sym (ap (λ (t : Bool). t && digits_at w 0) (ne_eqb (length w) 4 n))

-- four digits, by the parts of the test
four_parts : (a b c d : Bool) → ((a && b) && c) && d ≡ true → (a ≡ true) × (b ≡ true) × (c ≡ true) × (d ≡ true)
four_parts a b c d e =
    let abc = both_left ((a && b) && c) d e in
    let ab = both_left (a && b) c abc in
    (both_left a b ab, both_right a b ab, both_right (a && b) c abc, both_right ((a && b) && c) d e)

pub digit_parts :
    (l : List ℕ) (i : ℕ) → digits_at l i ≡ true →
    (is_digit (get_or l i 0) ≡ true) × (is_digit (get_or l (i + 1) 0) ≡ true) × (is_digit (get_or l (i + 2) 0) ≡ true) × (is_digit (get_or l (i + 3) 0) ≡ true)
unfolding digits_at are_digits
digit_parts l i e = four_parts (is_digit (get_or l i 0)) (is_digit (get_or l (i + 1) 0)) (is_digit (get_or l (i + 2) 0)) (is_digit (get_or l (i + 3) 0)) e

-- four characters stand at a place
four_at : (l : List ℕ) (i : ℕ) → i + 4 ≤ length l → drop i l ≡ get_or l i 0 ∷ get_or l (i + 1) 0 ∷ get_or l (i + 2) 0 ∷ get_or l (i + 3) 0 ∷ drop (i + 4) l
four_at l i h =
    let b : suc i ≡ i + 1 = omega arith in
    let c : suc (i + 1) ≡ i + 2 = omega arith in
    let d : suc (i + 2) ≡ i + 3 = omega arith in
    let e : suc (i + 3) ≡ i + 4 = omega arith in
    drop-cons l i 0 (omega arith)
    ∙ ap (λ (r : List ℕ). get_or l i 0 ∷ r) (ap (λ (k : ℕ). drop k l) b ∙ drop-cons l (i + 1) 0 (omega arith))
    ∙ ap (λ (r : List ℕ). get_or l i 0 ∷ get_or l (i + 1) 0 ∷ r) (ap (λ (k : ℕ). drop k l) c ∙ drop-cons l (i + 2) 0 (omega arith))
    ∙ ap (λ (r : List ℕ). get_or l i 0 ∷ get_or l (i + 1) 0 ∷ get_or l (i + 2) 0 ∷ r) (ap (λ (k : ℕ). drop k l) d ∙ drop-cons l (i + 3) 0 (omega arith) ∙ ap (λ (k : ℕ). get_or l (i + 3) 0 ∷ drop k l) e)

with_readable : (t : Bool) (u : ℕ) (o : Option (List ℕ)) → readable (with_unit t u o) ≡ t && readable o
unfolding readable with_unit
with_readable false u o = refl
with_readable true u none = refl
with_readable true u (some us) = refl

-- the words of a line: what stands before the first blank, and those behind it
abbrev blank : ℕ → Bool
blank b = eqb b 32

first_word : List ℕ → List ℕ
first_word [] = []
first_word (x ∷ l) = cond (blank x) [] (x ∷ first_word l)

other_words : List ℕ → List (List ℕ)
other_words [] = []
other_words (x ∷ l) = cond (blank x) (slice_split blank l) (other_words l)

words_are : (l : List ℕ) → slice_split blank l ≡ first_word l ∷ other_words l
unfolding first_word other_words
words_are [] = refl
words_are (x ∷ l) = by (words_are l) (blank x) refl
  where
    by :
        slice_split blank l ≡ first_word l ∷ other_words l → (t : Bool) → blank x ≡ t →
        slice_split blank (x ∷ l) ≡ cond (blank x) [] (x ∷ first_word l) ∷ cond (blank x) (slice_split blank l) (other_words l)
    by h true e = slice_split-cons_yes blank x l e ∙ (λ i. cond (sym e i) [] (x ∷ first_word l) ∷ cond (sym e i) (slice_split blank l) (other_words l))
    by h false e =
        slice_split-cons_no blank x l e ∙ ap (onto_first x) h
        ∙ (λ i. cond (sym e i) [] (x ∷ first_word l) ∷ cond (sym e i) (slice_split blank l) (other_words l))

word_short : (l : List ℕ) → length (first_word l) ≤ length l
unfolding first_word
word_short [] = omega arith
word_short (x ∷ l) = by (word_short l) (blank x)
  where
    by : length (first_word l) ≤ length l → (t : Bool) → length (cond t [] (x ∷ first_word l)) ≤ suc (length l)
    by h true = omega arith
    by h false = let z : suc (length (first_word l)) ≤ suc (length l) = omega arith in z

word_at : (l : List ℕ) (i : ℕ) → i < length (first_word l) → get_or (first_word l) i 0 ≡ get_or l i 0
unfolding first_word
word_at [] i h = absurd (let z : i < 0 = h in omega arith)
word_at (x ∷ l) i h = by (λ k. word_at l k) (blank x) i h
  where
    by :
        ((k : ℕ) → k < length (first_word l) → get_or (first_word l) k 0 ≡ get_or l k 0) → (t : Bool) (k : ℕ) → k < length (cond t [] (x ∷ first_word l)) →
        get_or (cond t [] (x ∷ first_word l)) k 0 ≡ get_or (x ∷ l) k 0
    by r true k g = absurd (let z : k < 0 = g in omega arith)
    by r false zero g = refl
    by r false (suc k) g = r k (let z : suc k < suc (length (first_word l)) = g in omega arith)

-- a character that is no blank stands in the first word
word_on : (x : ℕ) (l : List ℕ) → blank x ≡ false → (first_word (x ∷ l) ≡ x ∷ first_word l) × (other_words (x ∷ l) ≡ other_words l)
unfolding first_word other_words
word_on x l e = (ap (λ (t : Bool). cond t [] (x ∷ first_word l)) e, ap (λ (t : Bool). cond t (slice_split blank l) (other_words l)) e)

digit_word : (c : ℕ) → is_digit c ≡ true → blank c ≡ false
unfolding is_digit
digit_word c e = by (blank c) refl
  where
    by : (t : Bool) → blank c ≡ t → blank c ≡ false
    by true f = absurd (false≢true (let z : is_digit 32 ≡ true = subst (λ (x : ℕ). is_digit x ≡ true) (eqb-true c 32 f) e in z))
    by false f = f

-- a line of fewer than four characters has a first word that is too short
words_few : (l : List ℕ) → length l < 4 → list_all is_word (slice_split blank l) ≡ false
unfolding is_word
words_few l h =
    let s = word_short l in
    ap (list_all is_word) (words_are l) ∙ ap (λ (t : Bool). t && list_all is_word (other_words l)) (sym (not_four (first_word l) (λ e. omega (arith, e))))

-- the first word of a line of four and more is none where they are no digits; else it is those four, if the line ends there or a blank stands behind them
module _ (a b c d : ℕ) (l : List ℕ) where
  four : List ℕ
  four = a ∷ b ∷ c ∷ d ∷ l

  no_word : are_digits a b c d ≡ false → is_word (first_word four) ≡ false
  unfolding four is_word digits_at
  no_word e = by (eqb (length (first_word four)) 4) refl
    where
      by : (t : Bool) → eqb (length (first_word four)) 4 ≡ t → eqb (length (first_word four)) 4 && digits_at (first_word four) 0 ≡ false
      by true f =
          let n = eqb-true (length (first_word four)) 4 f in
          (λ i. f i && are_digits (word_at four 0 (omega arith) i) (word_at four 1 (omega arith) i) (word_at four 2 (omega arith) i) (word_at four 3 (omega arith) i)) ∙ e
      by false f = ap (λ (t : Bool). t && digits_at (first_word four) 0) f

  words_other : are_digits a b c d ≡ false → list_all is_word (slice_split blank four) ≡ false
  words_other e = ap (list_all is_word) (words_are four) ∙ ap (λ (t : Bool). t && list_all is_word (other_words four)) (no_word e)

  module _ (e : are_digits a b c d ≡ true) where
    on_four : (first_word four ≡ a ∷ b ∷ c ∷ d ∷ first_word l) × (other_words four ≡ other_words l)
    unfolding four are_digits
    on_four =
        let w = four_parts (is_digit a) (is_digit b) (is_digit c) (is_digit d) e in
        let p = word_on a (b ∷ c ∷ d ∷ l) (digit_word a w.0) in
        let q = word_on b (c ∷ d ∷ l) (digit_word b w.1) in
        let r = word_on c (d ∷ l) (digit_word c w.2) in
        let s = word_on d l (digit_word d w.3) in (
          p.0 ∙ ap (λ (x : List ℕ). a ∷ x) (q.0 ∙ ap (λ (x : List ℕ). b ∷ x) (r.0 ∙ ap (λ (x : List ℕ). c ∷ x) s.0)),
          p.1 ∙ q.1 ∙ r.1 ∙ s.1,
        )

    long_word : (w : List ℕ) → is_word (a ∷ b ∷ c ∷ d ∷ w) ≡ eqb (length w) 0
    unfolding is_word digits_at
    long_word [] = e
    long_word (x ∷ w) =
        ap (λ (t : Bool). t && are_digits a b c d) (ne_eqb (length (a ∷ b ∷ c ∷ d ∷ x ∷ w)) 4 (λ f. let z : suc (suc (suc (suc (suc (length w))))) ≡ 4 = f in omega arith))
        ∙ sym (ne_eqb (length (x ∷ w)) 0 (λ f. let z : suc (length w) ≡ 0 = f in omega arith))

    words_digits : list_all is_word (slice_split blank four) ≡ eqb (length (first_word l)) 0 && list_all is_word (other_words l)
    words_digits =
        ap (list_all is_word) (words_are four)
        ∙ (λ i. is_word (on_four.0 i) && list_all is_word (on_four.1 i)) ∙ ap (λ (t : Bool). t && list_all is_word (other_words l)) (long_word (first_word l))

pub words_units : (l : List ℕ) → list_all is_word (slice_split blank l) ≡ readable (units_from l)
unfolding units_from readable first_word other_words four
words_units [] = words_few [] (omega arith)
words_units (a ∷ []) = words_few (a ∷ []) (let z : 1 < 4 = omega arith in z)
words_units (a ∷ b ∷ []) = words_few (a ∷ b ∷ []) (let z : 2 < 4 = omega arith in z)
words_units (a ∷ b ∷ c ∷ []) = words_few (a ∷ b ∷ c ∷ []) (let z : 3 < 4 = omega arith in z)
words_units (a ∷ b ∷ c ∷ d ∷ []) = by (are_digits a b c d) refl
  where
    by : (t : Bool) → are_digits a b c d ≡ t → list_all is_word (slice_split blank (a ∷ b ∷ c ∷ d ∷ [])) ≡ readable (with_unit (are_digits a b c d) (four_digits a b c d) (some []))
    by true e = words_digits a b c d [] e ∙ sym (with_readable (are_digits a b c d) (four_digits a b c d) (some []) ∙ ap (λ (x : Bool). x && true) e)
    by false e = words_other a b c d [] e ∙ sym (with_readable (are_digits a b c d) (four_digits a b c d) (some []) ∙ ap (λ (x : Bool). x && true) e)
words_units (a ∷ b ∷ c ∷ d ∷ f ∷ l) =
    by (words_units l) (are_digits a b c d) refl ∙ sym (with_readable (are_digits a b c d && blank f) (four_digits a b c d) (units_from l))
  where
    behind : list_all is_word (slice_split blank l) ≡ readable (units_from l) → (t : Bool) → blank f ≡ t →
        eqb (length (first_word (f ∷ l))) 0 && list_all is_word (other_words (f ∷ l)) ≡ blank f && readable (units_from l)
    behind h true e =
        (λ i. eqb (length (cond (e i) [] (f ∷ first_word l))) 0 && list_all is_word (cond (e i) (slice_split blank l) (other_words l)))
        ∙ h ∙ ap (λ (t : Bool). t && readable (units_from l)) (sym e)
    behind h false e =
        (λ i. eqb (length (cond (e i) [] (f ∷ first_word l))) 0 && list_all is_word (cond (e i) (slice_split blank l) (other_words l)))
        ∙ ap (λ (t : Bool). t && list_all is_word (other_words l)) (ne_eqb (length (f ∷ first_word l)) 0 (λ g. let z : suc (length (first_word l)) ≡ 0 = g in omega arith))
        ∙ ap (λ (t : Bool). t && readable (units_from l)) (sym e)

    by :
        list_all is_word (slice_split blank l) ≡ readable (units_from l) → (t : Bool) → are_digits a b c d ≡ t →
        list_all is_word (slice_split blank (a ∷ b ∷ c ∷ d ∷ f ∷ l)) ≡ (are_digits a b c d && blank f) && readable (units_from l)
    by h true e = words_digits a b c d (f ∷ l) e ∙ behind h (blank f) refl ∙ ap (λ (t : Bool). (t && blank f) && readable (units_from l)) (sym e)
    by h false e = words_other a b c d (f ∷ l) e ∙ ap (λ (t : Bool). (t && blank f) && readable (units_from l)) (sym e)

-- the parts of a unit that was read
with_parts :
    (t : Bool) (u : ℕ) (o : Option (List ℕ)) → readable (with_unit t u o) ≡ true → (t ≡ true) × (readable o ≡ true) × (frame_bytes (with_unit t u o) ≡ u ∷ frame_bytes o)
unfolding readable with_unit frame_bytes
with_parts false u o e = absurd (false≢true e)
with_parts true u none e = absurd (false≢true e)
with_parts true u (some us) e = (refl, refl, refl)

pub units_size : (l : List ℕ) → readable (units_from l) ≡ true → 5 * length (frame_bytes (units_from l)) ≡ length l + 1
unfolding units_from readable frame_bytes
units_size [] e = absurd (false≢true e)
units_size (a ∷ []) e = absurd (false≢true e)
units_size (a ∷ b ∷ []) e = absurd (false≢true e)
units_size (a ∷ b ∷ c ∷ []) e = absurd (false≢true e)
units_size (a ∷ b ∷ c ∷ d ∷ []) e = ap (λ (s : List ℕ). 5 * length s) (with_parts _ _ (some []) e).2
units_size (a ∷ b ∷ c ∷ d ∷ f ∷ l) e =
    let r = with_parts _ _ (units_from l) e in
    let n = units_size l r.1 in
    let m = ap length r.2 in
    omega arith

-- a place five characters on
shift : (a b c d e : ℕ) (l : List ℕ) (i k : ℕ) → get_or (a ∷ b ∷ c ∷ d ∷ e ∷ l) (5 * suc i + k) 0 ≡ get_or l (5 * i + k) 0
shift a b c d e l i k =
    let z : 5 * suc i + k ≡ suc (suc (suc (suc (suc (5 * i + k))))) = omega arith in
    ap (λ (j : ℕ). get_or (a ∷ b ∷ c ∷ d ∷ e ∷ l) j 0) z

shift_none : (a b c d e : ℕ) (l : List ℕ) (i : ℕ) → get_or (a ∷ b ∷ c ∷ d ∷ e ∷ l) (5 * suc i) 0 ≡ get_or l (5 * i) 0
shift_none a b c d e l i =
    let z : 5 * suc i ≡ suc (suc (suc (suc (suc (5 * i))))) = omega arith in
    ap (λ (j : ℕ). get_or (a ∷ b ∷ c ∷ d ∷ e ∷ l) j 0) z

-- the digits and the unit at each place
pub units_at :
    (l : List ℕ) (i : ℕ) → readable (units_from l) ≡ true → i < length (frame_bytes (units_from l)) →
    (digits_at l (5 * i) ≡ true) × (get_or (frame_bytes (units_from l)) i 0 ≡ unit_at l (5 * i))
unfolding units_from readable digits_at unit_at frame_bytes
units_at [] i e h = absurd (false≢true e)
units_at (a ∷ []) i e h = absurd (false≢true e)
units_at (a ∷ b ∷ []) i e h = absurd (false≢true e)
units_at (a ∷ b ∷ c ∷ []) i e h = absurd (false≢true e)
units_at (a ∷ b ∷ c ∷ d ∷ []) zero e h = let r = with_parts _ _ (some []) e in (r.0, ap (λ (s : List ℕ). get_or s 0 0) r.2)
units_at (a ∷ b ∷ c ∷ d ∷ []) (suc i) e h = absurd (let n = ap length (with_parts _ _ (some []) e).2 in omega arith)
units_at (a ∷ b ∷ c ∷ d ∷ f ∷ l) zero e h =
    let r = with_parts _ _ (units_from l) e in
    (both_left (are_digits a b c d) (eqb f 32) r.0, ap (λ (s : List ℕ). get_or s 0 0) r.2)
units_at (a ∷ b ∷ c ∷ d ∷ f ∷ l) (suc i) e h =
    let r = with_parts _ _ (units_from l) e in
    let n = ap length r.2 in
    let w = units_at l i r.1 (omega arith) in
    let z = shift_none a b c d f l i in
    let p = shift a b c d f l i in (
      (λ j. are_digits (z j) (p 1 j) (p 2 j) (p 3 j)) ∙ w.0,
      ap (λ (s : List ℕ). get_or s (suc i) 0) r.2 ∙ w.1 ∙ sym (λ j. four_digits (z j) (p 1 j) (p 2 j) (p 3 j)),
    )

-- the first i units of a line stand in the buffer
module _ (l before : List ℕ) (read : readable (units_from l) ≡ true) (i : ℕ) (after : List ℕ) (w : Front (frame_bytes (units_from l)) before i after) where
  module _ (h : i < (length l + 1) / 5) where
    within : i < length (frame_bytes (units_from l))
    within = let n = units_size l read in omega arith

    pub united_place : 5 * i + 4 ≤ length l
    united_place = let n = units_size l read in let k = within in omega arith

    pub united_digits : digits_at l (5 * i) ≡ true
    united_digits = (units_at l i read within).0

    pub united_room : i < length after
    united_room = front_room _ before i after w within

    pub united_more : (v : ℕ) → v ≡ unit_at l (5 * i) → Front (frame_bytes (units_from l)) before (i + 1) (set after i v)
    united_more v e = front_more _ before i after w v within (e ∙ sym (units_at l i read within).1)

  pub united_all : (length l + 1) / 5 ≤ i → after ≡ overlaid (frame_bytes (units_from l)) before
  united_all h = let n = units_size l read in front_all _ before i after w (omega arith)

-- a line that is not two dashes
no_dashes : (l : List ℕ) → (l ≡ dashes → ⊥) → same l dashes ≡ false
no_dashes l n = by (same l dashes) refl
  where
    by : (t : Bool) → same l dashes ≡ t → same l dashes ≡ false
    by true e = absurd (n (same_true l dashes e))
    by false e = e

-- what is told of a line, and what stands in the buffer
abbrev pub ToldUnits : CodeOption ℕ → Option (List ℕ) → List ℕ → List ℕ → Type 0
ToldUnits z o before after = (z ≡ size_told o) × (after ≡ overlaid (frame_bytes o) before)

as_told : (z : CodeOption ℕ) (o p : Option (List ℕ)) (before after : List ℕ) → o ≡ p → ToldUnits z p before after → ToldUnits z o before after
as_told z o p before after e w = subst (λ (x : Option (List ℕ)). ToldUnits z x before after) (sym e) w

missing : (o : Option (List ℕ)) (before : List ℕ) → readable o ≡ false → ToldUnits None o before before
unfolding readable size_told frame_bytes overlaid
missing none before e = (refl, refl)
missing (some s) before e = absurd (false≢true (sym e))

present : (o : Option (List ℕ)) → readable o ≡ true → Some (length (frame_bytes o)) ≡ size_told o
unfolding readable size_told frame_bytes
present none e = absurd (false≢true e)
present (some s) e = refl

module _ (l before : List ℕ) where
  pub told_blank : length l ≡ 0 → ToldUnits (Some 0) (units_of l) before before
  unfolding units_of size_told frame_bytes overlaid
  told_blank e = as_told _ _ (some []) before before (stop _ _ _ (eq-eqb (length l) 0 e)) (refl, refl)

  pub told_dashes : l ≡ dashes → ToldUnits (Some 0) (units_of l) before before
  unfolding units_of size_told frame_bytes overlaid same ◌⇒◌else◌
  told_dashes e = as_told _ _ (some []) before before (ap units_of e) (refl, refl)

  module _ (n : length l ≡ 0 → ⊥) (e : l ≡ dashes → ⊥) where
    pub told_long : 7999 < length l → ToldUnits None (units_of l) before before
    unfolding units_of size_told frame_bytes overlaid
    told_long h = as_told _ _ none before before (skip _ _ _ (ne_eqb (length l) 0 n) ∙ skip _ _ _ (no_dashes l e) ∙ stop _ _ _ (lt-ltb 7999 (length l) h)) (refl, refl)

    module _ (h : length l ≤ 7999) where
      is_from : units_of l ≡ units_from l
      unfolding units_of
      is_from = skip _ _ _ (ne_eqb (length l) 0 n) ∙ skip _ _ _ (no_dashes l e) ∙ skip _ _ _ (le-ltb 7999 (length l) h)

      pub told_unread : false ≡ readable (units_from l) → ToldUnits None (units_of l) before before
      told_unread g = as_told _ _ _ before before is_from (missing (units_from l) before (sym g))

      module _ (g : true ≡ readable (units_from l)) where
        pub told_fits : 1600 ≤ length before → length (frame_bytes (units_from l)) ≤ length before
        told_fits r = let s = units_size l (sym g) in omega arith

        pub told_units : (after : List ℕ) → after ≡ overlaid (frame_bytes (units_from l)) before → ToldUnits (Some ((length l + 1) / 5)) (units_of l) before after
        told_units after w =
            let s = units_size l (sym g) in
            let z : (length l + 1) / 5 ≡ length (frame_bytes (units_from l)) = omega arith in
            as_told _ _ _ before after is_from (ap Some z ∙ present (units_from l) (sym g), w)

-- a line that was read: its units stand at the front of the buffer
pub record ReadUnits (o : Option (List ℕ)) (n : ℕ) (buffer : List ℕ) : Type 0 where
  pub fits : n ≤ length buffer
  pub size : n ≡ length (take n buffer)
  pub units : o ≡ some (take n buffer)

pub units_read : (o : Option (List ℕ)) (z : CodeOption ℕ) (n : ℕ) (before after : List ℕ) → ToldUnits z o before after → z ≡ Some n → ReadUnits o n after
unfolding size_told frame_bytes overlaid
units_read none z n before after t e = absurd (let y : ◌≡◌ {A = ℕ} 0 1 = cc in omega arith)
units_read (some s) z n before after t e =
    let size : n ≡ length s = cc in
    let long = ap length t.1 ∙ length-append s (drop (length s) before) in
    let fits : n ≤ length after = omega arith in
    record { fits = fits; size = sym (length-take-le n after fits); units = sym (ap some ((λ i. take (size i) (t.1 i)) ∙ take-append_seam s (drop (length s) before))) }

pub units_unread : (o : Option (List ℕ)) (z : CodeOption ℕ) → z ≡ size_told o → z ≡ None → o ≡ none
unfolding size_told
units_unread none z t e = refl
units_unread (some s) z t e = absurd (let y : ◌≡◌ {A = ℕ} 0 1 = cc in omega arith)

-- the text of a unit, and of units with a blank in front of each
pub unit_size : (u : ℕ) → length (unit_text u) ≡ 4
unfolding unit_text
unit_size u = hex_size _

pub further_size : (us : List ℕ) → length (further_text us) ≡ 5 * length us
unfolding further_text
further_size [] = refl
further_size (u ∷ us) =
    let e = further_size us in
    let f = unit_size u in
    let g = length-append (unit_text u) (further_text us) in
    omega arith

further_append : (s t : List ℕ) → further_text (s ++ t) ≡ further_text s ++ further_text t
unfolding further_text
further_append [] t = refl
further_append (u ∷ s) t =
    ap (λ (r : List ℕ). 32 ∷ unit_text u ++ r) (further_append s t) ∙ ap (λ (r : List ℕ). 32 ∷ r) (sym (append_assoc (unit_text u) (further_text s) (further_text t)))

-- the first i units are printed
pub record Further (us before : List ℕ) (at end i : ℕ) (after : List ℕ) : Type 0 where
  pub within : i ≤ length us
  pub fits : at + 5 * length us ≤ length before
  pub prints : Prints (further_text (take i us)) end before at after

pub further_none : (us before : List ℕ) (at : ℕ) → at + 5 * length us ≤ length before → Further us before at at 0 before
unfolding further_text
further_none us before at h =
    record { within = omega arith; fits = h; prints = record { stands = paste_none before at; place = let z : at ≡ at + 0 = omega arith in z } }

module _ (us before : List ℕ) (at end i : ℕ) (after : List ℕ) (w : Further us before at end i after) where
  pub further_place : end ≡ at + 5 * i
  further_place =
      let e = further_size (take i us) in
      let t = length-take-le i us w.within in
      omega (arith, w.prints.place)

  pub further_same : length after ≡ length before
  further_same =
      let e = further_size (take i us) in
      let t = length-take-le i us w.within in
      ap length w.prints.stands ∙ length_pasted before at (further_text (take i us)) (omega (arith, w.fits, w.within))

  pub further_unit : (m : ℕ) (x : List ℕ) → i < length us → Prints (32 ∷ []) m after end x → m + 4 ≤ length x
  further_unit m x h p =
      let s = further_same in
      let z = further_place in
      let l = ap length p.stands ∙ length_pasted after end (32 ∷ []) (omega (arith, w.fits)) in
      omega (arith, p.place, w.fits)

  pub further_more :
      (m e : ℕ) (x y : List ℕ) → i < length us → Prints (32 ∷ []) m after end x → Prints (unit_text (get_or us i 0)) e x m y → Further us before at e (i + 1) y
  unfolding further_text
  further_more m e x y h p q =
      let k = further_size (take i us) in
      let t = length-take-le i us w.within in
      let s = further_same in
      let z = further_place in
      let one : further_text (get_or us i 0 ∷ []) ≡ (32 ∷ []) ++ unit_text (get_or us i 0) = ap (λ (r : List ℕ). 32 ∷ r) (append-nil (unit_text (get_or us i 0))) in
      let next : further_text (take (i + 1) us) ≡ further_text (take i us) ++ ((32 ∷ []) ++ unit_text (get_or us i 0)) =
      ap (λ (j : ℕ). further_text (take j us)) (add-one i) ∙ ap further_text (take-suc us i 0 h) ∙ further_append (take i us) (get_or us i 0 ∷ [])
      ∙ ap (λ (r : List ℕ). further_text (take i us) ++ r) one in
      record {
        within = omega arith;
        fits = w.fits;
        prints = prints_as (sym next) (prints_after w.prints (prints_after p q (omega (arith, w.fits))) (omega (arith, w.fits)));
      }

  pub further_all : length us ≤ i → Prints (further_text us) end before at after
  further_all h = prints_as (ap further_text (take_all i us h)) w.prints
