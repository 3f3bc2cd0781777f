-- What the tools print, by what their passes found.
-- Assumes nothing.
use Prim.Native.Nat.{ℕ, suc, ◌+◌, ◌*◌, ◌≤◌, ◌<◌}
use mathlib.Core.Path.{◌≡◌, refl, sym, ap, subst, ◌∙◌}
use mathlib.Core.Bool.{Bool, true, false, not}
use mathlib.Core.List.{List, [], ◌∷◌, ◌++◌}
use mathlib.Core.Option.{Option, none, some}
use native.Mathlib.Omega.{arith}
use lib.ListN.{length, get_or, take, drop, length-append, length-take, length-drop}
use lib.Seq.{take-append_seam, length-take-le}
use lib.Dec.{ltb, eqb}
use borrow.Author.Tests.{le-ltb, ltb-true, ltb-false}
use Rattle.rules.specs.Checks.{◌⇒◌else◌, is_empty, every}
use Rattle.rules.specs.Words.{Ended}
use Rattle.std.specs.Prelude.{Ok, Err}
use Rattle.rules.specs.declared.Refusal.{Refusal}
use Rattle.rules.specs.declared.Refusal.TheVariants.{Malformed as MalformedText}
use Rattle.rules.specs.Command.{wrote, refused}
use Rattle.rules.specs.Lines.{printed}
use Rattle.rules.proofs.Laws.{skip, branch}
use Rattle.octets.proofs.Pastes.{length_pasted}
use Rattle.text.specs.Prints.{count_of, outcome_of, line_of, Prints}
use Rattle.text.proofs.Printing.{prints_after, prints_as}
use Rattle.alpha.specs.Alphabet.{escape, unit_of, extension_unit}
use Rattle.alpha.specs.Reads.{Text, units, malformed, follow, follow_if, padding, pairs_mark, block_mark, base_mark, default_from, pairs, based_unit, based_from, based, block_pointer, base_pointer, reads}
use Rattle.alpha.specs.Writes.{default_coding, pair_bytes, pair_coding, serves, based_bytes, block_with, block_serves, block_of, block_coding, base_with, base_serves, highest, base_of, base_coding, shorter, first_or, writes}
use Rattle.alpha.specs.Calls.{fitted, laid, ended_of, leaves}
use Rattle.alpha.specs.Printed.{unit_text, further_text, units_text, text_line, units_of, coded_line, alpha_write_line}
use Rattle.alpha.specs.Passes.{units_in}
use Rattle.alpha.proofs.Codings.{pair_size}
use Rattle.alpha.proofs.Lines.{unit_size, further_size}

-- a text has at most as many units as its bytes
few : Text → ℕ → Type 0
few t n = length (units_in t) ≤ n

follow_few : (u : ℕ) (t : Text) (n : ℕ) → few t n → few (follow u t) (suc n)
unfolding few follow units_in
follow_few u malformed n h = omega arith
follow_few u (units us) n h = let z : suc (length us) ≤ suc n = omega arith in z

follow_if_few : (o : Option ℕ) (t : Text) (n : ℕ) → few t n → few (follow_if o t) (suc n)
unfolding few follow_if units_in
follow_if_few none t n h = omega arith
follow_if_few (some u) t n h = follow_few u t n h

more_few : (t : Text) (n m : ℕ) → n ≤ m → few t n → few t m
unfolding few
more_few t n m h k = omega arith

none_few : (n : ℕ) → few (units []) n
unfolding few units_in
none_few n = omega arith

ill_few : (n : ℕ) → few malformed n
unfolding few units_in
ill_few n = omega arith

default_few : (e : Bool) (s : List ℕ) → few (default_from e s) (length s)
unfolding default_from
default_few e [] = branch (λ (t : Text). few t 0) e malformed (units []) (λ _. ill_few 0) (λ _. none_few 0)
default_few e (b ∷ s) =
    branch P e _ _ (λ _. follow_if_few (extension_unit b) (default_from false s) (length s) (default_few false s))
    (λ _. branch P (eqb b padding) _ _ (λ _. none_few (suc (length s)))
    (λ _. branch P (eqb b escape) _ _ (λ _. more_few (default_from true s) (length s) (suc (length s)) (omega arith) (default_few true s))
    (λ _. branch P (ltb b 0x80) _ _ (λ _. follow_few (unit_of b) (default_from false s) (length s) (default_few false s)) (λ _. ill_few (suc (length s))))))
  where
    P : Text → Type 0
    P t = few t (suc (length s))

pair_few : (s : List ℕ) → few (pairs s) (length s)
unfolding pairs
pair_few [] = none_few 0
pair_few (b ∷ []) = branch (λ (t : Text). few t 1) (eqb b padding) (units []) malformed (λ _. none_few 1) (λ _. ill_few 1)
pair_few (b ∷ c ∷ s) = more_few _ (suc (length s)) (suc (suc (length s))) (omega arith) (follow_few (256 * b + c) (pairs s) (length s) (pair_few s))

based_from_few : (p : ℕ) (s : List ℕ) → few (based_from p s) (length s)
unfolding based_from
based_from_few p [] = none_few 0
based_from_few p (b ∷ s) = follow_if_few (based_unit p b) (based_from p s) (length s) (based_from_few p s)

based_few : (count p : ℕ) (s : List ℕ) → few (based count p s) (length s)
unfolding based
based_few count p s =
    branch P (ltb (length s) count) _ _ (λ _. ill_few (length s))
    (λ _. branch P (not (every (eqb padding) (drop count s))) _ _ (λ _. ill_few (length s))
    (λ _. more_few _ (length (take count s)) (length s) (let l = length-take count s in omega arith) (based_from_few p (take count s))))
  where
    P : Text → Type 0
    P t = few t (length s)

reads_few : (s : List ℕ) → few (reads s) (length s)
unfolding reads
reads_few s =
    branch P (is_empty s) _ _ (λ _. none_few (length s))
    (λ _. branch P (eqb (get_or s 0 0) pairs_mark) _ _ (λ _. more_few (pairs (drop 1 s)) _ _ (shorter_drop 1) (pair_few (drop 1 s)))
    (λ _. branch P (eqb (get_or s 0 0) block_mark) _ _
    (λ _. branch P (ltb (length s) 3) _ _ (λ _. ill_few (length s)) (λ _. more_few (based (get_or s 1 0) (block_pointer s) (drop 3 s)) _ _ (shorter_drop 3) (based_few (get_or s 1 0) (block_pointer s) (drop 3 s))))
    (λ _. branch P (eqb (get_or s 0 0) base_mark) _ _
    (λ _. branch P (ltb (length s) 4) _ _ (λ _. ill_few (length s)) (λ _. more_few (based (get_or s 1 0) (base_pointer s) (drop 4 s)) _ _ (shorter_drop 4) (based_few (get_or s 1 0) (base_pointer s) (drop 4 s))))
    (λ _. default_few false s))))
  where
    P : Text → Type 0
    P t = few t (length s)

    shorter_drop : (k : ℕ) → length (drop k s) ≤ length s
    shorter_drop k = let l = length-drop k s in omega arith

-- what a reading that had room left: the units of the text, or R13
pub record ReadText (t : Text) (n : ℕ) (buffer : List ℕ) : Type 0 where
  pub fits : n ≤ length buffer
  pub size : n ≡ length (take n buffer)
  pub text : t ≡ units (take n buffer)

module _ (s before after : List ℕ) (h : length s ≤ length before) (x : Ended) (e : (x ≡ ended_of (reads s) (length before)) × (after ≡ leaves (reads s) before)) where
  fitting : (us : List ℕ) → reads s ≡ units us → (length us ≤ length before) × (x ≡ Ok (length us)) × (after ≡ us ++ drop (length us) before)
  unfolding ended_of leaves fitted laid few units_in
  fitting us f =
      let k : length us ≤ length s = subst (λ (t : Text). few t (length s)) f (reads_few s) in
      let g = le-ltb (length before) (length us) (omega arith) in
      (omega arith, e.0 ∙ ap (λ (t : Text). ended_of t (length before)) f ∙ skip _ _ _ g, e.1 ∙ ap (λ (t : Text). leaves t before) f ∙ skip _ _ _ g)

  refusing : reads s ≡ malformed → x ≡ Err MalformedText
  unfolding ended_of
  refusing f = e.0 ∙ ap (λ (t : Text). ended_of t (length before)) f

  pub text_read : (n : ℕ) → x ≡ Ok n → ReadText (reads s) n after
  text_read n g = by (reads s) refl
    where
      by : (t : Text) → reads s ≡ t → ReadText (reads s) n after
      by malformed f = absurd (let r = refusing f in let z : ◌≡◌ {A = ℕ} 0 1 = cc in omega arith)
      by (units us) f =
          let w = fitting us f in
          let y = w.1 in
          let size : n ≡ length us = cc in
          let long = ap length w.2 ∙ length-append us (drop (length us) before) in
          let fits : n ≤ length after = omega arith in
          record {
            fits = fits;
            size = sym (length-take-le n after fits);
            text = f ∙ sym (ap units ((λ i. take (size i) (w.2 i)) ∙ take-append_seam us (drop (length us) before)));
          }

  pub text_refused : (r : Refusal) → x ≡ Err r → line_of (refused r) ≡ text_line (reads s)
  unfolding text_line
  text_refused r g = by (reads s) refl
    where
      by : (t : Text) → reads s ≡ t → line_of (refused r) ≡ text_line (reads s)
      by malformed f = let q = refusing f in let z : r ≡ MalformedText = cc in ap (λ (y : Refusal). line_of (refused y)) z ∙ sym (ap text_line f)
      by (units us) f = absurd (let w = fitting us f in let y = w.1 in let z : ◌≡◌ {A = ℕ} 0 1 = cc in omega arith)

-- units: none of them, and a first one with others behind it
pub none_line : (us : List ℕ) → length us ≡ 0 → line_of (wrote []) ≡ text_line (units us)
unfolding text_line units_text printed
none_line [] e = refl
none_line (u ∷ us) e = absurd (let z : suc (length us) ≡ 0 = e in omega arith)

module _ (us : List ℕ) (u : ℕ) (rest : List ℕ) (is : us ≡ u ∷ rest) (before : List ℕ) (at : ℕ) (h : at + 5 * length us + 4 ≤ length before) where
  module _ (m : ℕ) (x : List ℕ) (p : Prints (unit_text u) m before at x) where
    first_same : length x ≡ length before
    first_same = let f = unit_size u in let l = ap length is in ap length p.stands ∙ length_pasted before at (unit_text u) (omega arith)

    pub further_room : m + 5 * length rest ≤ length x
    further_room =
        let f = unit_size u in
        let s = first_same in
        let l = ap length is in
        omega (arith, p.place)

    module _ (e : ℕ) (y : List ℕ) (q : Prints (further_text rest) e x m y) where
      pub feed_room : e < length y
      feed_room =
          let k = further_room in
          let g = further_size rest in
          let f = unit_size u in
          let s = first_same in
          let i = ap length is in
          let l = ap length q.stands ∙ length_pasted x m (further_text rest) (omega arith) in
          omega (arith, p.place, q.place)

      pub units_line : (r : ℕ) (z : List ℕ) → Prints (10 ∷ []) r y e z → Prints (text_line (units us)) r before at z
      unfolding text_line units_text
      units_line r z w =
          let f = unit_size u in
          let g = further_size rest in
          let k = length-append (unit_text u) (further_text rest) in
          let l = ap length is in
          prints_as (ap (λ (t : List ℕ). text_line (units t)) (sym is)) (prints_after (prints_after p q (omega arith)) w (omega arith))

-- a coding is at most as long as pairs
shorter_few : (s : List ℕ) (o : Option (List ℕ)) (n : ℕ) → length s ≤ n → length (shorter s o) ≤ n
unfolding shorter
shorter_few s none n h = h
shorter_few s (some t) n h = branch (λ (r : List ℕ). length r ≤ n) (ltb (length t) (length s)) t s (λ e. let k = ltb-true (length t) (length s) e in omega arith) (λ _. h)

first_few : (o : Option (List ℕ)) (t : List ℕ) → length (first_or o t) ≤ length t
unfolding first_or
first_few none t = omega arith
first_few (some s) t = branch (λ (r : List ℕ). length r ≤ length t) (ltb (length t) (length s)) t s (λ _. omega arith) (λ e. ltb-false (length t) (length s) e)

writes_few : (us : List ℕ) → length (writes us) ≤ 1 + 2 * length us
unfolding writes
writes_few us =
    let f = first_few (default_coding us) (pair_coding us) in
    let p = pair_size us in
    shorter_few _ (base_coding us) _ (shorter_few _ (block_coding us) _ (omega arith))

-- a writing into a buffer that holds it
module _ (s before : List ℕ) where
  count_few : count_of (fitted s (length before)) ≤ length before
  unfolding count_of fitted
  count_few = branch (λ (x : Ended). count_of x ≤ length before) (ltb (length before) (length s)) _ _ (λ _. omega arith) (λ e. ltb-false (length before) (length s) e)

  outcome_back : length s ≤ length before → outcome_of (fitted s (length before)) (laid s before) ≡ wrote s
  unfolding outcome_of fitted laid
  outcome_back h =
      let e = le-ltb (length before) (length s) h in
      let x : fitted s (length before) ≡ Ok (length s) = skip _ _ _ e in
      let y : laid s before ≡ s ++ drop (length s) before = skip _ _ _ e in
      (λ i. outcome_of (x i) (y i)) ∙ ap wrote (take-append_seam s (drop (length s) before))

-- units that have room, whatever they are coded in
module _ (us before : List ℕ) (h : 1 + 2 * length us ≤ length before) (x : Ended) (after : List ℕ) (e : (x ≡ fitted (writes us) (length before)) × (after ≡ laid (writes us) before)) where
  pub coded_count : count_of x ≤ length before
  coded_count = subst (λ (y : Ended). count_of y ≤ length before) (sym e.0) (count_few (writes us) before)

  pub coded_line_lem : line_of (outcome_of x after) ≡ line_of (wrote (writes us))
  coded_line_lem =
      let k = writes_few us in
      (λ i. line_of (outcome_of (e.0 i) (e.1 i))) ∙ ap line_of (outcome_back (writes us) before (omega arith))

-- no units have no bytes
pub none_coded : (us : List ℕ) → length us ≡ 0 → line_of (wrote []) ≡ line_of (wrote (writes us))
unfolding writes shorter first_or default_coding pair_coding pair_bytes block_coding block_serves block_with block_of base_coding base_serves base_with base_of highest serves based_bytes ◌⇒◌else◌
none_coded [] e = refl
none_coded (u ∷ us) e = absurd (let z : suc (length us) ≡ 0 = e in omega arith)

-- the line of units, by what they were
pub coded_told : (l : List ℕ) (o : Option (List ℕ)) {r at : ℕ} {before after : List ℕ} → units_of l ≡ o → Prints (coded_line o) r before at after → Prints (alpha_write_line l) r before at after
unfolding alpha_write_line
coded_told l o e p = prints_as (ap coded_line (sym e)) p
