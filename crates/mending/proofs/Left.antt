-- Text written piece by piece: what is left of it, from the place reached on.
-- Assumes nothing.
use Prim.Native.Nat.{ℕ, ◌+◌, ◌-◌, ◌*◌, ◌/◌, ◌%◌, ◌≤◌, ◌<◌}
use mathlib.Core.Path.{◌≡◌, refl, sym, ap, ◌∙◌}
use mathlib.Core.Logic.{⊎_elim}
use mathlib.Core.Bool.{Bool, false, ◌&&◌}
use Rattle.std.proofs.lemmas.Bool.{cases_lt}
use mathlib.Core.List.{List, [], ◌∷◌, ◌++◌, append_assoc, append-nil}
use native.Mathlib.Omega.{arith}
use lib.ListN.{length, take, drop, length-append, length-drop, drop_of_length-le, take-append-drop}
use lib.Seq.{take-append_seam}
use lib.Dec.{eqb}
use borrow.Author.Tests.{lt-ltb, le-ltb, eq-eqb, ne_eqb}
use Rattle.rules.specs.Frames.{length_bytes}
use Rattle.rules.specs.Lines.{digit_of, hex, decimal}
use Rattle.rules.proofs.Laws.{branch, stop, skip}
use Rattle.octets.specs.Parts.{part, pasted, overlaid}
use Rattle.octets.proofs.Pastes.{length_pasted, paste_after, front_over}
use Rattle.octets.proofs.Copies.{length_part}
use Rattle.text.specs.Prints.{Prints}
use Rattle.text.proofs.Printing.{hex_size, prints_after, prints_as, decimal_few}
use Rattle.mending.specs.Mends.{Change, outer_length, shortened, truncated, Mended, cut_from, mend_from, framing}
use Rattle.mending.specs.Printed.{change_cap, change_text, changes_text}
use Rattle.mending.specs.Places.{Stands, outer_place, shortened_text, outer_text}
use Rattle.mending.proofs.Walked.{mend_end, mend_few}

-- nothing is printed
nothing_pasted : (d : List ℕ) (at : ℕ) → pasted d at [] ≡ d
unfolding pasted
nothing_pasted d at = let e : at + 0 ≡ at = omega arith in ap (λ (k : ℕ). take at d ++ drop k d) e ∙ take-append-drop at d

pub prints_none : (d : List ℕ) (at : ℕ) → Prints [] at d at d
prints_none d at = record { stands = sym (nothing_pasted d at); place = omega arith }

-- of a whole text that begins at `start`, rest is to be written from `to` on
pub record Left (whole rest before : List ℕ) (start : ℕ) (out : List ℕ) (to : ℕ) : Type 0 where
  pub stands : pasted before start whole ≡ pasted out to rest
  pub place : start + length whole ≡ to + length rest
  pub fits : to + length rest ≤ length out
  pub same : length out ≡ length before

pub left_whole : (whole before : List ℕ) (start : ℕ) → start + length whole ≤ length before → Left whole whole before start before start
left_whole whole before start h = record { stands = refl; place = refl; fits = h; same = refl }

module _ {whole rest before : List ℕ} {start : ℕ} {out : List ℕ} {to : ℕ} (l : Left whole rest before start out to) where
  pub left_more : {x y after : List ℕ} {m : ℕ} → rest ≡ x ++ y → Prints x m out to after → Left whole y before start after m
  left_more {x} {y} {after} {m} e p =
      let n = ap length e ∙ length-append x y in
      let h : to + length x ≤ length out = omega (arith, l.fits) in
      let same = ap length p.stands ∙ length_pasted out to x h in
      record {
        stands = l.stands ∙ ap (pasted out to) e ∙ sym (paste_after out to x h y) ∙ sym (λ i. pasted (p.stands i) (p.place i) y);
        place = omega (arith, l.place, p.place);
        fits = omega (arith, l.fits, p.place);
        same = same ∙ l.same;
      }

  pub left_none : rest ≡ [] → Prints whole to before start out
  left_none e =
      let n = ap length e in
      record { stands = sym (l.stands ∙ ap (pasted out to) e ∙ nothing_pasted out to); place = omega (arith, l.place) }

  -- room for a piece
  pub left_room : (x y : List ℕ) → rest ≡ x ++ y → to + length x ≤ length out
  left_room x y e = let n = ap length e ∙ length-append x y in omega (arith, l.fits)

-- nothing comes out behind the end, and from a fault on
pub end_bytes : (s : List ℕ) (at : ℕ) → (at < length s → mend_from at (drop at s) ≡ cut_from at) → (mend_from at (drop at s)).bytes ≡ []
end_bytes s at f =
    ⊎_elim (λ h. ap (λ (m : Mended). m.bytes) (f h))
    (λ h. ap (λ (x : List ℕ). (mend_from at x).bytes) (drop_of_length-le s h) ∙ ap (λ (m : Mended). m.bytes) (mend_end at)) (cases_lt at (length s))

pub end_text : (s : List ℕ) (at : ℕ) → length s ≤ at → changes_text (mend_from at (drop at s)).changes ≡ []
unfolding changes_text
end_text s at h = ap (λ (x : List ℕ). changes_text (mend_from at x).changes) (drop_of_length-le s h) ∙ ap (λ (m : Mended). changes_text m.changes) (mend_end at)

-- the tag of an object and what is kept of the rest of it
module _ {s : List ℕ} {at sized kept next : ℕ} (st : Stands s at sized kept next) where
  pub tag_size : length (part at sized s) ≡ sized - at
  tag_size = length_part at sized s (omega (arith, st.from, st.behind, st.within))

  pub kept_size_lem : length (part kept next s) ≡ next - kept
  kept_size_lem = length_part kept next s st.within

  module _ {whole before : List ℕ} {start : ℕ} {out : List ℕ} {to : ℕ} (l : Left whole (mend_from at (drop at s)).bytes before start out to) where
    object_room : to + (sized - at) + (next - kept) ≤ length out
    object_room =
        let h = left_room l (part at sized s ++ part kept next s) (mend_from next (drop next s)).bytes st.bytes in
        let a = length-append (part at sized s) (part kept next s) in
        let t = tag_size in
        let k = kept_size_lem in
        omega arith

    pub object_left :
        {middle after : List ℕ} → middle ≡ pasted out to (part at sized s) → after ≡ pasted middle (to + (sized - at)) (part kept next s) →
        Left whole (mend_from next (drop next s)).bytes before start after (to + (sized - at) + (next - kept))
    object_left p q =
        let t = tag_size in
        let k = kept_size_lem in
        let h = object_room in
        left_more l st.bytes
        (prints_after (record { stands = p; place = omega arith }) (record { stands = q; place = omega arith }) (omega arith))

-- a text of changes, change by change
pub text_append : (cs ds : List Change) → changes_text (cs ++ ds) ≡ changes_text cs ++ changes_text ds
unfolding changes_text
text_append [] ds = refl
text_append (c ∷ cs) ds = ap (λ (x : List ℕ). change_text c ++ x) (text_append cs ds) ∙ sym (append_assoc (change_text c) (changes_text cs) (changes_text ds))

pub text_few : (cs : List Change) → length (changes_text cs) ≤ change_cap * length cs
unfolding changes_text change_text
text_few [] = omega arith
text_few (outer_length ∷ cs) = let n = length-append (32 ∷ 76 ∷ decimal 1) (changes_text cs) in let d = decimal_few 1 in let h = text_few cs in omega arith
text_few (shortened p ∷ cs) = let n = length-append (32 ∷ 83 ∷ decimal p) (changes_text cs) in let d = decimal_few p in let h = text_few cs in omega arith
text_few (truncated p ∷ cs) = let n = length-append (32 ∷ 84 ∷ decimal p) (changes_text cs) in let d = decimal_few p in let h = text_few cs in omega arith

-- room for all bytes that come out
pub bytes_room : (s before : List ℕ) (from : ℕ) → length s ≤ length before → 0 + length (mend_from from (drop from s)).bytes ≤ length before
bytes_room s before from h = let d = length-drop from s in omega (arith, (mend_few from (drop from s)).fits)

-- the changes of an object and those behind it, and a cut
pub object_text_lem :
    {s : List ℕ} {at sized kept next : ℕ} → Stands s at sized kept next →
    changes_text (mend_from at (drop at s)).changes ≡ shortened_text sized kept ++ changes_text (mend_from next (drop next s)).changes
object_text_lem {s} {next = next} st = ap changes_text st.changes ∙ text_append _ (mend_from next (drop next s)).changes

pub cut_text : (s : List ℕ) (at : ℕ) → mend_from at (drop at s) ≡ cut_from at → changes_text (mend_from at (drop at s)).changes ≡ (32 ∷ 84 ∷ decimal at) ++ []
unfolding changes_text change_text
cut_text s at e = ap (λ (m : Mended). changes_text m.changes) e

module _ (s : List ℕ) (at : ℕ) {whole before : List ℕ} {start : ℕ} {out : List ℕ} {to : ℕ} (l : Left whole (changes_text (mend_from at (drop at s)).changes) before start out to) where
  pub object_text_room : {sized kept next : ℕ} → Stands s at sized kept next → to + length (shortened_text sized kept) ≤ length out
  object_text_room {sized} {kept} {next} st = left_room l (shortened_text sized kept) (changes_text (mend_from next (drop next s)).changes) (object_text_lem st)

  pub cut_text_room : mend_from at (drop at s) ≡ cut_from at → to + length (32 ∷ 84 ∷ decimal at) ≤ length out
  cut_text_room e = left_room l (32 ∷ 84 ∷ decimal at) [] (cut_text s at e)

-- a change alone
pub change_printed :
    (letter place : ℕ) {before x y z : List ℕ} {at k m e : ℕ} → at + length (32 ∷ letter ∷ decimal place) ≤ length before →
    Prints (32 ∷ []) k before at x → Prints (letter ∷ []) m x k y → Prints (decimal place) e y m z → Prints (32 ∷ letter ∷ decimal place) e before at z
change_printed letter place h p q w = prints_after (prints_after p q (omega arith)) w (omega arith)

-- an object by the places of its length and of what is kept
module _ (sized kept : ℕ) where
  pub shortened_text_lem : sized < kept → 32 ∷ 83 ∷ decimal sized ≡ shortened_text sized kept
  unfolding changes_text change_text
  shortened_text_lem h = sym (ap changes_text (stop _ (shortened sized ∷ []) [] (lt-ltb sized kept h)) ∙ append-nil (32 ∷ 83 ∷ decimal sized))

  pub kept_text : kept ≤ sized → [] ≡ shortened_text sized kept
  unfolding changes_text
  kept_text h = sym (ap changes_text (skip _ (shortened sized ∷ []) [] (le-ltb sized kept h)))

-- the outer length by what it said, and where its shortest form began
module _ (said kept count : ℕ) where
  abbrev right : Bool
  right = eqb said count && eqb kept outer_place

  outer_text_lem : right ≡ false → 32 ∷ 76 ∷ decimal 1 ≡ outer_text said kept count
  unfolding changes_text change_text
  outer_text_lem e = sym (ap changes_text (skip _ [] (outer_length ∷ []) e) ∙ append-nil (32 ∷ 76 ∷ decimal 1))

  pub other_text : (said ≡ count → ⊥) → 32 ∷ 76 ∷ decimal 1 ≡ outer_text said kept count
  other_text n = outer_text_lem (ap (λ (b : Bool). b && eqb kept outer_place) (ne_eqb said count n))

  pub longer_text : said ≡ count → (kept ≡ 1 → ⊥) → 32 ∷ 76 ∷ decimal 1 ≡ outer_text said kept count
  longer_text e n = outer_text_lem (λ i. eq-eqb said count e i && ne_eqb kept outer_place n i)

  pub right_text : said ≡ count → kept ≡ 1 → [] ≡ outer_text said kept count
  unfolding changes_text
  right_text e f = sym (ap changes_text (stop _ [] (outer_length ∷ []) (λ i. eq-eqb said count e i && eq-eqb kept outer_place f i)))

-- bytes at the front of a buffer; D0 and a length
pub front_is : (d h x : List ℕ) (size : ℕ) → h ≡ pasted d 0 x → size ≡ 0 + length x → take size h ≡ x
unfolding overlaid
front_is d h x size e k =
    let n : size ≡ length x = omega arith in
    (λ i. take (n i) ((e ∙ front_over d x) i)) ∙ take-append_seam x (drop (length x) d)

pub front_size : (d h x : List ℕ) (size : ℕ) → h ≡ pasted d 0 x → size ≡ 0 + length x → size ≡ length (take size h)
front_size d h x size e k = let f = ap length (front_is d h x size e k) in omega arith

pub head_few : (n : ℕ) → length (0xD0 ∷ length_bytes n) ≤ 3
unfolding length_bytes
head_few n = branch (λ (l : List ℕ). length (0xD0 ∷ l) ≤ 3) _ _ _ (λ _. omega arith) (λ _. omega arith)

hex_append : (s t : List ℕ) → hex (s ++ t) ≡ hex s ++ hex t
unfolding hex
hex_append [] t = refl
hex_append (b ∷ s) t = ap (λ (x : List ℕ). digit_of (b / 16) ∷ digit_of (b % 16) ∷ x) (hex_append s t)

pub framing_printed :
    (s h : List ℕ) {before x y : List ℕ} {at k e : ℕ} → h ≡ 0xD0 ∷ length_bytes (length s) → at + 2 * length h ≤ length before →
    Prints (hex h) k before at x → Prints (hex s) e x k y → Prints (hex (framing s)) e before at y
unfolding framing
framing_printed s h f r p q =
    let n = hex_size h in
    prints_as (sym (hex_append h s) ∙ ap (λ (x : List ℕ). hex (x ++ s)) f) (prints_after p q (omega arith))
