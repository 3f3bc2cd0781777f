-- The line of a frame, case by case: what cannot be mended, and the mended frame with its changes.
-- Assumes nothing.
use Prim.Native.Nat.{ℕ, ◌+◌, ◌≤◌, ◌<◌}
use mathlib.Core.Path.{◌≡◌, refl, sym, ap, ◌∙◌}
use mathlib.Core.Bool.{Bool, true, false, ◌&&◌, true≢false}
use mathlib.Core.List.{List, [], ◌∷◌, ◌++◌, append_assoc}
use mathlib.Core.Option.{some}
use native.Mathlib.Omega.{arith}
use lib.ListN.{length, take, drop, get_or, length-append}
use lib.Dec.{ltb, eqb}
use borrow.Author.Tests.{lt-ltb, le-ltb, eq-eqb, ne_eqb, eqb-true, eqb-false, ltb-true}
use Rattle.std.proofs.lemmas.Bool.{false_from_ne_true}
use Rattle.rules.specs.declared.Refusal.TheVariants.{Unreadable, Unmendable}
use Rattle.rules.specs.Checks.{◌⇒◌else◌, is_empty, same}
use Rattle.rules.specs.Frames.{no_length, length_at, length_bytes}
use Rattle.rules.specs.Command.{refused}
use Rattle.rules.specs.Lines.{hex}
use Rattle.rules.proofs.Laws.{branch, stop, skip, and-false, empty_length}
use Rattle.rules.proofs.Forms.{length_back, same_refl, same_true}
use Rattle.octets.specs.Parts.{part}
use Rattle.octets.proofs.Copies.{length_part}
use Rattle.text.specs.Prints.{line_of, Prints}
use Rattle.text.proofs.Printing.{hex_size, prints_after, prints_as}
use Rattle.mending.specs.Mends.{Change, outer_length, loose_length_at, is_overlong, Mended, mend_from, Head, head, no_head, head_of, outer_head, mended, unmendable, framing, outer_change, mends_behind, mends}
use Rattle.mending.specs.Printed.{room, frame_room, objects_cap, change_cap, changes_text, mending_line, frame_line}
use Rattle.mending.specs.Places.{LengthAt, outer_place, head_at, outer_text}
use Rattle.mending.proofs.Walked.{mend_few}
use Rattle.mending.proofs.Kept.{not_overlong}
use Rattle.mending.proofs.Reading.{front_part}
use Rattle.mending.proofs.Left.{front_is, text_append, text_few}

-- shortest forms are the same where they say the same
alike : (m n : ℕ) (b : Bool) → eqb m n ≡ b → same (length_bytes m) (length_bytes n) ≡ b
alike m n true e = ap (λ (k : ℕ). same (length_bytes m) (length_bytes k)) (sym (eqb-true m n e)) ∙ same_refl (length_bytes m)
alike m n false e =
    false_from_ne_true _
    (λ z.
    let f = sym (length_back m []) ∙ ap (λ (l : List ℕ). length_at (l ++ [])) (same_true (length_bytes m) (length_bytes n) z) ∙ length_back n [] in
    eqb-false m n e cc)

-- whether the bytes of the outer length stay, by what it said and where its shortest form began
module _ {s : List ℕ} {said kept start : ℕ} (h : LengthAt s outer_place said kept start) where
  abbrev was : List ℕ
  was = part outer_place start s

  stays : (n : ℕ) (b : Bool) → eqb kept outer_place ≡ b → same was (length_bytes n) ≡ eqb said n && b
  stays n true e =
      let k = eqb-true kept outer_place e in
      ap (λ (l : List ℕ). same l (length_bytes n)) (ap (λ (x : ℕ). part x start s) (sym k) ∙ h.shortest) ∙ both (eqb said n) refl
    where
      both : (b : Bool) → eqb said n ≡ b → same (length_bytes said) (length_bytes n) ≡ b && true
      both true f = alike said n true f
      both false f = alike said n false f
  stays n false e =
      false_from_ne_true _
      (λ z.
      let other = eqb-false kept outer_place e in
      let over = h.overlong ∙ lt-ltb outer_place kept (omega (arith, h.from, other)) in
      true≢false (sym over ∙ ap is_overlong (same_true was (length_bytes n) z) ∙ not_overlong n))
      ∙ sym (and-false (eqb said n))

  outer_is : (n : ℕ) → changes_text (outer_change was (length_bytes n)) ≡ outer_text said kept n
  unfolding outer_change
  outer_is n = ap (λ (b : Bool). changes_text (b ⇒ [] else outer_length ∷ [])) (stays n (eqb kept outer_place) refl)

  abbrev m : Mended
  m = mend_from start (drop start s)

  place_is : 1 + length was ≡ start
  place_is = let p = length_part outer_place start s h.within in omega (arith, h.from, h.behind)

  behind_is :
      mends_behind (head_at s start) ≡
      (is_empty m.objects ⇒ unmendable else
      ltb 256 (length (framing m.bytes)) ⇒ unmendable else
      mended (framing m.bytes) (outer_change was (length_bytes (length m.bytes)) ++ m.changes))
  unfolding mends_behind
  behind_is =
      ap
      (λ (k : ℕ).
      let m = mend_from k (drop start s) in
      is_empty m.objects ⇒ unmendable else
      ltb 256 (length (framing m.bytes)) ⇒ unmendable else
      mended (framing m.bytes) (outer_change was (length_bytes (length m.bytes)) ++ m.changes))
      place_is

  framing_size : length (framing m.bytes) ≡ 1 + length (length_bytes (length m.bytes)) + length m.bytes
  unfolding framing
  framing_size = let a = length-append (length_bytes (length m.bytes)) m.bytes in omega arith

  long_bytes : (n : ℕ) → objects_cap < n → length (length_bytes n) ≡ 2
  unfolding length_bytes
  long_bytes n k = ap length (skip _ (n ∷ []) (0x81 ∷ n ∷ []) (le-ltb n 0x80 (omega arith)))

  bytes_few : (n : ℕ) → n ≤ objects_cap → 1 + length (length_bytes n) + n ≤ 256
  unfolding length_bytes
  bytes_few n k =
      branch (λ (l : List ℕ). 1 + length l + n ≤ 256) _ _ _ (λ e. let f = ltb-true n 0x80 e in omega arith) (λ _. omega arith)

  some_objects : 1 ≤ length m.bytes → is_empty m.objects ≡ false
  some_objects k = (mend_few start (drop start s)).some ∙ sym (empty_length m.bytes) ∙ ne_eqb (length m.bytes) 0 (omega arith)

  module _ {count : ℕ} {zeros buffer : List ℕ} (p : Prints m.bytes count zeros 0 buffer) where
    pub none_left_told : {r : ℕ} {before : List ℕ} {at : ℕ} {after : List ℕ} → count ≡ 0 → Prints (line_of (refused Unmendable)) r before at after → Prints (mending_line (mends_behind (head_at s start))) r before at after
    unfolding mending_line
    none_left_told e w =
        let empty = (mend_few start (drop start s)).some ∙ sym (empty_length m.bytes) ∙ eq-eqb (length m.bytes) 0 (omega (arith, p.place)) in
        prints_as (ap mending_line (sym (behind_is ∙ stop _ _ _ empty))) w

    pub too_long_told : {r : ℕ} {before : List ℕ} {at : ℕ} {after : List ℕ} → objects_cap < count → Prints (line_of (refused Unmendable)) r before at after → Prints (mending_line (mends_behind (head_at s start))) r before at after
    unfolding mending_line
    too_long_told k w =
        let n = long_bytes (length m.bytes) (omega (arith, p.place)) in
        let long = lt-ltb 256 (length (framing m.bytes)) (omega (arith, framing_size, n, p.place)) in
        prints_as (ap mending_line (sym (behind_is ∙ skip _ _ _ (some_objects (omega (arith, p.place))) ∙ stop _ _ _ long))) w

    pub objects_are : take count buffer ≡ m.bytes
    objects_are = front_is zeros buffer m.bytes count p.stands p.place

    module _ (some : count ≡ 0 → ⊥) (few : count ≤ objects_cap) where
      size : length (framing m.bytes) ≤ 256
      size = let b = bytes_few (length m.bytes) (omega (arith, p.place)) in omega (arith, framing_size)

      line_is : mending_line (mends_behind (head_at s start)) ≡ ((hex (framing (take count buffer)) ++ outer_text said kept count) ++ changes_text m.changes) ++ 10 ∷ []
      unfolding mending_line
      line_is =
          let cs = outer_change was (length_bytes (length m.bytes)) in
          let n : length m.bytes ≡ count = omega (arith, p.place) in
          let f = hex (framing m.bytes) in
          ap mending_line (behind_is ∙ skip _ _ _ (some_objects (omega (arith, p.place, some))) ∙ skip _ _ _ (le-ltb 256 (length (framing m.bytes)) size))
          ∙ ap (λ (x : List ℕ). (f ++ x) ++ 10 ∷ []) (text_append cs m.changes ∙ ap (λ (x : List ℕ). x ++ changes_text m.changes) (outer_is (length m.bytes) ∙ ap (outer_text said kept) n))
          ∙ ap (λ (x : List ℕ). x ++ 10 ∷ []) (sym (append_assoc f (outer_text said kept count) (changes_text m.changes)))
          ∙ ap (λ (x : List ℕ). ((hex (framing x) ++ outer_text said kept count) ++ changes_text m.changes) ++ 10 ∷ []) (sym objects_are)

      -- how many characters each part has at most; there are at most 127 changes of objects
      pub frame_few : length (hex (framing (take count buffer))) ≤ frame_room
      frame_few =
          let e = ap (λ (x : List ℕ). length (hex (framing x))) objects_are ∙ hex_size (framing m.bytes) in
          let z = size in
          omega arith

      outer_few : length (outer_text said kept count) ≤ change_cap
      outer_few = branch (λ (cs : List Change). length (changes_text cs) ≤ change_cap) (eqb said count && eqb kept outer_place) [] (outer_length ∷ []) (λ _. let z = text_few [] in omega arith) (λ _. let z = text_few (outer_length ∷ []) in omega arith)

      changes_few : length (changes_text m.changes) ≤ 762
      changes_few =
          let z = text_few m.changes in
          omega (arith, (mend_few start (drop start s)).changes, p.place)

      pub line_fits : length (hex (framing (take count buffer))) + length (outer_text said kept count) + length (changes_text m.changes) + 1 ≤ room
      line_fits = let f = frame_few in let o = outer_few in let g = changes_few in omega arith

      pub mended_told :
          {x y z before after : List ℕ} {at j k l r : ℕ} → at + room ≤ length before → Prints (hex (framing (take count buffer))) j before at x → Prints (outer_text said kept count) k x j y →
          Prints (changes_text m.changes) l y k z → Prints (10 ∷ []) r z l after → Prints (mending_line (mends_behind (head_at s start))) r before at after
      mended_told h a b c d =
          let fits = line_fits in
          let first = length-append (hex (framing (take count buffer))) (outer_text said kept count) in
          let second = length-append (hex (framing (take count buffer)) ++ outer_text said kept count) (changes_text m.changes) in
          prints_as (sym line_is) (prints_after (prints_after (prints_after a b (omega arith)) c (omega arith)) d (omega arith))

-- a head, by the first byte
headless : (s : List ℕ) → (length s ≡ 0 → ⊥) → (get_or s 0 0 ≡ 0xD0 → ⊥) → outer_head s ≡ no_head
unfolding outer_head
headless [] n k = absurd (n refl)
headless (b ∷ s) n k = skip _ _ _ (ne_eqb b 0xD0 k)

headed : (s : List ℕ) → (length s ≡ 0 → ⊥) → get_or s 0 0 ≡ 0xD0 → outer_head s ≡ head_of (drop outer_place s) (loose_length_at (drop outer_place s))
unfolding outer_head
headed [] n e = absurd (n refl)
headed (b ∷ s) n e = stop _ _ _ (eq-eqb b 0xD0 e)

-- the first byte, and the outer length
module _ (s : List ℕ) where
  pub blank_told : {r : ℕ} {before : List ℕ} {at : ℕ} {after : List ℕ} → eqb (length s) 0 ≡ true → Prints (line_of (refused Unreadable)) r before at after → Prints (frame_line (some s)) r before at after
  unfolding frame_line
  blank_told e w = prints_as (sym (stop _ _ _ (sym (empty_length s) ∙ e))) w

  module _ (z : eqb (length s) 0 ≡ false) where
    n : length s ≡ 0 → ⊥
    n = eqb-false (length s) 0 z

    by_head : (x : Head) → outer_head s ≡ x → frame_line (some s) ≡ mending_line (mends_behind x)
    unfolding frame_line mends
    by_head x e = skip _ _ _ (sym (empty_length s) ∙ z) ∙ ap (λ (y : Head). mending_line (mends_behind y)) e

    pub other_told :
        {r : ℕ} {before : List ℕ} {at : ℕ} {after : List ℕ} → (get_or s 0 0 ≡ 0xD0 → ⊥) → Prints (line_of (refused Unmendable)) r before at after → Prints (frame_line (some s)) r before at after
    unfolding mending_line mends_behind
    other_told k w = prints_as (sym (by_head _ (headless s n k))) w

    module _ (e : get_or s 0 0 ≡ 0xD0) where
      pub unsized_told :
          {r : ℕ} {before : List ℕ} {at : ℕ} {after : List ℕ} → loose_length_at (drop outer_place s) ≡ no_length → Prints (line_of (refused Unmendable)) r before at after →
          Prints (frame_line (some s)) r before at after
      unfolding mending_line mends_behind head_of
      unsized_told k w = prints_as (sym (by_head _ (headed s n e ∙ ap (head_of (drop outer_place s)) k))) w

      pub sized_told :
          {said kept start r : ℕ} {before : List ℕ} {at : ℕ} {after : List ℕ} → LengthAt s outer_place said kept start → Prints (mending_line (mends_behind (head_at s start))) r before at after →
          Prints (frame_line (some s)) r before at after
      unfolding head_of
      sized_told {start = start} h w =
          prints_as
          (sym
          (by_head _
          (headed s n e ∙ ap (head_of (drop outer_place s)) h.is
          ∙ ap (λ (x : List ℕ). head x (drop start s)) (front_part s outer_place start (omega (arith, h.from, h.behind)) h.within)))) w
