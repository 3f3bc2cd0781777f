-- What the tools print, by what the code finds of a line.
-- Assumes nothing.
use Prim.Native.Nat.{ℕ, ◌+◌, ◌-◌, ◌*◌, ◌≤◌, ◌<◌}
use mathlib.Core.Path.{◌≡◌, sym, ap, ◌∙◌}
use mathlib.Core.Logic.{◌⊎◌, ⊎_elim}
use mathlib.Core.Bool.{Bool, true, false, ◌||◌}
use mathlib.Core.List.{List, [], ◌∷◌, ◌++◌, append_assoc}
use mathlib.Core.Option.{Option, none, some}
use native.Mathlib.Omega.{arith}
use native.Mathlib.Nat.{zero-add}
use lib.ListN.{length, get_or, take, drop, length-append, length-drop}
use lib.Seq.{take-append_seam}
use lib.Dec.{ltb}
use borrow.Author.Rules.{part_to_end}
use borrow.Author.Tests.{lt-ltb, le-ltb, eq-eqb, ne_eqb}
use Rattle.rules.specs.declared.Refusal.TheVariants.{NoRecord, WrongCount}
use Rattle.std.specs.Prelude.{Option as CodeOption, Some, None}
use Rattle.std.specs.Option.{option_map_or}
use Rattle.rules.specs.Checks.{is_empty}
use Rattle.rules.specs.Lines.{bytes_of, frame_of, hex, decimal}
use Rattle.rules.proofs.Laws.{stop, skip, checks, or_right, empty_length}
use Rattle.octets.specs.Parts.{part, overlaid}
use Rattle.octets.proofs.Pastes.{front_over}
use Rattle.text.specs.Prints.{Prints}
use Rattle.text.specs.Frames.{readable, frame_bytes}
use Rattle.text.proofs.Bounds.{Read}
use Rattle.text.proofs.Bytes.{bytes_size}
use Rattle.text.proofs.Printing.{prints_after, prints_as, hex_size, decimal_few}
use Rattle.csim.specs.declared.Kind.{Kind}
use Rattle.csim.specs.Kinds.{header_of, lead_of, leads, by_kind}
use Rattle.csim.specs.Records.{imported, unfit, opening, quoting, cleaned, shape_of, leading_zero, count_is, checked, framed, counted, shaped, record_in, imports}
use Rattle.csim.specs.Exports.{export_of, export_in, export_behind, exports}
use Rattle.csim.proofs.ByKind.{by_found, found_passes}
use Rattle.csim.proofs.Scans.{leads_size}
use Rattle.csim.proofs.Shapes.{Shaping, shape_is, quoted_few}
use Rattle.csim.specs.Printed.{room, longest, record_line, import_line, csim_line, export_line}

-- what was printed at the front of a buffer
pub record Front (s : List ℕ) (n : ℕ) (buffer : List ℕ) : Type 0 where
  pub fits : n ≤ length buffer
  pub size : n ≡ length (take n buffer)
  pub is : take n buffer ≡ s

pub front : {s before after : List ℕ} {n : ℕ} → Prints s n before 0 after → Front s n after
unfolding overlaid
front {s} {before} {after} {n} p =
    let e : after ≡ s ++ drop (length s) before = p.stands ∙ front_over before s in
    let size : n ≡ length s = p.place ∙ zero-add (length s) in
    let l = ap length e ∙ length-append s (drop (length s) before) in
    let is : take n after ≡ s = (λ i. take (size i) (e i)) ∙ take-append_seam s (drop (length s) before) in
    record { fits = omega arith; size = size ∙ sym (ap length is); is = is }

-- a line within the limit is read whole, and has two digits for each byte
pub short_frame : (q : List ℕ) → length q ≤ longest → frame_of q ≡ bytes_of q
unfolding frame_of
short_frame q h = skip _ none (bytes_of q) (le-ltb longest (length q) h)

pub bytes_double : (q s : List ℕ) → bytes_of q ≡ some s → 2 * length s ≡ length q
unfolding readable frame_bytes
bytes_double q s e = ap (λ (o : Option (List ℕ)). 2 * length (frame_bytes o)) (sym e) ∙ bytes_size q (ap readable e)

-- our line, piece by piece
pub record_printed :
    (k : Kind) (w d : List ℕ) {before x y z : List ℕ} {at m n e : ℕ} → w ≡ lead_of k → length w ≤ 9 → length d ≤ 255 → at + room ≤ length before →
    Prints w m before at x → Prints (hex d) n x m y → Prints (10 ∷ []) e y n z → Prints (record_line (imported k d)) e before at z
unfolding record_line
record_printed k w d is few h l p q r =
    let size = hex_size d in
    let both = length-append w (hex d) in
    prints_as (append_assoc w (hex d) (10 ∷ []) ∙ ap (λ (v : List ℕ). v ++ (hex d ++ 10 ∷ [])) is) (prints_after (prints_after p q (omega arith)) r (omega arith))

-- the line of a log, piece by piece
module _ (k : Kind) (d : List ℕ) where
  digits : List ℕ
  digits = decimal (2 * (5 + length d))

  pieces : (((((opening ++ digits) ++ quoting) ++ hex (header_of k)) ++ hex (length d ∷ [])) ++ hex d) ++ (34 ∷ 10 ∷ []) ≡ export_of k d ++ 10 ∷ []
  unfolding export_of hex digits
  pieces = simp append_assoc

  pub csim_printed :
      (h : List ℕ) {before t u v w x y z : List ℕ} {at a b c f g i e : ℕ} → h ≡ header_of k → length d ≤ 255 → at + room ≤ length before →
      Prints opening a before at t → Prints (decimal (2 * (5 + length d))) b t a u → Prints quoting c u b v →
      Prints (hex h) f v c w → Prints (hex (length d ∷ [])) g w f x → Prints (hex d) i x g y → Prints (34 ∷ 10 ∷ []) e y i z →
      Prints (csim_line (some (export_of k d))) e before at z
  unfolding csim_line digits
  csim_printed h is few l p q r o m n j =
      let size = hex_size d in
      let head = hex_size h in
      let one = hex_size (length d ∷ []) in
      let four : length h ≡ 4 = ap length is in
      let some = decimal_few (2 * (5 + length d)) in
      prints_as (ap (λ (v : List ℕ). (((((opening ++ digits) ++ quoting) ++ hex v) ++ hex (length d ∷ [])) ++ hex d) ++ (34 ∷ 10 ∷ [])) is ∙ pieces)
      (prints_after
      (prints_after
      (prints_after
      (prints_after (prints_after (prints_after p q (omega arith)) r (simp length-append (omega arith))) o (simp length-append (omega arith)))
      m (simp length-append (omega arith)))
      n (simp length-append (omega arith)))
      j (simp length-append (omega arith)))

-- what a frame gives behind its count: by its kind, and what is wrong with it
module _ (ds s : List ℕ) (o : CodeOption Kind) (u : o ≡ by_kind (λ (k : Kind). leads (header_of k) s) Some None) where
  headed_as : framed ds (some s) ≡ option_map_or (λ (k : Kind). checked k ds s) o (unfit NoRecord)
  unfolding framed
  headed_as = by_found (λ (k : Kind). leads (header_of k) s) (λ (k : Kind). checked k ds s) (unfit NoRecord) o u

  pub unheaded : o ≡ None → framed ds (some s) ≡ unfit NoRecord
  unheaded e = headed_as ∙ ap (λ (r : CodeOption Kind). option_map_or (λ (k : Kind). checked k ds s) r (unfit NoRecord)) e

  module _ (k : Kind) (e : o ≡ Some k) where
    headed_by : framed ds (some s) ≡ checked k ds s
    headed_by = headed_as ∙ ap (λ (r : CodeOption Kind). option_map_or (λ (j : Kind). checked j ds s) r (unfit NoRecord)) e

    pub no_data : length s < 6 → framed ds (some s) ≡ unfit NoRecord
    unfolding checked
    no_data h = headed_by ∙ grind checks

    pub miscounted : 6 ≤ length s → count_is ds (2 * length s) ≡ false → framed ds (some s) ≡ unfit WrongCount
    unfolding checked
    miscounted h f = headed_by ∙ grind checks

    pub misstated : 6 ≤ length s → count_is ds (2 * length s) ≡ true → (get_or s 4 0 ≡ length s - 5 → ⊥) → framed ds (some s) ≡ unfit WrongCount
    unfolding checked
    misstated h f n = headed_by ∙ grind checks

    pub fitting : 6 ≤ length s → count_is ds (2 * length s) ≡ true → get_or s 4 0 ≡ length s - 5 → framed ds (some s) ≡ imported k (drop 5 s)
    unfolding checked
    fitting h f n = headed_by ∙ grind checks

-- a count without a zero in front, and what stands behind it
pub counted_framed : (ds q : List ℕ) → leading_zero ds ≡ false → length q ≤ longest → counted ds q ≡ framed ds (frame_of q)
unfolding counted
counted_framed ds q z h = skip _ _ _ z ∙ ap (framed ds) (sym (short_frame q h))

-- what a line without blanks gives, by its shape
module _ (c : List ℕ) (o : CodeOption ℕ) (u : o ≡ shape_of c) where
  pub unshaped : o ≡ None → record_in c ≡ unfit NoRecord
  unfolding record_in shaped
  unshaped e = ap (λ (s : CodeOption ℕ). shaped s c) (sym u ∙ e)

  module _ (k : ℕ) (e : o ≡ Some k) where
    pub shaping : Shaping c k
    shaping = shape_is c k (sym e ∙ u)

    pub counted_in : record_in c ≡ counted (part 8 (8 + k) c) (part (10 + k) (length c - 1) c)
    unfolding record_in shaped
    counted_in = ap (λ (s : CodeOption ℕ). shaped s c) (sym u ∙ e)

    pub padded : leading_zero (part 8 (8 + k) c) ≡ true → record_in c ≡ unfit NoRecord
    unfolding counted
    padded z = counted_in ∙ stop _ _ _ z

    pub framed_in : leading_zero (part 8 (8 + k) c) ≡ false → length c ≤ longest → record_in c ≡ framed (part 8 (8 + k) c) (frame_of (part (10 + k) (length c - 1) c))
    framed_in z h = counted_in ∙ counted_framed _ _ z (quoted_few c k h)

-- a line of a log: over the limit, or what its text without blanks gives
pub import_long : (l : List ℕ) → longest < length l → import_line l ≡ record_line (unfit NoRecord)
unfolding import_line record_line
import_long l h = grind checks

pub import_within : (l c : List ℕ) → length l ≤ longest → c ≡ cleaned l → import_line l ≡ record_line (record_in c)
unfolding import_line imports
import_within l c h e = skip _ _ _ (le-ltb longest (length l) h) ∙ ap (λ (s : List ℕ). record_line (record_in s)) (sym e)

-- the frame of the digits behind a word: none, no bytes, too many, or its line
module _ (k : Kind) (q : List ℕ) where
  pub digits_unread : frame_of q ≡ none → export_in k (frame_of q) ≡ none
  unfolding export_in
  digits_unread r = ap (export_in k) r

  module _ (n : ℕ) (frame : List ℕ) (r : Read (frame_of q) n frame) where
    s : List ℕ
    s = take n frame

    pub digits_none : (n ≡ 0) ⊎ ((n ≡ 0 → ⊥) × (255 < n)) → export_in k (frame_of q) ≡ none
    unfolding export_in s
    digits_none z =
        let wrong : is_empty s || ltb 255 (length s) ≡ true =
        ⊎_elim (λ e. ap (λ (b : Bool). b || ltb 255 (length s)) (sym (empty_length s) ∙ eq-eqb (length s) 0 (sym r.size ∙ e)))
        (λ h. or_right (is_empty s) _ (lt-ltb 255 (length s) (omega (arith, r.size, h.1)))) z in
        ap (export_in k) r.bytes ∙ stop _ _ _ wrong

    pub digits_fit : (n ≡ 0 → ⊥) → n ≤ 255 → export_in k (frame_of q) ≡ some (export_of k (take n frame))
    unfolding export_in s
    digits_fit z h =
        let few : is_empty s || ltb 255 (length s) ≡ false = λ i. (sym (empty_length s) ∙ ne_eqb (length s) 0 (λ e. z (r.size ∙ e))) i || le-ltb 255 (length s) (omega (arith, r.size)) i in
        ap (export_in k) r.bytes ∙ skip _ _ _ few

-- a line of ours: over the limit, without a word, or what its digits give
pub export_long : (l : List ℕ) → longest < length l → export_line l ≡ csim_line none
unfolding export_line csim_line
export_long l h = grind checks

module _ (l : List ℕ) (h : length l ≤ longest) (o : CodeOption Kind) (u : o ≡ by_kind (λ (k : Kind). leads (lead_of k) l) Some None) where
  export_within : export_line l ≡ csim_line (option_map_or (λ (k : Kind). export_behind k l) o none)
  unfolding export_line exports
  export_within = skip _ _ _ (le-ltb longest (length l) h) ∙ ap csim_line (by_found (λ (k : Kind). leads (lead_of k) l) (λ (k : Kind). export_behind k l) none o u)

  pub unnamed : o ≡ None → export_line l ≡ csim_line none
  unnamed e = export_within ∙ ap (λ (r : CodeOption Kind). csim_line (option_map_or (λ (k : Kind). export_behind k l) r none)) e

  module _ (k : Kind) (e : o ≡ Some k) where
    pub lead_within : length (lead_of k) ≤ length l
    lead_within = leads_size (lead_of k) l (found_passes (λ (j : Kind). leads (lead_of j) l) k (sym u ∙ e))

    pub named : (w : List ℕ) → w ≡ lead_of k → export_line l ≡ csim_line (export_in k (frame_of (part (length w) (length l) l)))
    unfolding export_behind
    named w is =
        let rest : part (length w) (length l) l ≡ drop (length (lead_of k)) l = part_to_end l (length w) ∙ ap (λ (v : List ℕ). drop (length v) l) is in
        let few = length-drop (length (lead_of k)) l in
        let read : frame_of (part (length w) (length l) l) ≡ bytes_of (drop (length (lead_of k)) l) = ap frame_of rest ∙ short_frame (drop (length (lead_of k)) l) (omega arith) in
        export_within ∙ ap (λ (r : CodeOption Kind). csim_line (option_map_or (λ (j : Kind). export_behind j l) r none)) e ∙ ap (λ (b : Option (List ℕ)). csim_line (export_in k b)) (sym read)

    pub asked_unread : (w : List ℕ) → w ≡ lead_of k → frame_of (part (length w) (length l) l) ≡ none → export_line l ≡ csim_line none
    asked_unread w is r = named w is ∙ ap csim_line (digits_unread k _ r)

    module _ (w : List ℕ) (is : w ≡ lead_of k) (n : ℕ) (frame : List ℕ) (r : Read (frame_of (part (length w) (length l) l)) n frame) where
      pub asked_none : (n ≡ 0) ⊎ ((n ≡ 0 → ⊥) × (255 < n)) → export_line l ≡ csim_line none
      asked_none z = named w is ∙ ap csim_line (digits_none k _ n frame r z)

      pub asked_fits : (n ≡ 0 → ⊥) → n ≤ 255 → export_line l ≡ csim_line (some (export_of k (take n frame)))
      asked_fits z h = named w is ∙ ap csim_line (digits_fit k _ n frame r z h)
