-- The exchange with a +CSIM log, both ways, and where R17 and R18 are given.
-- Assumes nothing.
use Prim.Native.Nat.{ℕ, ◌+◌, ◌-◌, ◌*◌, ◌≤◌, ◌<◌}
use mathlib.Core.Path.{◌≡◌, refl, sym, ap, subst, ◌∙◌}
use mathlib.Core.Logic.{◌⊎◌, inl, inr, ⊎_elim}
use mathlib.Core.Bool.{Bool, true, false, not, ◌&&◌, ◌||◌}
use mathlib.Core.List.{List, [], ◌∷◌, ◌++◌}
use mathlib.Core.Option.{Option, none, some}
use native.Mathlib.Omega.{arith}
use lib.ListN.{length, get_or, drop, length-drop}
use lib.Seq.{drop-cons}
use lib.Dec.{eqb, ltb}
use borrow.Author.Tests.{ltb-false, eqb-true, le-ltb, eq-eqb, ne_eqb}
use Rattle.rules.specs.declared.Refusal.{Refusal}
use Rattle.rules.specs.declared.Refusal.TheVariants.{NoRecord, WrongCount}
use Rattle.std.specs.Prelude.{Option as CodeOption, Some, None}
use Rattle.rules.specs.Checks.{◌⇒◌else◌, is_empty}
use Rattle.rules.specs.Sound.{Each}
use Rattle.rules.specs.Lines.{bytes_of, hex, decimal}
use Rattle.rules.proofs.Laws.{stop, skip, both, both_left, both_right, each_append, empty_length}
use Rattle.octets.specs.Parts.{part}
use Rattle.text.proofs.Printing.{hex_size}
use Rattle.csim.specs.declared.Kind.{Kind}
use Rattle.csim.specs.declared.Kind.TheVariants.{Profile, Response, Envelope}
use Rattle.csim.specs.Kinds.{instruction_of, header_of, lead_of, leads, by_kind}
use Rattle.csim.specs.Records.{imported, unfit, cleaned, opening, quoting, shape_of, leading_zero, value_from, count_is, checked, framed, counted, shaped, record_in, imports}
use Rattle.csim.specs.Exports.{export_of, export_in, export_behind, exports}
use Rattle.csim.specs.Logged.{is_plain, Logged, agrees, Miscounted}
use Rattle.csim.proofs.Scans.{leads_true}
use Rattle.csim.proofs.Shapes.{Shaping, shape_is, text_counted}
use Rattle.csim.proofs.Decimals.{decimal_gives, decimal_only}
use Rattle.csim.proofs.Telling.{bytes_double}
use Rattle.csim.proofs.ByKind.{by_found, found_passes}
use Rattle.csim.proofs.Characters.{Plain, Byte, each_left, each_right, cleaned_plain, plain_cleaned, decimals_plain, hex_plain, bytes_hex, hex_read}

-- a test, either way
either_way : {X : Type 0} (b : Bool) → (b ≡ true → X) → (b ≡ false → X) → X
either_way true f g = f refl
either_way false f g = g refl

-- a frame that begins with the header of a kind is of that kind
headed : (k : Kind) (ds r : List ℕ) → framed ds (some (header_of k ++ r)) ≡ checked k ds (header_of k ++ r)
unfolding framed leads by_kind ◌⇒◌else◌
headed Profile ds r = refl
headed Response ds r = refl
headed Envelope ds r = refl

-- what a line of the shape gives: its kind and data where both counts agree, else R18
pub logged_imports : (l : List ℕ) (g : Logged l) → imports l ≡ (agrees l g ⇒ imported g.kind g.bytes else unfit WrongCount)
unfolding imports counted checked agrees
logged_imports l g =
    let s = header_of g.kind ++ g.stated ∷ g.bytes in
    let five : length s ≡ 5 + length g.bytes = omega arith in
    let size : length s - 5 ≡ length g.bytes = omega arith in
    let there = g.data_there in
    text_counted g.count g.quoted g.proper.counting (cleaned l) g.text
    ∙ skip _ _ _ g.proper.bare ∙ ap (framed g.count) g.frame ∙ headed g.kind g.count (g.stated ∷ g.bytes)
    ∙ skip _ _ _ (le-ltb (length s) 6 (omega arith))
    ∙ two (count_is g.count (2 * length s)) (eqb g.stated (length s - 5))
    ∙ (λ i. count_is g.count (bytes_double g.quoted s g.frame i) && eqb g.stated (size i) ⇒ imported g.kind g.bytes else unfit WrongCount)
  where
    two : (a b : Bool) → (not a ⇒ unfit WrongCount else (not b ⇒ unfit WrongCount else imported g.kind g.bytes)) ≡ (a && b ⇒ imported g.kind g.bytes else unfit WrongCount)
    two true true = skip _ _ _ refl ∙ skip _ _ _ refl ∙ sym (stop _ _ _ refl)
    two true false = skip _ _ _ refl ∙ stop _ _ _ refl ∙ sym (skip _ _ _ refl)
    two false b = stop _ _ _ refl ∙ sym (skip _ _ _ refl)

-- every line is R17 or has the shape
module _ (l : List ℕ) where
  Sorted : Type 0
  Sorted = (imports l ≡ unfit NoRecord) ⊎ Logged l

  module _ (k : ℕ) (h : Shaping (cleaned l) k) where
    ds : List ℕ
    ds = part 8 (8 + k) (cleaned l)

    quoted : List ℕ
    quoted = part (10 + k) (length (cleaned l) - 1) (cleaned l)

    of_kind : (j : Kind) (s : List ℕ) → leading_zero ds ≡ false → bytes_of quoted ≡ some s → leads (header_of j) s ≡ true → imports l ≡ checked j ds s → Sorted
    unfolding Sorted checked ds quoted
    of_kind j s bare o lead e =
        either_way (ltb (length s) 6) (λ z. inl (e ∙ stop _ _ _ z))
        (λ z.
        let long = ltb-false (length s) 6 z in
        let is : s ≡ header_of j ++ get_or s 4 0 ∷ drop 5 s = leads_true (header_of j) s lead ∙ ap (λ (r : List ℕ). header_of j ++ r) (drop-cons s 4 0 (omega arith)) in
        let size = length-drop 5 s in
        inr (record {
          kind = j;
          count = ds;
          quoted = quoted;
          stated = get_or s 4 0;
          bytes = drop 5 s;
          text = h.text;
          proper = record { counting = h.counting; bare = bare };
          frame = o ∙ ap some is;
          data_there = omega arith;
        }))

    by_header : (o : Option (List ℕ)) → leading_zero ds ≡ false → bytes_of quoted ≡ o → imports l ≡ framed ds o → Sorted
    unfolding Sorted framed
    by_header none bare o e = inl e
    by_header (some s) bare o e = by_first (by_kind headed_by Some None) refl
      where
        headed_by : Kind → Bool
        headed_by j = leads (header_of j) s

        by_first : (r : CodeOption Kind) → r ≡ by_kind headed_by Some None → Sorted
        by_first None u = inl (e ∙ by_found headed_by (λ j. checked j ds s) (unfit NoRecord) None u)
        by_first (Some j) u = of_kind j s bare o (found_passes headed_by j (sym u)) (e ∙ by_found headed_by (λ i. checked i ds s) (unfit NoRecord) (Some j) u)

    by_count : imports l ≡ counted ds quoted → Sorted
    unfolding Sorted counted
    by_count e = either_way (leading_zero ds) (λ z. inl (e ∙ stop _ _ _ z)) (λ z. by_header (bytes_of quoted) z refl (e ∙ skip _ _ _ z))

  by_shape : (x : CodeOption ℕ) → x ≡ shape_of (cleaned l) → Sorted
  unfolding Sorted imports record_in shaped ds quoted
  by_shape None e = inl (ap (λ (s : CodeOption ℕ). shaped s (cleaned l)) (sym e))
  by_shape (Some k) e = by_count k (shape_is (cleaned l) k e) (ap (λ (s : CodeOption ℕ). shaped s (cleaned l)) (sym e))

pub sorted : (l : List ℕ) → (imports l ≡ unfit NoRecord) ⊎ Logged l
unfolding Sorted
sorted l = by_shape l (shape_of (cleaned l)) refl

-- R17 exactly where a line has not the shape
pub no_record : (l : List ℕ) → (imports l ≡ unfit NoRecord → Logged l → ⊥) × ((Logged l → ⊥) → imports l ≡ unfit NoRecord)
no_record l = (
  λ e g. either_way (agrees l g) (λ t. clash (sym e ∙ logged_imports l g ∙ stop _ _ _ t)) (λ f. other (sym e ∙ logged_imports l g ∙ skip _ _ _ f)),
  λ n. ⊎_elim (λ e. e) (λ g. absurd (n g)) (sorted l),
)
  where
    clash : {k : Kind} {d : List ℕ} → unfit NoRecord ≡ imported k d → ⊥
    clash e = let z : ◌≡◌ {A = ℕ} 0 1 = cc in omega arith

    other : unfit NoRecord ≡ unfit WrongCount → ⊥
    other e = let z : ◌≡◌ {A = ℕ} 0 1 = cc in omega arith

-- R18 exactly where it has the shape, and its count or P3 is wrong
pub wrong_count : (l : List ℕ) → (imports l ≡ unfit WrongCount → Miscounted l) × (Miscounted l → imports l ≡ unfit WrongCount)
wrong_count l = (
  λ e.
      ⊎_elim (λ r. absurd (other (sym r ∙ e)))
      (λ g. either_way (agrees l g) (λ t. absurd (clash (sym e ∙ logged_imports l g ∙ stop _ _ _ t))) (λ f. record { logged = g; wrong = f })) (sorted l),
  λ m. logged_imports l m.logged ∙ skip _ _ _ m.wrong,
)
  where
    clash : {k : Kind} {d : List ℕ} → unfit WrongCount ≡ imported k d → ⊥
    clash e = let z : ◌≡◌ {A = ℕ} 0 1 = cc in omega arith

    other : unfit NoRecord ≡ unfit WrongCount → ⊥
    other e = let z : ◌≡◌ {A = ℕ} 0 1 = cc in omega arith

-- a line of the shape whose counts agree is the line that is exported, but for blanks and small letters
agreed_line : (l : List ℕ) (g : Logged l) → agrees l g ≡ true → cleaned l ≡ export_of g.kind g.bytes
unfolding agrees export_of count_is
agreed_line l g t =
    let n = length g.bytes in
    let s = header_of g.kind ++ g.stated ∷ g.bytes in
    let rest = g.quoted ++ 34 ∷ [] in
    let plain = each_right Plain quoting rest (each_right Plain g.count (quoting ++ rest) (each_right Plain opening (g.count ++ (quoting ++ rest)) (subst (Each Plain) g.text (cleaned_plain l)))) in
    let read = hex_read g.quoted s (each_left Plain g.quoted (34 ∷ []) plain) g.frame in
    let value = eqb-true (value_from 0 g.count) (length g.quoted) (both_left _ _ t) in
    let p3 : g.stated ≡ n = eqb-true g.stated n (both_right (eqb (value_from 0 g.count) (length g.quoted)) _ t) in
    let small : g.stated < 256 = read.1.1.1.1.1.0 in
    let five : length s ≡ 5 + n = omega arith in
    let double = bytes_double g.quoted s g.frame in
    let size : length g.quoted ≡ 2 * (5 + n) = omega arith in
    let count : g.count ≡ decimal (2 * (5 + n)) = decimal_only g.count (2 * (5 + n)) (omega arith) (record { proper = g.proper; value = value ∙ size }) in
    let digits : g.quoted ≡ hex (header_of g.kind ++ n ∷ g.bytes) = read.0 ∙ (λ i. hex (header_of g.kind ++ p3 i ∷ g.bytes)) in
    g.text ∙ (λ i. opening ++ (count i ++ (quoting ++ (digits i ++ 34 ∷ []))))

-- the line that is exported is the only one without blanks and in capitals that imports as that kind and frame
pub only_export : (l : List ℕ) (k : Kind) (d : List ℕ) → imports l ≡ imported k d → cleaned l ≡ export_of k d
only_export l k d e =
    ⊎_elim (λ r. absurd (clash (sym r ∙ e)))
    (λ g.
    either_way (agrees l g)
    (λ t. let same = sym (logged_imports l g ∙ stop _ _ _ t) ∙ e in agreed_line l g t ∙ (λ i. export_of (kinds same i) (frames same i)))
    (λ f. absurd (clash (sym (logged_imports l g ∙ skip _ _ _ f) ∙ e))))
    (sorted l)
  where
    clash : {r : Refusal} → unfit r ≡ imported k d → ⊥
    clash e₀ = let z : ◌≡◌ {A = ℕ} 0 1 = cc in omega arith

    kinds : {j : Kind} {s : List ℕ} → imported j s ≡ imported k d → j ≡ k
    kinds p = cc

    frames : {j : Kind} {s : List ℕ} → imported j s ≡ imported k d → s ≡ d
    frames p = cc

-- import then export gives the same line exactly where it has no blank and no small letter
pub import_export :
    (l : List ℕ) (k : Kind) (d : List ℕ) → imports l ≡ imported k d →
    (export_of k d ≡ l → Each (λ (c : ℕ). is_plain c ≡ true) l) × (Each (λ (c : ℕ). is_plain c ≡ true) l → export_of k d ≡ l)
import_export l k d e =
    let o = only_export l k d e in
    (λ s. subst (Each Plain) (o ∙ s) (cleaned_plain l), λ h. sym o ∙ plain_cleaned l h)

-- a frame of a kind, with its header and P3
module _ (k : Kind) (d : List ℕ) (b : Each (λ (x : ℕ). x < 256) d) (some_bytes : 1 ≤ length d) (few : length d ≤ 255) where
  instruction_small : (j : Kind) → instruction_of j < 256
  instruction_small Profile = omega arith
  instruction_small Response = omega arith
  instruction_small Envelope = omega arith

  small : Each Byte (header_of k ++ length d ∷ d)
  small = (omega arith, (instruction_small k, (omega arith, (omega arith, (omega arith, b)))))

  below : 2 * (5 + length d) < 10000
  below = omega arith

  plain : Each Plain (export_of k d)
  unfolding export_of is_plain
  plain =
      let digits = hex (header_of k ++ length d ∷ d) ++ 34 ∷ [] in
      let count = decimal (2 * (5 + length d)) in
      each_append Plain opening (count ++ (quoting ++ digits)) (refl, (refl, (refl, (refl, (refl, (refl, (refl, (refl, tt))))))))
      (each_append Plain count (quoting ++ digits) (decimals_plain count (decimal_gives (2 * (5 + length d)) below).proper.counting.digits)
      (refl, (refl, each_append Plain (hex (header_of k ++ length d ∷ d)) (34 ∷ []) (hex_plain (header_of k ++ length d ∷ d) small) (refl, tt))))

  logged : Logged (export_of k d)
  unfolding export_of
  logged =
      record {
        kind = k;
        count = decimal (2 * (5 + length d));
        quoted = hex (header_of k ++ length d ∷ d);
        stated = length d;
        bytes = d;
        text = plain_cleaned (export_of k d) plain;
        proper = (decimal_gives (2 * (5 + length d)) below).proper;
        frame = bytes_hex (header_of k ++ length d ∷ d) small;
        data_there = some_bytes;
      }

  agreeing : agrees (export_of k d) logged ≡ true
  unfolding agrees logged count_is
  agreeing =
      let size = hex_size (header_of k ++ length d ∷ d) in
      let five : length (header_of k ++ length d ∷ d) ≡ 5 + length d = omega arith in
      let same : 2 * (5 + length d) ≡ length (hex (header_of k ++ length d ∷ d)) = omega arith in
      both _ _ (eq-eqb (value_from 0 (decimal (2 * (5 + length d)))) (length (hex (header_of k ++ length d ∷ d))) ((decimal_gives (2 * (5 + length d)) below).value ∙ same))
      (eq-eqb (length d) (length d) refl)

-- export then import gives the same kind and frame
pub export_import :
    (k : Kind) (d : List ℕ) → Each (λ (b : ℕ). b < 256) d → 1 ≤ length d → length d ≤ 255 → imports (export_of k d) ≡ imported k d
unfolding logged
export_import k d b h w = logged_imports (export_of k d) (logged k d b h w) ∙ stop _ _ _ (agreeing k d b h w)

-- what import prints is what export takes
named : (k : Kind) (s : List ℕ) → exports (lead_of k ++ s) ≡ export_in k (bytes_of s)
unfolding exports leads export_behind by_kind ◌⇒◌else◌
named Profile s = refl
named Response s = refl
named Envelope s = refl

pub exports_record :
    (k : Kind) (d : List ℕ) → Each (λ (b : ℕ). b < 256) d → 1 ≤ length d → length d ≤ 255 → exports (lead_of k ++ hex d) ≡ some (export_of k d)
unfolding export_in
exports_record k d b h w =
    let few : is_empty d || ltb 255 (length d) ≡ false = λ i. (sym (empty_length d) ∙ ne_eqb (length d) 0 (λ e. omega (arith, e))) i || le-ltb 255 (length d) w i in
    named k (hex d) ∙ ap (export_in k) (bytes_hex d b) ∙ skip _ _ _ few
