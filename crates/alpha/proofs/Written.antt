-- "Reading it back gives the same units": of each of the four forms, by the writer's rules, and so of what the writer picks.
-- Assumes nothing.
use Prim.Native.Nat.{ℕ, suc, ◌+◌, ◌-◌, ◌*◌, ◌/◌, ◌%◌, ◌≤◌, ◌<◌}
use mathlib.Core.Path.{◌≡◌, refl, sym, ap, ◌∙◌}
use mathlib.Core.Bool.{true, false, not, ◌&&◌}
use mathlib.Core.List.{List, [], ◌∷◌}
use mathlib.Core.Option.{Option, none, some}
use native.Mathlib.Omega.{arith}
use lib.ListN.{length, get_or, take, drop}
use lib.Seq.{take-length, drop-length}
use lib.Dec.{ltb, leb, eqb}
use borrow.Author.Tests.{le-ltb, ltb-true, leb-true, ne_eqb}
use Rattle.rules.specs.Checks.{◌⇒◌else◌, is_empty, every}
use Rattle.rules.specs.Sound.{Each}
use Rattle.rules.proofs.Laws.{stop, skip, both_left, both_right}
use Rattle.text.specs.Frames.{frame_bytes}
use Rattle.alpha.specs.declared.Coding.{Coding}
use Rattle.alpha.specs.declared.Coding.TheVariants.{Default, Pairs, Block, Base}
use Rattle.alpha.specs.Alphabet.{escape, code_of, extension_code_of}
use Rattle.alpha.specs.Reads.{units, follow, follow_if, padding, default_from, pairs, based_unit, based_from, based, block_pointer, base_pointer, reads}
use Rattle.alpha.specs.Writes.{needs, default_coding, pair_bytes, pair_coding, serves, based_byte, based_bytes, block_with, block_serves, base_with, base_serves, writes, Form, by_default, by_pairs, by_block, by_base, Codes}
use Rattle.alpha.specs.Passes.{survey_none, survey_from, chosen, bytes_of, Serves}
use Rattle.alpha.proofs.Tables.{unit_of_code, escape_none, extension_back}
use Rattle.alpha.proofs.Defaults.{default_code, default_escape, default_extended_lem}
use Rattle.alpha.proofs.Bases.{based_code}
use Rattle.alpha.proofs.Codings.{needs_none, coding_plain, coding_extended, coding_none, based_long, there_is}
use Rattle.alpha.proofs.Layings.{fronts, serves_parts, block_few, base_few}
use Rattle.alpha.proofs.Surveys.{chosen_of}

-- a first byte below 80 is no mark
low_reads : (s : List ℕ) → get_or s 0 0 < 128 → reads s ≡ default_from false s
unfolding reads default_from ◌⇒◌else◌ is_empty
low_reads [] h = refl
low_reads (b ∷ s) h =
    skip _ _ _ (ne_eqb b 128 (λ e. omega (arith, e, h))) ∙ skip _ _ _ (ne_eqb b 129 (λ e. omega (arith, e, h))) ∙ skip _ _ _ (ne_eqb b 130 (λ e. omega (arith, e, h)))

-- the default alphabet, unit by unit
record Back (us s : List ℕ) : Type 0 where
  low : get_or s 0 0 < 128
  text : default_from false s ≡ units us

module _ (u : ℕ) (us s : List ℕ) (e : default_coding (u ∷ us) ≡ some s) (rest : (t : List ℕ) → default_coding us ≡ some t → Back us t) where
  by_code : (c : ℕ) → code_of u ≡ some c → Back (u ∷ us) s
  unfolding follow
  by_code c f =
      let r = fronts (c ∷ []) (default_coding us) s (sym (coding_plain u us c f) ∙ e) in
      let w = unit_of_code u c f in
      let k = ap (λ (l : List ℕ). get_or l 0 0) r.is in
      record {
        low = omega arith;
        text = ap (default_from false) r.is ∙ default_code c r.rest w.0 (escape_none u c f) ∙ (λ i. follow (w.1 i) ((rest r.rest r.there).text i));
      }

  by_extension : (c : ℕ) → code_of u ≡ none → extension_code_of u ≡ some c → Back (u ∷ us) s
  unfolding follow follow_if
  by_extension c f g =
      let r = fronts (escape ∷ c ∷ []) (default_coding us) s (sym (coding_extended u us c f g) ∙ e) in
      let k = ap (λ (l : List ℕ). get_or l 0 0) r.is in
      record {
        low = omega arith;
        text =
            ap (default_from false) r.is ∙ default_escape escape (c ∷ r.rest) refl ∙ default_extended_lem c r.rest
            ∙ (λ i. follow_if ((extension_back u c g).0 i) ((rest r.rest r.there).text i));
      }

  by_unit : Back (u ∷ us) s
  by_unit = by (code_of u) refl
    where
      without : (o : Option ℕ) → code_of u ≡ none → extension_code_of u ≡ o → Back (u ∷ us) s
      without none f g = absurd (let z = sym (coding_none u us f g) ∙ e in let y : ◌≡◌ {A = ℕ} 0 1 = cc in omega arith)
      without (some c) f g = by_extension c f g

      by : (o : Option ℕ) → code_of u ≡ o → Back (u ∷ us) s
      by none f = without (extension_code_of u) f refl
      by (some c) f = by_code c f

default_back : (us s : List ℕ) → default_coding us ≡ some s → Back us s
unfolding default_coding default_from frame_bytes ◌⇒◌else◌
default_back [] s e =
    let z : [] ≡ s = ap frame_bytes e in
    let k = ap (λ (l : List ℕ). get_or l 0 0) z in
    record { low = omega arith; text = ap (default_from false) (sym z) }
default_back (u ∷ us) s e = by_unit u us s e (λ t q. default_back us t q)

-- 80
pairs_back : (us : List ℕ) → pairs (pair_bytes us) ≡ units us
unfolding pairs pair_bytes follow
pairs_back [] = refl
pairs_back (u ∷ us) = let e : 256 * (u / 256) + u % 256 ≡ u = omega arith in λ i. follow (e i) (pairs_back us i)

pair_back : (us : List ℕ) → reads (pair_coding us) ≡ units us
unfolding reads pair_coding is_empty ◌⇒◌else◌
pair_back us = pairs_back us

-- 81 and 82: each byte has its unit
reach : (p u : ℕ) → serves p (u ∷ []) ≡ true → needs u ≡ true → (p ≤ u) × (u < p + 128)
unfolding serves
reach p u s n =
    let f = both_left (leb p u && ltb u (p + 128)) true (sym (stop _ _ _ n) ∙ s) in
    (leb-true p u (both_left (leb p u) (ltb u (p + 128)) f), ltb-true u (p + 128) (both_right (leb p u) (ltb u (p + 128)) f))

pointed : (p u : ℕ) → u < 0x10000 → (p ≤ u) × (u < p + 128) → based_unit p (128 + (u - p)) ≡ some u
unfolding based_unit
pointed p u small r =
    let e : p + (128 + (u - p) - 128) ≡ u = omega arith in
    skip _ _ _ (ne_eqb (128 + (u - p)) escape (λ f. omega (arith, f))) ∙ skip _ _ _ (le-ltb (128 + (u - p)) 128 (omega arith))
    ∙ skip _ _ _ (le-ltb 0xFFFF (p + (128 + (u - p) - 128)) (omega arith)) ∙ ap some e

module _ (p u : ℕ) (small : u < 0x10000) (s : serves p (u ∷ []) ≡ true) where
  byte_back : based_unit p (based_byte p u (code_of u)) ≡ some u
  unfolding based_byte
  byte_back = by (code_of u) refl
    where
      by : (o : Option ℕ) → code_of u ≡ o → based_unit p (based_byte p u (code_of u)) ≡ some u
      by none e = ap (λ (o : Option ℕ). based_unit p (based_byte p u o)) e ∙ pointed p u small (reach p u s (needs_none u e))
      by (some c) e = let w = unit_of_code u c e in ap (λ (o : Option ℕ). based_unit p (based_byte p u o)) e ∙ based_code p c (escape_none u c e) w.0 ∙ ap some w.1

based_back : (p : ℕ) (us : List ℕ) → Each (λ (u : ℕ). u < 0x10000) us → serves p us ≡ true → based_from p (based_bytes p us) ≡ units us
unfolding based_from based_bytes follow_if follow
based_back p [] h e = refl
based_back p (u ∷ us) h e =
    let w = serves_parts p u us e in
    λ i. follow_if (byte_back p u h.0 w.0 i) (based_back p us h.1 w.1 i)

counted_back : (p : ℕ) (us : List ℕ) → Each (λ (u : ℕ). u < 0x10000) us → serves p us ≡ true → based (length us) p (based_bytes p us) ≡ units us
unfolding based every
counted_back p us h e =
    let l = based_long p us in
    let none : drop (length us) (based_bytes p us) ≡ [] = ap (λ (k : ℕ). drop k (based_bytes p us)) (sym l) ∙ drop-length (based_bytes p us) in
    let all : take (length us) (based_bytes p us) ≡ based_bytes p us = ap (λ (k : ℕ). take k (based_bytes p us)) (sym l) ∙ take-length (based_bytes p us) in
    skip _ _ _ (le-ltb (length (based_bytes p us)) (length us) (omega arith)) ∙ skip _ _ _ (ap (λ (r : List ℕ). not (every (eqb padding) r)) none)
    ∙ ap (based_from p) all ∙ based_back p us h e

block_back : (b : ℕ) (us : List ℕ) → Each (λ (u : ℕ). u < 0x10000) us → block_serves b us ≡ true → reads (block_with b us) ≡ units us
unfolding reads block_with block_pointer is_empty ◌⇒◌else◌
block_back b us h e =
    let f = block_few b us e in
    skip _ _ _ (le-ltb (suc (suc (suc (length (based_bytes (128 * b) us))))) 3 (omega arith)) ∙ counted_back (128 * b) us h f.1

base_back : (b : ℕ) (us : List ℕ) → Each (λ (u : ℕ). u < 0x10000) us → base_serves b us ≡ true → reads (base_with b us) ≡ units us
unfolding reads base_with base_pointer is_empty ◌⇒◌else◌
base_back b us h e =
    let f = base_few b us e in
    let z : 256 * (b / 256) + b % 256 ≡ b = omega arith in
    skip _ _ _ (le-ltb (suc (suc (suc (suc (length (based_bytes b us)))))) 4 (omega arith))
    ∙ ap (λ (q : ℕ). based (length us) q (based_bytes b us)) z ∙ counted_back b us h f.1

-- each form, read back
pub form_back : (f : Form) (us s : List ℕ) → Each (λ (u : ℕ). u < 0x10000) us → Codes f us s → reads s ≡ units us
form_back by_default us s h e = let w = default_back us s e in low_reads s w.low ∙ w.text
form_back by_pairs us s h e = ap reads (sym e) ∙ pair_back us
form_back (by_block b) us s h e = ap reads (sym e.1) ∙ block_back b us h e.0
form_back (by_base b) us s h e = ap reads (sym e.1) ∙ base_back b us h e.0

-- the form that the writer picks
form_of : Coding → Form
form_of (Default extras) = by_default
form_of Pairs = by_pairs
form_of (Block b) = by_block b
form_of (Base b) = by_base b

picked : (c : Coding) (us : List ℕ) → Serves c us → Codes (form_of c) us (bytes_of c us)
unfolding form_of Serves bytes_of
picked (Default extras) us h = there_is (default_coding us) h.there
picked Pairs us h = refl
picked (Block b) us h = (h, refl)
picked (Base b) us h = (h, refl)

-- what is written is read back as the same units, for every list of 16-bit units
pub written_read : (us : List ℕ) → Each (λ (u : ℕ). u < 0x10000) us → reads (writes us) ≡ units us
written_read us h =
    let c = chosen (survey_from survey_none us) (length us) in
    let w = chosen_of us h in
    ap reads w.is ∙ form_back (form_of c) us (bytes_of c us) h (picked c us w.serves)
