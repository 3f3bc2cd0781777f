-- The survey of units, and the choice by it.
-- Assumes nothing.
use Prim.Native.Nat.{ℕ, suc, ◌+◌, ◌-◌, ◌*◌, ◌/◌, ◌≤◌, ◌<◌, min, max}
use mathlib.Core.Path.{◌≡◌, refl, sym, ap, subst, ◌∙◌}
use mathlib.Core.Logic.{◌⊎◌, inl, inr, ⊎_elim}
use mathlib.Core.Bool.{Bool, true, false, ◌&&◌, false≢true}
use mathlib.Core.List.{List, [], ◌∷◌}
use mathlib.Core.Option.{Option, none, some}
use native.Mathlib.Omega.{arith}
use native.Mathlib.Numerals.{add-one}
use lib.ListN.{length, get_or, drop, drop_of_length-le}
use lib.Seq.{drop-cons}
use lib.Dec.{ltb, leb, eqb}
use borrow.Author.Tests.{lt-ltb, le-ltb, le-leb, lt-leb, eq-eqb, ne_eqb, leb-true, leb-false, ltb-true, ltb-false, eqb-true}
use Rattle.std.specs.Prelude.{Option as CodeOption, Some, None, IfSome, SomeIff, is_some, unwrap_or, option_map}
use Rattle.std.specs.Option.{option_and}
use Rattle.rules.specs.Checks.{◌⇒◌else◌}
use Rattle.rules.specs.Sound.{Each}
use Rattle.rules.proofs.Laws.{stop, skip, branch, both, both_left, both_right, and-false}
use Rattle.text.specs.Frames.{readable, frame_bytes}
use Rattle.alpha.specs.declared.Coding.{Coding}
use Rattle.alpha.specs.declared.Coding.TheVariants.{Default, Pairs, Block, Base}
use Rattle.alpha.specs.declared.Survey.{Survey}
use Rattle.alpha.specs.Alphabet.{escape, code_of, extension_code_of}
use Rattle.alpha.specs.Writes.{before, needs, default_coding, pair_coding, serves, block_with, block_serves, block_of, block_coding, base_with, base_serves, highest, base_of, base_coding, shorter, first_or, writes}
use Rattle.rules.specs.Words.{Ended}
use Rattle.alpha.specs.Calls.{fitted, laid}
use Rattle.alpha.specs.Passes.{told, survey_none, survey_needing, survey_step, survey_from, form_with, first_form, excess_of, block_fits, block_told, chosen, bytes_of, Serves, Ends}
use Rattle.alpha.proofs.Codings.{needs_none, needs_some, before_there, before_bytes, coding_plain, coding_extended, coding_none, pair_size, block_size, base_size, shorter_kept, shorter_taken, first_there, first_none}

-- whether every unit had a code, and how many were extension characters
abbrev counted : Survey → Bool
counted s = is_some s.extras

abbrev extras_in : Survey → ℕ
extras_in s = unwrap_or s.extras 0

step_needs : (s : Survey) (u : ℕ) → code_of u ≡ none → survey_step s u ≡ survey_needing s u (extension_code_of u)
unfolding survey_step
step_needs s u e = stop _ _ _ (needs_none u e)

step_stays : (s : Survey) (u c : ℕ) → code_of u ≡ some c → survey_step s u ≡ s
unfolding survey_step
step_stays s u c e = skip _ _ _ (needs_some u c e)

-- a unit that has a code of the base table, and one that has none
module _ (s : Survey) (u : ℕ) where
  pub step_coded : true ≡ is_some (told (code_of u)) → s ≡ survey_step s u
  unfolding told
  step_coded e = by (code_of u) refl e
    where
      by : (o : Option ℕ) → code_of u ≡ o → true ≡ is_some (told o) → s ≡ survey_step s u
      by none f g = absurd (false≢true (sym g))
      by (some c) f g = sym (step_stays s u c f)

  needing_as : (o : Option ℕ) (x : CodeOption ℕ) → x ≡ option_map (λ (n : ℕ). n + 1) (option_and (told o) s.extras) → record { extras = x; lowest = min s.lowest u; highest = max s.highest u } ≡ survey_needing s u o
  unfolding told survey_needing
  needing_as none x e = λ i. record { extras = e i; lowest = min s.lowest u; highest = max s.highest u }
  needing_as (some c) x e = λ i. record { extras = e i; lowest = min s.lowest u; highest = max s.highest u }

  pub step_needing :
      false ≡ is_some (told (code_of u)) → (x : CodeOption ℕ) (l h : ℕ) → x ≡ option_map (λ (n : ℕ). n + 1) (option_and (told (extension_code_of u)) s.extras) →
      l ≡ min s.lowest u → h ≡ max s.highest u → record { extras = x; lowest = l; highest = h } ≡ survey_step s u
  unfolding told
  step_needing e x l h f p q = (λ i. record { extras = x; lowest = p i; highest = q i }) ∙ needing_as (extension_code_of u) x f ∙ sym (step_needs s u (by (code_of u) e))
    where
      by : (o : Option ℕ) → false ≡ is_some (told o) → o ≡ none
      by none g = refl
      by (some c) g = absurd (false≢true g)

-- the survey of the first i units
pub record Surveys (us : List ℕ) (i : ℕ) (s : Survey) : Type 0 where
  pub few : IfSome s.extras (λ n. n ≤ i)
  pub same : survey_from survey_none us ≡ survey_from s (drop i us)

more_few : (x : CodeOption ℕ) (i : ℕ) → IfSome x (λ n. n ≤ i) → IfSome x (λ n. n ≤ i + 1)
more_few None i h = tt
more_few (Some n) i h = let z : n ≤ i = h in omega arith

needing_few : (s : Survey) (u i : ℕ) (o : Option ℕ) → IfSome s.extras (λ n. n ≤ i) → IfSome (survey_needing s u o).extras (λ n. n ≤ i + 1)
unfolding survey_needing
needing_few s u i none h = tt
needing_few s u i (some c) h = by s.extras h
  where
    by : (x : CodeOption ℕ) → IfSome x (λ n. n ≤ i) → IfSome (option_map (λ (n : ℕ). n + 1) x) (λ n. n ≤ i + 1)
    by None k = tt
    by (Some n) k = let z : n ≤ i = k in omega arith

step_few : (s : Survey) (u i : ℕ) → IfSome s.extras (λ n. n ≤ i) → IfSome (survey_step s u).extras (λ n. n ≤ i + 1)
unfolding survey_step
step_few s u i h =
    branch (λ (r : Survey). IfSome r.extras (λ n. n ≤ i + 1)) (needs u) (survey_needing s u (extension_code_of u)) s
    (λ _. needing_few s u i (extension_code_of u) h) (λ _. more_few s.extras i h)

module _ (us : List ℕ) (i : ℕ) (s : Survey) (w : Surveys us i s) where
  pub surveys_more : (r : Survey) → i < length us → r ≡ survey_step s (get_or us i 0) → Surveys us (i + 1) r
  unfolding survey_from
  surveys_more r h e =
      record {
        few = subst (λ (x : Survey). IfSome x.extras (λ n. n ≤ i + 1)) (sym e) (step_few s (get_or us i 0) i w.few);
        same =
            w.same ∙ ap (survey_from s) (drop-cons us i 0 h)
            ∙ (λ j. survey_from (sym e j) (drop (sym (add-one i) j) us));
      }

  pub surveys_end : length us ≤ i → s ≡ survey_from survey_none us
  unfolding survey_from
  surveys_end h = sym (w.same ∙ ap (survey_from s) (drop_of_length-le us h))

-- the lowest unit that needs the pointer
unfoldable pub low_need : List ℕ → ℕ
low_need [] = 0xFFFF
low_need (u ∷ us) = let rest = low_need us in needs u ⇒ min u rest else rest

-- what a survey that began with s comes to
record Surveyed (s : Survey) (us : List ℕ) (r : Survey) : Type 0 where
  coded : counted r ≡ counted s && readable (default_coding us)
  extras : counted s ≡ true → readable (default_coding us) ≡ true → extras_in r + length us ≡ extras_in s + length (frame_bytes (default_coding us))
  few : readable (default_coding us) ≡ true → length (frame_bytes (default_coding us)) ≤ 2 * length us
  lowest : r.lowest ≡ min s.lowest (low_need us)
  highest : r.highest ≡ max s.highest (highest us)

and_true : (p : Bool) → p && true ≡ p
and_true true = refl
and_true false = refl

low_yes : (u : ℕ) (us : List ℕ) → needs u ≡ true → (low_need (u ∷ us) ≡ min u (low_need us)) × (highest (u ∷ us) ≡ max u (highest us))
unfolding low_need highest
low_yes u us e = (stop _ _ _ e, stop _ _ _ e)

low_no : (u : ℕ) (us : List ℕ) → needs u ≡ false → (low_need (u ∷ us) ≡ low_need us) × (highest (u ∷ us) ≡ highest us)
unfolding low_need highest
low_no u us e = (skip _ _ _ e, skip _ _ _ e)

-- an extension character more
one_more_extra : (x : CodeOption ℕ) → (is_some (option_map (λ (n : ℕ). n + 1) x) ≡ is_some x) × (is_some x ≡ true → unwrap_or (option_map (λ (n : ℕ). n + 1) x) 0 ≡ unwrap_or x 0 + 1)
one_more_extra None = (refl, λ e. absurd (false≢true e))
one_more_extra (Some n) = (refl, λ e. refl)

module _ (s : Survey) (u : ℕ) (us : List ℕ) (r : Survey) where
  by_code : (c : ℕ) → code_of u ≡ some c → Surveyed s us r → Surveyed s (u ∷ us) r
  by_code c e w =
      let d = coding_plain u us c e in
      let t = ap readable d ∙ before_there (c ∷ []) (default_coding us) in
      let n = low_no u us (needs_some u c e) in
      record {
        coded = w.coded ∙ ap (λ (b : Bool). counted s && b) (sym t);
        extras = λ z y. let k = ap (λ (o : Option (List ℕ)). length (frame_bytes o)) d ∙ ap length (before_bytes (c ∷ []) (default_coding us) (sym t ∙ y)) in omega (arith, w.extras z (sym t ∙ y), k);
        few = λ y. let k = ap (λ (o : Option (List ℕ)). length (frame_bytes o)) d ∙ ap length (before_bytes (c ∷ []) (default_coding us) (sym t ∙ y)) in omega (arith, w.few (sym t ∙ y), k);
        lowest = w.lowest ∙ ap (min s.lowest) (sym n.0);
        highest = w.highest ∙ ap (max s.highest) (sym n.1);
      }

  by_extension : (c : ℕ) → code_of u ≡ none → extension_code_of u ≡ some c → Surveyed (survey_needing s u (some c)) us r → Surveyed s (u ∷ us) r
  unfolding survey_needing
  by_extension c e f w =
      let d = coding_extended u us c e f in
      let t = ap readable d ∙ before_there (escape ∷ c ∷ []) (default_coding us) in
      let n = low_yes u us (needs_none u e) in
      let o = one_more_extra s.extras in
      record {
        coded = w.coded ∙ (λ i. o.0 i && sym t i);
        extras =
            λ z y.
            let k = ap (λ (x : Option (List ℕ)). length (frame_bytes x)) d ∙ ap length (before_bytes (escape ∷ c ∷ []) (default_coding us) (sym t ∙ y)) in
            omega (arith, w.extras (o.0 ∙ z) (sym t ∙ y), o.1 z, k);
        few =
            λ y.
            let k = ap (λ (x : Option (List ℕ)). length (frame_bytes x)) d ∙ ap length (before_bytes (escape ∷ c ∷ []) (default_coding us) (sym t ∙ y)) in
            omega (arith, w.few (sym t ∙ y), k);
        lowest = omega (arith, w.lowest, n.0);
        highest = omega (arith, w.highest, n.1);
      }

  by_neither : code_of u ≡ none → extension_code_of u ≡ none → Surveyed (survey_needing s u none) us r → Surveyed s (u ∷ us) r
  unfolding survey_needing readable
  by_neither e f w =
      let t : readable (default_coding (u ∷ us)) ≡ false = ap readable (coding_none u us e f) in
      let n = low_yes u us (needs_none u e) in
      record {
        coded = w.coded ∙ sym (ap (λ (b : Bool). counted s && b) t ∙ and-false (counted s));
        extras = λ z y. absurd (false≢true (sym t ∙ y));
        few = λ y. absurd (false≢true (sym t ∙ y));
        lowest = omega (arith, w.lowest, n.0);
        highest = omega (arith, w.highest, n.1);
      }

needing_low : (s : Survey) (u : ℕ) (o : Option ℕ) → s.lowest ≤ 0xFFFF → (survey_needing s u o).lowest ≤ 0xFFFF
unfolding survey_needing
needing_low s u none h = omega arith
needing_low s u (some c) h = omega arith

by_unit :
    (s : Survey) (u : ℕ) (us : List ℕ) → s.lowest ≤ 0xFFFF → ((x : Survey) → x.lowest ≤ 0xFFFF → Surveyed x us (survey_from x us)) →
    Surveyed s (u ∷ us) (survey_from (survey_step s u) us)
by_unit s u us h rest = by (code_of u) refl
  where
    without : (o : Option ℕ) → code_of u ≡ none → extension_code_of u ≡ o → Surveyed s (u ∷ us) (survey_from (survey_step s u) us)
    without none e f =
        subst (λ (x : Survey). Surveyed s (u ∷ us) (survey_from x us)) (sym (step_needs s u e ∙ ap (survey_needing s u) f))
        (by_neither s u us _ e f (rest (survey_needing s u none) (needing_low s u none h)))
    without (some c) e f =
        subst (λ (x : Survey). Surveyed s (u ∷ us) (survey_from x us)) (sym (step_needs s u e ∙ ap (survey_needing s u) f))
        (by_extension s u us _ c e f (rest (survey_needing s u (some c)) (needing_low s u (some c) h)))

    by : (o : Option ℕ) → code_of u ≡ o → Surveyed s (u ∷ us) (survey_from (survey_step s u) us)
    by none e = without (extension_code_of u) e refl
    by (some c) e = subst (λ (x : Survey). Surveyed s (u ∷ us) (survey_from x us)) (sym (step_stays s u c e)) (by_code s u us _ c e (rest s h))

surveyed : (s : Survey) (us : List ℕ) → s.lowest ≤ 0xFFFF → Surveyed s us (survey_from s us)
unfolding survey_from default_coding readable frame_bytes low_need highest
surveyed s [] h = record { coded = sym (and_true (counted s)); extras = λ _ _. refl; few = λ _. omega arith; lowest = omega arith; highest = omega arith }
surveyed s (u ∷ us) h = by_unit s u us h (λ x k. surveyed x us k)

-- a pointer serves where it lies within 128 of both
pub serves_bounds : (p : ℕ) (us : List ℕ) → p ≤ 0xFFFF → serves p us ≡ true → (p ≤ low_need us) × (highest us < p + 128)
unfolding serves low_need highest
serves_bounds p [] h e = (h, omega arith)
serves_bounds p (u ∷ us) h e = by (needs u) refl (λ k. serves_bounds p us h k)
  where
    by :
        (t : Bool) → needs u ≡ t → (serves p us ≡ true → (p ≤ low_need us) × (highest us < p + 128)) →
        (p ≤ (needs u ⇒ min u (low_need us) else low_need us)) × ((needs u ⇒ max u (highest us) else highest us) < p + 128)
    by true n rest =
        let f = sym (stop _ _ _ n) ∙ e in
        let w = rest (both_right (leb p u && ltb u (p + 128)) (serves p us) f) in
        let g = both_left (leb p u && ltb u (p + 128)) (serves p us) f in
        let l = leb-true p u (both_left (leb p u) (ltb u (p + 128)) g) in
        let k = ltb-true u (p + 128) (both_right (leb p u) (ltb u (p + 128)) g) in
        let x : (needs u ⇒ min u (low_need us) else low_need us) ≡ min u (low_need us) = stop _ _ _ n in
        let y : (needs u ⇒ max u (highest us) else highest us) ≡ max u (highest us) = stop _ _ _ n in
        (omega arith, omega arith)
    by false n rest =
        let w = rest (sym (skip _ _ _ n) ∙ e) in
        let x : (needs u ⇒ min u (low_need us) else low_need us) ≡ low_need us = skip _ _ _ n in
        let y : (needs u ⇒ max u (highest us) else highest us) ≡ highest us = skip _ _ _ n in
        (omega arith, omega arith)

pub bounds_serve : (p : ℕ) (us : List ℕ) → p ≤ low_need us → highest us < p + 128 → serves p us ≡ true
unfolding serves
bounds_serve p [] h k = refl
bounds_serve p (u ∷ us) h k = by (needs u) refl (λ a b. bounds_serve p us a b)
  where
    by :
        (t : Bool) → needs u ≡ t → (p ≤ low_need us → highest us < p + 128 → serves p us ≡ true) →
        (needs u ⇒ leb p u && ltb u (p + 128) && serves p us else serves p us) ≡ true
    by true n rest =
        let w = low_yes u us n in
        stop _ _ _ n
        ∙ both (leb p u && ltb u (p + 128)) (serves p us) (both (leb p u) (ltb u (p + 128)) (le-leb p u (omega arith)) (lt-ltb u (p + 128) (omega arith)))
        (rest (omega arith) (omega arith))
    by false n rest =
        let w = low_no u us n in
        skip _ _ _ n ∙ rest (omega arith) (omega arith)

-- units of which none needs the pointer, or the first that does
pub record Needing (us : List ℕ) : Type 0 where
  pub first : ℕ
  pub block : block_of us ≡ first / 128
  pub low : low_need us ≤ first
  pub high : first ≤ highest us

pub record Plainly (us : List ℕ) : Type 0 where
  pub there : readable (default_coding us) ≡ true
  pub size : length (frame_bytes (default_coding us)) ≡ length us
  pub block : block_of us ≡ 0
  pub low : low_need us ≡ 0xFFFF
  pub high : highest us ≡ 0

at_once : (u : ℕ) (us : List ℕ) → needs u ≡ true → Needing (u ∷ us)
unfolding block_of
at_once u us n = let w = low_yes u us n in record { first = u; block = stop _ _ _ n; low = omega arith; high = omega arith }

later : (u : ℕ) (us : List ℕ) → needs u ≡ false → Needing us → Needing (u ∷ us)
unfolding block_of
later u us n w = let k = low_no u us n in record { first = w.first; block = skip _ _ _ n ∙ w.block; low = omega (arith, w.low); high = omega (arith, w.high) }

plainly : (u : ℕ) (us : List ℕ) (c : ℕ) → code_of u ≡ some c → Plainly us → Plainly (u ∷ us)
unfolding block_of
plainly u us c e w =
    let d = coding_plain u us c e in
    let k = low_no u us (needs_some u c e) in
    record {
      there = ap readable d ∙ before_there (c ∷ []) (default_coding us) ∙ w.there;
      size = ap (λ (o : Option (List ℕ)). length (frame_bytes o)) d ∙ ap length (before_bytes (c ∷ []) (default_coding us) w.there) ∙ ap suc w.size;
      block = skip _ _ _ (needs_some u c e) ∙ w.block;
      low = k.0 ∙ w.low;
      high = k.1 ∙ w.high;
    }

pub needing : (us : List ℕ) → Plainly us ⊎ Needing us
unfolding default_coding readable frame_bytes block_of low_need highest
needing [] = inl (record { there = refl; size = refl; block = refl; low = refl; high = refl })
needing (u ∷ us) = by (code_of u) refl (needing us)
  where
    by : (o : Option ℕ) → code_of u ≡ o → Plainly us ⊎ Needing us → Plainly (u ∷ us) ⊎ Needing (u ∷ us)
    by none e w = inr (at_once u us (needs_none u e))
    by (some c) e (inl w) = inl (plainly u us c e w)
    by (some c) e (inr w) = inr (later u us (needs_some u c e) w)

-- every unit is one of 16 bits, so the highest is
pub high_small : (us : List ℕ) → Each (λ (u : ℕ). u < 0x10000) us → highest us < 0x10000
unfolding highest
high_small [] h = omega arith
high_small (u ∷ us) h =
    let k = high_small us h.1 in
    let l = h.0 in
    branch (λ (x : ℕ). x < 0x10000) (needs u) (max u (highest us)) (highest us) (λ _. omega arith) (λ _. k)

-- the choice is the writer's
pub record Chosen (c : Coding) (us : List ℕ) : Type 0 where
  pub is : writes us ≡ bytes_of c us
  pub serves : Serves c us

low_small : (us : List ℕ) → low_need us ≤ 0xFFFF
unfolding low_need
low_small [] = omega arith
low_small (u ∷ us) =
    let k = low_small us in
    branch (λ (x : ℕ). x ≤ 0xFFFF) (needs u) (min u (low_need us)) (low_need us) (λ _. omega arith) (λ _. k)

module _ (us : List ℕ) (small : Each (λ (u : ℕ). u < 0x10000) us) (r : Survey) (known : Surveyed survey_none us r) where
  low_is : r.lowest ≡ low_need us
  low_is = let k = low_small us in omega (arith, known.lowest)

  high_is : r.highest ≡ highest us
  high_is = omega (arith, known.highest)

  -- the first form: default where it is there, else pairs
  record First : Type 0 where
    bytes : bytes_of (first_form r) us ≡ first_or (default_coding us) (pair_coding us)
    serves : Serves (first_form r) us
    size : length (first_or (default_coding us) (pair_coding us)) ≡ length us + excess_of r (length us)

  first_is : First
  unfolding first_form form_with excess_of bytes_of Serves
  first_is = by r.extras refl
    where
      by : (x : CodeOption ℕ) → r.extras ≡ x → First
      by (Some n) e =
          let there : readable (default_coding us) ≡ true = sym known.coded ∙ ap is_some e in
          let k = known.extras refl there in
          let l = known.few there in
          let m : extras_in r ≡ n = ap (λ (x : CodeOption ℕ). unwrap_or x 0) e in
          let p = pair_size us in
          let f = first_there (default_coding us) (pair_coding us) there (omega arith) in
          let form : first_form r ≡ Default n = ap form_with e in
          let over : excess_of r (length us) ≡ n = ap (λ (x : CodeOption ℕ). unwrap_or x (length us + 1)) e in
          record {
            bytes = ap (λ (c : Coding). bytes_of c us) form ∙ sym f;
            serves = subst (λ (c : Coding). Serves c us) (sym form) (record { there = there; size = omega arith });
            size = ap length f ∙ omega arith;
          }
      by None e =
          let there : readable (default_coding us) ≡ false = sym known.coded ∙ ap is_some e in
          let p = pair_size us in
          let f = first_none (default_coding us) (pair_coding us) there in
          let form : first_form r ≡ Pairs = ap form_with e in
          let over : excess_of r (length us) ≡ length us + 1 = ap (λ (x : CodeOption ℕ). unwrap_or x (length us + 1)) e in
          record {
            bytes = ap (λ (c : Coding). bytes_of c us) form ∙ sym f;
            serves = subst (λ (c : Coding). Serves c us) (sym form) tt;
            size = ap length f ∙ p ∙ omega arith;
          }

  -- a first form that is longer than its units has a unit that needs the pointer
  over_needing : 3 < excess_of r (length us) → Needing us
  unfolding excess_of
  over_needing h = ⊎_elim (λ p. absurd (none p)) (λ w. w) (needing us)
    where
      there_is_one : (x : CodeOption ℕ) (d : ℕ) → is_some x ≡ true → unwrap_or x d ≡ unwrap_or x 0
      there_is_one None d e = absurd (false≢true e)
      there_is_one (Some n) d e = refl

      none : Plainly us → ⊥
      none p =
          let k = known.extras refl p.there in
          let over = there_is_one r.extras (length us + 1) (known.coded ∙ p.there) in
          omega (arith, p.size)

  no_block : 255 < length us → block_coding us ≡ none
  unfolding block_coding block_serves
  no_block h = skip _ _ _ (ap (λ (b : Bool). b && ltb (block_of us) 256 && serves (128 * block_of us) us) (lt-leb (length us) 255 h))

  no_base : 255 < length us → base_coding us ≡ none
  unfolding base_coding base_serves
  no_base h = skip _ _ _ (ap (λ (b : Bool). b && ltb (base_of us) 65536 && serves (base_of us) us) (lt-leb (length us) 255 h))

  -- a coding that is no longer than those of 81, or of 82, is kept
  keep_block : (s : List ℕ) → length s ≤ 3 + length us → shorter s (block_coding us) ≡ s
  unfolding block_coding shorter
  keep_block s h =
      let k = block_size (block_of us) us in
      branch (λ (o : Option (List ℕ)). shorter s o ≡ s) (block_serves (block_of us) us) (some (block_with (block_of us) us)) none (λ _. shorter_kept s (block_with (block_of us) us) (omega arith)) (λ _. refl)

  keep_base : (s : List ℕ) → length s ≤ 4 + length us → shorter s (base_coding us) ≡ s
  unfolding base_coding shorter
  keep_base s h =
      let k = base_size (base_of us) us in
      branch (λ (o : Option (List ℕ)). shorter s o ≡ s) (base_serves (base_of us) us) (some (base_with (base_of us) us)) none (λ _. shorter_kept s (base_with (base_of us) us) (omega arith)) (λ _. refl)

  module _ (few : length us ≤ 255) where
    block_bounds : block_serves (block_of us) us ≡ true → (block_of us < 256) × (128 * block_of us ≤ low_need us) × (highest us < 128 * block_of us + 128)
    unfolding block_serves
    block_bounds e =
        let a = both_left (leb (length us) 255 && ltb (block_of us) 256) (serves (128 * block_of us) us) e in
        let b = ltb-true (block_of us) 256 (both_right (leb (length us) 255) (ltb (block_of us) 256) a) in
        let w = serves_bounds (128 * block_of us) us (omega arith) (both_right (leb (length us) 255 && ltb (block_of us) 256) (serves (128 * block_of us) us) e) in
        (b, w.0, w.1)

    bounds_block : (b : ℕ) → b < 256 → 128 * b ≤ low_need us → highest us < 128 * b + 128 → block_serves b us ≡ true
    unfolding block_serves
    bounds_block b h k l =
        both (leb (length us) 255 && ltb b 256) (serves (128 * b) us) (both (leb (length us) 255) (ltb b 256) (le-leb (length us) 255 few) (lt-ltb b 256 h))
        (bounds_serve (128 * b) us k l)

    module _ (over : 3 < excess_of r (length us)) where
      -- the survey tells whether a block serves, and which
      block_yes : block_fits r ≡ true → (block_serves (r.lowest / 128) us ≡ true) × (block_coding us ≡ some (block_with (r.lowest / 128) us))
      unfolding block_fits block_coding
      block_yes e =
          let w = over_needing over in
          let x = eqb-true (r.highest / 128) (r.lowest / 128) (both_left (eqb (r.highest / 128) (r.lowest / 128)) (ltb (r.lowest / 128) 256) e) in
          let y = ltb-true (r.lowest / 128) 256 (both_right (eqb (r.highest / 128) (r.lowest / 128)) (ltb (r.lowest / 128) 256) e) in
          let l = low_is in
          let h = high_is in
          let same : block_of us ≡ r.lowest / 128 = omega (arith, w.block, w.low, w.high) in
          let s = bounds_block (r.lowest / 128) y (omega arith) (omega arith) in
          (s, stop _ _ _ (ap (λ (b : ℕ). block_serves b us) same ∙ s) ∙ ap (λ (b : ℕ). some (block_with b us)) same)

      block_no : block_fits r ≡ false → block_coding us ≡ none
      unfolding block_fits block_coding
      block_no e = skip _ _ _ (not_so (block_serves (block_of us) us) refl)
        where
          not_so : (t : Bool) → block_serves (block_of us) us ≡ t → block_serves (block_of us) us ≡ false
          not_so true f =
              let w = over_needing over in
              let b = block_bounds f in
              let l = low_is in
              let h = high_is in
              absurd
              (false≢true
              (sym e
              ∙ both (eqb (r.highest / 128) (r.lowest / 128)) (ltb (r.lowest / 128) 256) (eq-eqb (r.highest / 128) (r.lowest / 128) (omega (arith, w.low, w.high)))
              (lt-ltb (r.lowest / 128) 256 (omega (arith, w.low, w.high)))))
          not_so false f = f

    base_yes : leb (r.highest - 127) r.lowest ≡ true → (base_serves (r.highest - 127) us ≡ true) × (base_coding us ≡ some (base_with (r.highest - 127) us))
    unfolding base_coding base_serves base_of
    base_yes e =
        let k = leb-true (r.highest - 127) r.lowest e in
        let l = low_is in
        let h = high_is in
        let m = high_small us small in
        let same : highest us - 127 ≡ r.highest - 127 = omega arith in
        let s : base_serves (r.highest - 127) us ≡ true =
        both (leb (length us) 255 && ltb (r.highest - 127) 65536) (serves (r.highest - 127) us)
        (both (leb (length us) 255) (ltb (r.highest - 127) 65536) (le-leb (length us) 255 few) (lt-ltb (r.highest - 127) 65536 (omega arith)))
        (bounds_serve (r.highest - 127) us (omega arith) (omega arith)) in
        (s, stop _ _ _ (ap (λ (b : ℕ). base_serves b us) same ∙ s) ∙ ap (λ (b : ℕ). some (base_with b us)) same)

    base_no : leb (r.highest - 127) r.lowest ≡ false → base_coding us ≡ none
    unfolding base_coding base_serves base_of
    base_no e = skip _ _ _ (not_so (base_serves (highest us - 127) us) refl)
      where
        not_so : (t : Bool) → base_serves (highest us - 127) us ≡ t → base_serves (highest us - 127) us ≡ false
        not_so true f =
            let m = high_small us small in
            let w =
            serves_bounds (highest us - 127) us (omega arith) (both_right (leb (length us) 255 && ltb (highest us - 127) 65536) (serves (highest us - 127) us) f) in
            let l = low_is in
            let h = high_is in
            absurd (false≢true (sym e ∙ le-leb (r.highest - 127) r.lowest (omega arith)))
        not_so false f = f

  first_chosen : shorter (shorter (first_or (default_coding us) (pair_coding us)) (block_coding us)) (base_coding us) ≡ first_or (default_coding us) (pair_coding us) → Chosen (first_form r) us
  unfolding writes
  first_chosen e = record { is = e ∙ sym first_is.bytes; serves = first_is.serves }

  chosen_right : Chosen (chosen r (length us)) us
  unfolding chosen writes shorter bytes_of Serves
  chosen_right =
      let f = first_is in
      branch P _ _ _ (λ long. let h = ltb-true 255 (length us) long in first_chosen (λ i. shorter (shorter first (no_block h i)) (no_base h i)))
      (λ few. let h = ltb-false 255 (length us) few in
      branch P _ _ _ (λ low. let l = leb-true (excess_of r (length us)) 3 low in first_chosen (ap (λ (s : List ℕ). shorter s (base_coding us)) (keep_block first (omega (arith, f.size))) ∙ keep_base first (omega (arith, f.size))))
      (λ over. let o = leb-false (excess_of r (length us)) 3 over in
      branch P _ _ _ (by_block_lem h o)
      (λ not. branch P _ _ _ (λ low. let l = leb-true (excess_of r (length us)) 4 low in first_chosen (ap (λ (b : Option (List ℕ)). shorter (shorter first b) (base_coding us)) (block_no h o not) ∙ keep_base first (omega (arith, f.size))))
      (λ more. branch P _ _ _ (by_base_lem h o not (leb-false (excess_of r (length us)) 4 more)) (λ none. first_chosen (λ i. shorter (shorter first (block_no h o not i)) (base_no h none i)))))))
    where
      P : Coding → Type 0
      P c = Chosen c us

      first : List ℕ
      first = first_or (default_coding us) (pair_coding us)

      by_block_lem : (h : length us ≤ 255) (o : 3 < excess_of r (length us)) → block_fits r ≡ true → Chosen (Block (r.lowest / 128)) us
      by_block_lem h o e =
          let b = block_yes h o e in
          let k = block_size (r.lowest / 128) us in
          let f = first_is in
          record {
            is =
                ap (λ (x : Option (List ℕ)). shorter (shorter (first_or (default_coding us) (pair_coding us)) x) (base_coding us)) b.1
                ∙ ap (λ (s : List ℕ). shorter s (base_coding us)) (shorter_taken (first_or (default_coding us) (pair_coding us)) (block_with (r.lowest / 128) us) (omega (arith, f.size)))
                ∙ keep_base (block_with (r.lowest / 128) us) (omega arith);
            serves = b.0;
          }

      by_base_lem :
          (h : length us ≤ 255) (o : 3 < excess_of r (length us)) → block_fits r ≡ false → 4 < excess_of r (length us) →
          leb (r.highest - 127) r.lowest ≡ true → Chosen (Base (r.highest - 127)) us
      by_base_lem h o n m e =
          let b = base_yes h e in
          let k = base_size (r.highest - 127) us in
          let f = first_is in
          record {
            is =
                (λ i. shorter (shorter (first_or (default_coding us) (pair_coding us)) (block_no h o n i)) (b.1 i))
                ∙ shorter_taken (first_or (default_coding us) (pair_coding us)) (base_with (r.highest - 127) us) (omega (arith, f.size));
            serves = b.0;
          }

-- the coding that is chosen by the survey of the units
pub chosen_of : (us : List ℕ) → Each (λ (u : ℕ). u < 0x10000) us → Chosen (chosen (survey_from survey_none us) (length us)) us
chosen_of us small = chosen_right us small (survey_from survey_none us) (surveyed survey_none us (omega arith))

-- the block, by what is told of it
block_yes_told : (s : Survey) (b : ℕ) → Some b ≡ block_told s → (block_fits s ≡ true) × (b ≡ s.lowest / 128)
unfolding block_told
block_yes_told s b e = by (block_fits s) refl
  where
    by : (t : Bool) → block_fits s ≡ t → (block_fits s ≡ true) × (b ≡ s.lowest / 128)
    by true f = (f, let g : Some b ≡ Some (s.lowest / 128) = e ∙ stop _ _ _ f in cc)
    by false f = absurd (let g : Some b ≡ None = e ∙ skip _ _ _ f in let z : ◌≡◌ {A = ℕ} 0 1 = cc in omega arith)

block_no_told : (s : Survey) → None ≡ block_told s → block_fits s ≡ false
unfolding block_told
block_no_told s e = by (block_fits s) refl
  where
    by : (t : Bool) → block_fits s ≡ t → block_fits s ≡ false
    by true f = absurd (let g : None ≡ Some (s.lowest / 128) = e ∙ stop _ _ _ f in let z : ◌≡◌ {A = ℕ} 0 1 = cc in omega arith)
    by false f = f

pub other_block : (s : Survey) → (s.highest / 128 ≡ s.lowest / 128 → ⊥) → None ≡ block_told s
unfolding block_told block_fits
other_block s n = sym (skip _ _ _ (ap (λ (b : Bool). b && ltb (s.lowest / 128) 256) (ne_eqb (s.highest / 128) (s.lowest / 128) n)))

pub same_block : (s : Survey) (r : CodeOption ℕ) → s.highest / 128 ≡ s.lowest / 128 → SomeIff r (s.lowest / 128 < 256) (s.lowest / 128) → r ≡ block_told s
unfolding block_told block_fits
same_block s r e h = by r h
  where
    is : eqb (s.highest / 128) (s.lowest / 128) && ltb (s.lowest / 128) 256 ≡ ltb (s.lowest / 128) 256
    is = ap (λ (b : Bool). b && ltb (s.lowest / 128) 256) (eq-eqb (s.highest / 128) (s.lowest / 128) e)

    by : (x : CodeOption ℕ) → SomeIff x (s.lowest / 128 < 256) (s.lowest / 128) → x ≡ (eqb (s.highest / 128) (s.lowest / 128) && ltb (s.lowest / 128) 256 ⇒ Some (s.lowest / 128) else None)
    by None n = sym (skip _ _ _ (is ∙ le-ltb (s.lowest / 128) 256 (below_not n)))
      where
        below_not : (s.lowest / 128 < 256 → ⊥) → 256 ≤ s.lowest / 128
        below_not m = omega (arith, m)
    by (Some b) w = ap Some w.1 ∙ sym (stop _ _ _ (is ∙ lt-ltb (s.lowest / 128) 256 w.0))

-- the choice, test by test, by what the code found
module _ (s : Survey) (n : ℕ) (f : Coding) (is : f ≡ first_form s) where
  pub choose_many : 255 < n → f ≡ chosen s n
  unfolding chosen
  choose_many h = is ∙ sym (stop _ _ _ (lt-ltb 255 n h))

  module _ (few : n ≤ 255) (k : ℕ) (e : k ≡ unwrap_or s.extras (n + 1)) where
    excess_is : k ≡ excess_of s n
    unfolding excess_of
    excess_is = e

    not_many : chosen s n ≡
        (leb (excess_of s n) 3 ⇒ first_form s else
        block_fits s ⇒ Block (s.lowest / 128) else
        leb (excess_of s n) 4 ⇒ first_form s else
        leb (s.highest - 127) s.lowest ⇒ Base (s.highest - 127) else
        first_form s)
    unfolding chosen
    not_many = skip _ _ _ (le-ltb 255 n few)

    pub choose_low : k ≤ 3 → f ≡ chosen s n
    choose_low h = let x = excess_is in is ∙ sym (not_many ∙ stop _ _ _ (le-leb (excess_of s n) 3 (omega arith)))

    module _ (over : 3 < k) where
      not_low : chosen s n ≡
          (block_fits s ⇒ Block (s.lowest / 128) else
          leb (excess_of s n) 4 ⇒ first_form s else
          leb (s.highest - 127) s.lowest ⇒ Base (s.highest - 127) else
          first_form s)
      not_low = let x = excess_is in not_many ∙ skip _ _ _ (lt-leb (excess_of s n) 3 (omega arith))

      pub choose_block : (b : ℕ) → Some b ≡ block_told s → Block b ≡ chosen s n
      choose_block b h = let w = block_yes_told s b h in ap Block w.1 ∙ sym (not_low ∙ stop _ _ _ w.0)

      module _ (no : None ≡ block_told s) where
        no_fit : chosen s n ≡
            (leb (excess_of s n) 4 ⇒ first_form s else
            leb (s.highest - 127) s.lowest ⇒ Base (s.highest - 127) else
            first_form s)
        no_fit = not_low ∙ skip _ _ _ (block_no_told s no)

        pub choose_even : k ≤ 4 → f ≡ chosen s n
        choose_even h = let x = excess_is in is ∙ sym (no_fit ∙ stop _ _ _ (le-leb (excess_of s n) 4 (omega arith)))

        module _ (more : 4 < k) (x : ℕ) (h : x ≡ s.highest - 127) where
          not_even : chosen s n ≡ (leb (s.highest - 127) s.lowest ⇒ Base (s.highest - 127) else first_form s)
          not_even = let y = excess_is in no_fit ∙ skip _ _ _ (lt-leb (excess_of s n) 4 (omega arith))

          pub choose_base : x ≤ s.lowest → Base x ≡ chosen s n
          choose_base l = ap Base h ∙ sym (not_even ∙ stop _ _ _ (le-leb (s.highest - 127) s.lowest (omega arith)))

          pub choose_last : s.lowest < x → f ≡ chosen s n
          choose_last l = is ∙ sym (not_even ∙ skip _ _ _ (lt-leb (s.highest - 127) s.lowest (omega arith)))

-- a coding by another name
pub serves_as : {c d : Coding} (us : List ℕ) → c ≡ d → Serves c us → Serves d us
serves_as us e w = subst (λ (x : Coding). Serves x us) e w

pub ends_as : {c d : Coding} (us begun after : List ℕ) (r : Ended) → c ≡ d → Ends (bytes_of d us) r begun after → Ends (bytes_of c us) r begun after
ends_as us begun after r e w = subst (λ (x : Coding). Ends (bytes_of x us) r begun after) (sym e) w

-- the coding that the code found, and the end of the call in it
pub chosen_found : (us : List ℕ) → Each (λ (u : ℕ). u < 0x10000) us → (s : Survey) (c : Coding) → s ≡ survey_from survey_none us → c ≡ chosen s (length us) → Chosen c us
chosen_found us small s c e f = subst (λ (x : Coding). Chosen x us) (sym (f ∙ ap (λ (y : Survey). chosen y (length us)) e)) (chosen_of us small)

pub chosen_ended :
    (c : Coding) (us : List ℕ) (r : Ended) (before after : List ℕ) → Chosen c us → Ends (bytes_of c us) r before after →
    (r ≡ fitted (writes us) (length before)) × (after ≡ laid (writes us) before)
chosen_ended c us r before after w e =
    (e.told ∙ ap (λ (s : List ℕ). fitted s (length before)) (sym w.is), e.left ∙ ap (λ (s : List ℕ). laid s before) (sym w.is))
