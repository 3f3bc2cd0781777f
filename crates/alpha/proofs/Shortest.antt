-- "The shortest coding, on a tie the first of default, 80, 81, 82, with the lowest base that serves".
-- Assumes nothing.
use Prim.Native.Nat.{ℕ, ◌+◌, ◌-◌, ◌*◌, ◌≤◌, ◌<◌}
use mathlib.Core.Path.{◌≡◌, refl, sym, ap, subst, ◌∙◌}
use mathlib.Core.Logic.{⊎_elim}
use mathlib.Core.Bool.{Bool, true, false, ◌&&◌}
use mathlib.Core.List.{List}
use mathlib.Core.Option.{Option, none, some}
use native.Mathlib.Omega.{arith}
use lib.ListN.{length}
use lib.Dec.{ltb, leb}
use borrow.Author.Tests.{lt-ltb, le-leb, ltb-true, ltb-false, leb-true}
use Rattle.rules.specs.Checks.{◌⇒◌else◌}
use Rattle.rules.proofs.Laws.{stop, skip, branch, both, both_left, both_right}
use Rattle.alpha.specs.Writes.{default_coding, pair_coding, serves, block_with, block_serves, block_of, block_coding, base_with, base_serves, highest, base_of, base_coding, shorter, first_or, writes, Form, by_default, by_pairs, by_block, by_base, order, Codes}
use Rattle.alpha.proofs.Codings.{block_size, base_size}
use Rattle.alpha.proofs.Surveys.{low_need, serves_bounds, bounds_serve, Needing, Plainly, needing}

-- what a block that serves says, and what makes one serve
block_parts : (b : ℕ) (us : List ℕ) → block_serves b us ≡ true → (length us ≤ 255) × (b < 256) × (128 * b ≤ low_need us) × (highest us < 128 * b + 128)
unfolding block_serves
block_parts b us e =
    let a = both_left (leb (length us) 255 && ltb b 256) (serves (128 * b) us) e in
    let l = leb-true (length us) 255 (both_left (leb (length us) 255) (ltb b 256) a) in
    let k = ltb-true b 256 (both_right (leb (length us) 255) (ltb b 256) a) in
    let w = serves_bounds (128 * b) us (omega arith) (both_right (leb (length us) 255 && ltb b 256) (serves (128 * b) us) e) in
    (l, k, w.0, w.1)

block_made : (b : ℕ) (us : List ℕ) → length us ≤ 255 → b < 256 → 128 * b ≤ low_need us → highest us < 128 * b + 128 → block_serves b us ≡ true
unfolding block_serves
block_made b us h k l m =
    both (leb (length us) 255 && ltb b 256) (serves (128 * b) us) (both (leb (length us) 255) (ltb b 256) (le-leb (length us) 255 h) (lt-ltb b 256 k)) (bounds_serve (128 * b) us l m)

-- where a block serves, the writer's does, and no lower one
pub lowest_block : (b : ℕ) (us : List ℕ) → block_serves b us ≡ true → (block_serves (block_of us) us ≡ true) × (block_of us ≤ b)
lowest_block b us e = let w = block_parts b us e in ⊎_elim (plain w) (some_need w) (needing us)
  where
    plain : (length us ≤ 255) × (b < 256) × (128 * b ≤ low_need us) × (highest us < 128 * b + 128) → Plainly us → (block_serves (block_of us) us ≡ true) × (block_of us ≤ b)
    plain w p = (block_made (block_of us) us w.0 (omega (arith, p.block)) (omega (arith, p.block, p.low)) (omega (arith, p.block, p.high)), omega (arith, p.block))

    some_need : (length us ≤ 255) × (b < 256) × (128 * b ≤ low_need us) × (highest us < 128 * b + 128) → Needing us → (block_serves (block_of us) us ≡ true) × (block_of us ≤ b)
    some_need w n =
        let z : block_of us ≡ b = omega (arith, n.block, n.low, n.high) in
        (ap (λ (x : ℕ). block_serves x us) z ∙ e, omega arith)

base_parts : (b : ℕ) (us : List ℕ) → base_serves b us ≡ true → (length us ≤ 255) × (b < 65536) × (b ≤ low_need us) × (highest us < b + 128)
unfolding base_serves
base_parts b us e =
    let a = both_left (leb (length us) 255 && ltb b 65536) (serves b us) e in
    let l = leb-true (length us) 255 (both_left (leb (length us) 255) (ltb b 65536) a) in
    let k = ltb-true b 65536 (both_right (leb (length us) 255) (ltb b 65536) a) in
    let w = serves_bounds b us (omega arith) (both_right (leb (length us) 255 && ltb b 65536) (serves b us) e) in
    (l, k, w.0, w.1)

-- where a base serves, the writer's does, and no lower one
pub lowest_base : (b : ℕ) (us : List ℕ) → base_serves b us ≡ true → (base_serves (base_of us) us ≡ true) × (base_of us ≤ b)
unfolding base_serves base_of
lowest_base b us e =
    let w = base_parts b us e in (
      both (leb (length us) 255 && ltb (highest us - 127) 65536) (serves (highest us - 127) us)
          (both (leb (length us) 255) (ltb (highest us - 127) 65536) (le-leb (length us) 255 w.0) (lt-ltb (highest us - 127) 65536 (omega arith)))
          (bounds_serve (highest us - 127) us (omega arith) (omega arith)),
      omega arith,
    )

-- of two codings the one that is kept is no longer than either
kept_first : (s : List ℕ) (o : Option (List ℕ)) → length (shorter s o) ≤ length s
unfolding shorter
kept_first s none = omega arith
kept_first s (some t) = branch (λ (r : List ℕ). length r ≤ length s) (ltb (length t) (length s)) t s (λ e. let k = ltb-true (length t) (length s) e in omega arith) (λ _. omega arith)

kept_second : (s t : List ℕ) (o : Option (List ℕ)) → o ≡ some t → length (shorter s o) ≤ length t
unfolding shorter
kept_second s t o e =
    subst (λ (x : Option (List ℕ)). length (shorter s x) ≤ length t) (sym e)
    (branch (λ (r : List ℕ). length r ≤ length t) (ltb (length t) (length s)) t s (λ _. omega arith) (λ f. ltb-false (length t) (length s) f))

first_default : (o : Option (List ℕ)) (s t : List ℕ) → o ≡ some s → length (first_or o t) ≤ length s
unfolding first_or
first_default o s t e =
    subst (λ (x : Option (List ℕ)). length (first_or x t) ≤ length s) (sym e)
    (branch (λ (r : List ℕ). length r ≤ length s) (ltb (length t) (length s)) t s (λ f. let k = ltb-true (length t) (length s) f in omega arith) (λ _. omega arith))

first_pairs : (o : Option (List ℕ)) (t : List ℕ) → length (first_or o t) ≤ length t
unfolding first_or
first_pairs none t = omega arith
first_pairs (some s) t = branch (λ (r : List ℕ). length r ≤ length t) (ltb (length t) (length s)) t s (λ _. omega arith) (λ f. ltb-false (length t) (length s) f)

-- the writer's own coding in 81, and in 82, where one serves
block_there : (b : ℕ) (us s : List ℕ) → Codes (by_block b) us s → (block_coding us ≡ some (block_with (block_of us) us)) × (length (block_with (block_of us) us) ≡ length s)
unfolding block_coding
block_there b us s c =
    let k = block_size b us in
    let m = block_size (block_of us) us in
    let n = ap length c.1 in
    (stop _ _ _ (lowest_block b us c.0).0, omega arith)

base_there : (b : ℕ) (us s : List ℕ) → Codes (by_base b) us s → (base_coding us ≡ some (base_with (base_of us) us)) × (length (base_with (base_of us) us) ≡ length s)
unfolding base_coding
base_there b us s c =
    let k = base_size b us in
    let m = base_size (base_of us) us in
    let n = ap length c.1 in
    (stop _ _ _ (lowest_base b us c.0).0, omega arith)

-- the first of default and pairs, then with 81, then with 82: how far each form reaches
module _ (us : List ℕ) where
  one : List ℕ
  one = first_or (default_coding us) (pair_coding us)

  two : List ℕ
  two = shorter one (block_coding us)

  three_is : writes us ≡ shorter two (base_coding us)
  unfolding writes one two
  three_is = refl

  one_short : (f : Form) (s : List ℕ) → Codes f us s → order f ≤ 1 → length one ≤ length s
  unfolding one order
  one_short by_default s c h = first_default (default_coding us) s (pair_coding us) c
  one_short by_pairs s c h = let k = first_pairs (default_coding us) (pair_coding us) in let n = ap length c in omega arith
  one_short (by_block b) s c h = absurd (let z : 2 ≤ 1 = h in omega arith)
  one_short (by_base b) s c h = absurd (let z : 3 ≤ 1 = h in omega arith)

  two_short : (f : Form) (s : List ℕ) → Codes f us s → order f ≤ 2 → length two ≤ length s
  unfolding two order
  two_short by_default s c h = let k = kept_first one (block_coding us) in let l = one_short by_default s c (omega arith) in omega arith
  two_short by_pairs s c h = let k = kept_first one (block_coding us) in let l = one_short by_pairs s c (omega arith) in omega arith
  two_short (by_block b) s c h = let w = block_there b us s c in let k = kept_second one (block_with (block_of us) us) (block_coding us) w.0 in omega arith
  two_short (by_base b) s c h = absurd (let z : 3 ≤ 2 = h in omega arith)

  -- no other coding of these units by the writer's rules is shorter
  pub shortest : (f : Form) (s : List ℕ) → Codes f us s → length (writes us) ≤ length s
  unfolding order
  shortest f s c = subst (λ (l : List ℕ). length l ≤ length s) (sym three_is) (by f c)
    where
      by : (g : Form) → Codes g us s → length (shorter two (base_coding us)) ≤ length s
      by by_default d = let k = kept_first two (base_coding us) in let l = two_short by_default s d (omega arith) in omega arith
      by by_pairs d = let k = kept_first two (base_coding us) in let l = two_short by_pairs s d (omega arith) in omega arith
      by (by_block b) d = let k = kept_first two (base_coding us) in let l = two_short (by_block b) s d (omega arith) in omega arith
      by (by_base b) d = let w = base_there b us s d in let k = kept_second two (base_with (base_of us) us) (base_coding us) w.0 in omega arith

-- no lower block, and no lower base, serves
abbrev pub Lowest : Form → List ℕ → Type 0
Lowest by_default us = Unit {0}
Lowest by_pairs us = Unit {0}
Lowest (by_block b) us = (c : ℕ) → block_serves c us ≡ true → b ≤ c
Lowest (by_base b) us = (c : ℕ) → base_serves c us ≡ true → b ≤ c

-- a form of the writer's coding, before which none of the shortest stands
pub record First (us : List ℕ) : Type 0 where
  pub form : Form
  pub lowest : Lowest form us
  pub codes : Codes form us (writes us)
  pub first : (f : Form) (s : List ℕ) → Codes f us s → length s ≡ length (writes us) → order form ≤ order f

module _ (us : List ℕ) where
  -- default, or pairs where it is longer or is not there
  at_one : writes us ≡ one us → First us
  unfolding one first_or order
  at_one e = by (default_coding us) refl
    where
      pairs_first : pair_coding us ≡ writes us → ((s : List ℕ) → default_coding us ≡ some s → length s ≡ length (writes us) → ⊥) → First us
      pairs_first p n = record { form = by_pairs; lowest = tt; codes = p; first = later }
        where
          later : (f : Form) (s : List ℕ) → Codes f us s → length s ≡ length (writes us) → 1 ≤ order f
          later by_default s c l = absurd (n s c l)
          later by_pairs s c l = omega arith
          later (by_block b) s c l = omega arith
          later (by_base b) s c l = omega arith

      by : (o : Option (List ℕ)) → default_coding us ≡ o → First us
      by none d =
          pairs_first (sym (e ∙ ap (λ (x : Option (List ℕ)). first_or x (pair_coding us)) d))
          (λ s c l. let z : none ≡ some s = sym d ∙ c in let y : ◌≡◌ {A = ℕ} 0 1 = cc in omega arith)
      by (some d) q = choose (ltb (length (pair_coding us)) (length d)) refl
        where
          is : writes us ≡ (ltb (length (pair_coding us)) (length d) ⇒ pair_coding us else d)
          is = e ∙ ap (λ (x : Option (List ℕ)). first_or x (pair_coding us)) q

          choose : (t : Bool) → ltb (length (pair_coding us)) (length d) ≡ t → First us
          choose true g =
              let p = is ∙ stop _ _ _ g in
              let k = ltb-true (length (pair_coding us)) (length d) g in
              pairs_first (sym p) (λ s c l. let z : some d ≡ some s = sym q ∙ c in let y : d ≡ s = cc in let a = ap length y in let b = ap length p in omega arith)
          choose false g =
              let p = is ∙ skip _ _ _ g in
              record { form = by_default; lowest = tt; codes = q ∙ ap some (sym p); first = λ f s c l. omega arith }

  block_served : (t : List ℕ) → block_coding us ≡ some t → Codes (by_block (block_of us)) us t
  unfolding block_coding
  block_served t e = by (block_serves (block_of us) us) refl
    where
      by : (b : Bool) → block_serves (block_of us) us ≡ b → Codes (by_block (block_of us)) us t
      by true g = let z : some (block_with (block_of us) us) ≡ some t = sym (stop _ _ _ g) ∙ e in let y : block_with (block_of us) us ≡ t = cc in (g, y)
      by false g = absurd (let z : none ≡ some t = sym (skip _ _ _ g) ∙ e in let y : ◌≡◌ {A = ℕ} 0 1 = cc in omega arith)

  base_served : (t : List ℕ) → base_coding us ≡ some t → Codes (by_base (base_of us)) us t
  unfolding base_coding
  base_served t e = by (base_serves (base_of us) us) refl
    where
      by : (b : Bool) → base_serves (base_of us) us ≡ b → Codes (by_base (base_of us)) us t
      by true g = let z : some (base_with (base_of us) us) ≡ some t = sym (stop _ _ _ g) ∙ e in let y : base_with (base_of us) us ≡ t = cc in (g, y)
      by false g = absurd (let z : none ≡ some t = sym (skip _ _ _ g) ∙ e in let y : ◌≡◌ {A = ℕ} 0 1 = cc in omega arith)

  -- 81 where it is shorter than those
  at_two : writes us ≡ two us → First us
  unfolding two shorter order
  at_two e = by (block_coding us) refl
    where
      by : (o : Option (List ℕ)) → block_coding us ≡ o → First us
      by none d = at_one (e ∙ ap (shorter (one us)) d)
      by (some t) d = choose (ltb (length t) (length (one us))) refl
        where
          is : writes us ≡ (ltb (length t) (length (one us)) ⇒ t else one us)
          is = e ∙ ap (shorter (one us)) d

          choose : (b : Bool) → ltb (length t) (length (one us)) ≡ b → First us
          choose false g = at_one (is ∙ skip _ _ _ g)
          choose true g = record { form = by_block (block_of us); lowest = λ c h. (lowest_block c us h).1; codes = subst (Codes (by_block (block_of us)) us) (sym p) (block_served t d); first = later }
            where
              p : writes us ≡ t
              p = is ∙ stop _ _ _ g

              shorter_one : (f : Form) (s : List ℕ) → Codes f us s → length s ≡ length (writes us) → order f ≤ 1 → ⊥
              shorter_one f s c l h = let k = one_short us f s c h in let m = ltb-true (length t) (length (one us)) g in let a = ap length p in omega arith

              later : (f : Form) (s : List ℕ) → Codes f us s → length s ≡ length (writes us) → 2 ≤ order f
              later by_default s c l = absurd (shorter_one by_default s c l (omega arith))
              later by_pairs s c l = absurd (shorter_one by_pairs s c l (omega arith))
              later (by_block b) s c l = omega arith
              later (by_base b) s c l = omega arith

  -- the writer's form is the first among the shortest; 82 where it is shorter than all before it
  pub first_shortest : First us
  unfolding shorter order
  first_shortest = by (base_coding us) refl
    where
      by : (o : Option (List ℕ)) → base_coding us ≡ o → First us
      by none d = at_two (three_is us ∙ ap (shorter (two us)) d)
      by (some t) d = choose (ltb (length t) (length (two us))) refl
        where
          is : writes us ≡ (ltb (length t) (length (two us)) ⇒ t else two us)
          is = three_is us ∙ ap (shorter (two us)) d

          choose : (b : Bool) → ltb (length t) (length (two us)) ≡ b → First us
          choose false g = at_two (is ∙ skip _ _ _ g)
          choose true g = record { form = by_base (base_of us); lowest = λ c h. (lowest_base c us h).1; codes = subst (Codes (by_base (base_of us)) us) (sym p) (base_served t d); first = later }
            where
              p : writes us ≡ t
              p = is ∙ stop _ _ _ g

              shorter_two : (f : Form) (s : List ℕ) → Codes f us s → length s ≡ length (writes us) → order f ≤ 2 → ⊥
              shorter_two f s c l h = let k = two_short us f s c h in let m = ltb-true (length t) (length (two us)) g in let a = ap length p in omega arith

              later : (f : Form) (s : List ℕ) → Codes f us s → length s ≡ length (writes us) → 3 ≤ order f
              later by_default s c l = absurd (shorter_two by_default s c l (omega arith))
              later by_pairs s c l = absurd (shorter_two by_pairs s c l (omega arith))
              later (by_block b) s c l = absurd (shorter_two (by_block b) s c l (omega arith))
              later (by_base b) s c l = omega arith
