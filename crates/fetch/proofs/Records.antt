-- The gathered record: its picture read back, bytes put behind those that it has, its count, and all of it cleared.
-- Assumes nothing.
use Prim.Native.Nat.{ℕ, ◌+◌, ◌-◌, ◌≤◌, ◌<◌}
use mathlib.Core.Path.{◌≡◌, refl, sym, ap, subst, ◌∙◌}
use mathlib.Core.Bool.{true, true≢false}
use mathlib.Core.List.{List, [], ◌∷◌, ◌++◌}
use native.Mathlib.Omega.{arith}
use native.Mathlib.Nat.{zero-add}
use lib.ListN.{length, get_or, take, set, replicate, length-append, length-take}
use lib.Seq.{length-take-le, take_at, get_or_at, set_at, take-append-le}
use Rattle.rules.specs.declared.Stage.{Stage}
use Rattle.rules.specs.declared.Stage.TheVariants.{Lacks, Overlong, Decided}
use Rattle.rules.specs.Checks.{◌⇒◌else◌, is_empty}
use Rattle.rules.specs.Fetch.{stage, Means}
use Rattle.rules.proofs.Stages.{stage_means, lacks_within}
use Rattle.octets.specs.Parts.{pasted, cleared, pad}
use Rattle.octets.proofs.Pastes.{length_pad}
use Rattle.session.proofs.Regions.{way_put}
use Rattle.session.proofs.Starts.{over_all}
use Rattle.fetch.specs.Gathers.{count_at, gathered_size, gathered_of, gathered_in, is_lacking, Gathers, Partial}

-- bytes that lack some are fewer than 256
lacking_fits : (g : List ℕ) (k : Stage) → Means k g → is_lacking k ≡ true → length g < count_at
unfolding is_lacking
lacking_fits g (Lacks n) m e =
    let w = lacks_within g n m in
    let s = m.some in omega (arith, w, s)
lacking_fits g Overlong m e = absurd (true≢false (sym e))
lacking_fits g Decided m e = absurd (true≢false (sym e))

pub lacking_few : (g : List ℕ) → is_lacking (stage g) ≡ true → length g < count_at
lacking_few g e = lacking_fits g (stage g) (stage_means g) e

-- nothing gathered lacks some
pub none_lacks : is_lacking (stage []) ≡ true
unfolding stage is_empty is_lacking ◌⇒◌else◌
none_lacks = refl

-- the front of a padded list, and the number behind it
front_of_lem : (g : List ℕ) (c : ℕ) → length g ≤ count_at → take (length g) (pad count_at g ++ c ∷ []) ≡ g
unfolding pad
front_of_lem g c h = take-append-le (length g) (pad count_at g) (c ∷ []) (let e = length_pad count_at g h in omega (arith, e, h)) ∙ take_at g (replicate (count_at - length g) 0) (length g) refl

last_of : (g : List ℕ) (c : ℕ) → length g ≤ count_at → get_or (pad count_at g ++ c ∷ []) count_at 0 ≡ c
last_of g c h = get_or_at (pad count_at g) c [] 0 count_at (length_pad count_at g h)

-- the bytes are read back from their record
pub gathered_back : (g : List ℕ) → length g ≤ count_at → gathered_in (gathered_of g) ≡ g
unfolding gathered_in gathered_of
gathered_back g h = ap (λ (k : ℕ). take k (pad count_at g ++ length g ∷ [])) (last_of g (length g) h) ∙ front_of_lem g (length g) h

-- the record of bytes that lack some came from its start and from bursts
pub gathers_of : (r g : List ℕ) → r ≡ gathered_of g → is_lacking (stage g) ≡ true → Gathers r
gathers_of r g e l =
    let w = lacking_few g l in
    let back = ap gathered_in e ∙ gathered_back g (omega (arith, w)) in
    record { is = e ∙ ap gathered_of (sym back); lacks = ap (λ (x : List ℕ). is_lacking (stage x)) back ∙ l }

-- bytes, zeros behind them and a last number, within a burst
stands_as : (r g : List ℕ) (c : ℕ) → r ≡ pad count_at g ++ c ∷ [] → length g ≤ count_at → Partial r (length g)
stands_as r g c e h =
    let front = ap (take (length g)) e ∙ front_of_lem g c h in
    let last = ap (λ (x : List ℕ). get_or x count_at 0) e ∙ last_of g c h in
    record { fits = h; is = e ∙ (λ i. pad count_at (sym front i) ++ sym last i ∷ []) }

-- a record that gathers
pub gathers_stand : (r : List ℕ) → Gathers r → Partial r (get_or r count_at 0)
unfolding gathered_in gathered_of
gathers_stand r h =
    let g = gathered_in r in
    let w = lacking_few g h.lacks in
    let last = ap (λ (x : List ℕ). get_or x count_at 0) h.is ∙ last_of g (length g) (omega (arith, w)) in
    subst (Partial r) (sym last) (stands_as r g (length g) h.is (omega (arith, w)))

module _ (r : List ℕ) (count : ℕ) (h : Partial r count) where
  front_fits : length (take count r) ≤ count_at
  front_fits =
      let k = length-take count r in
      let f = h.fits in omega (arith, k, f)

  pub stands_size : length r ≡ gathered_size
  stands_size =
      let k = length-append (pad count_at (take count r)) (get_or r count_at 0 ∷ []) in
      let j = length_pad count_at (take count r) front_fits in
      let e = ap length h.is in omega (arith, k, j, e)

  pub front_length : length (take count r) ≡ count
  front_length =
      let s = stands_size in
      let f = h.fits in length-take-le count r (omega (arith, s, f))

  -- with its count it is the record of its bytes
  pub stands_counted : set r count_at count ≡ gathered_of (take count r)
  unfolding gathered_of
  stands_counted =
      ap (λ (x : List ℕ). set x count_at count) h.is ∙ set_at (pad count_at (take count r)) (get_or r count_at 0) [] count count_at (length_pad count_at (take count r) front_fits)
      ∙ ap (λ (k : ℕ). pad count_at (take count r) ++ k ∷ []) (sym front_length)

  -- bytes put behind those that it has
  pub stands_on : (t : List ℕ) → count + length t ≤ count_at → Partial (pasted r count t) (count + length t)
  stands_on t f =
      let g = take count r in
      let c = get_or r count_at 0 in
      let n = front_length in
      let k = length-append g t in
      let put : pasted r count t ≡ pad count_at (g ++ t) ++ c ∷ [] =
      (λ i. pasted (h.is i) (sym n i) t) ∙ ap (λ (m : ℕ). pasted (pad count_at g ++ c ∷ []) m t) (sym (zero-add (length g)))
      ∙ way_put [] g (c ∷ []) 0 count_at refl t (omega (arith, n, f)) in
      let all : length (g ++ t) ≡ count + length t = omega (arith, k, n) in
      subst (Partial (pasted r count t)) all (stands_as (pasted r count t) (g ++ t) c put (omega (arith, all, f)))

-- all of it cleared
pub record_cleared : (r : List ℕ) → length r ≡ gathered_size → cleared r 0 gathered_size ≡ gathered_of []
unfolding cleared gathered_of pad
record_cleared r h = over_all r (replicate gathered_size 0) h
