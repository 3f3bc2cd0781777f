-- What the outer head of gathered bytes tells: whether they can still be a command, and how many bytes are lacking at least.
-- Assumes nothing.
use Prim.Native.Nat.{ℕ, suc, ◌+◌, ◌-◌, ◌≤◌, ◌<◌}
use mathlib.Core.Path.{◌≡◌, refl, sym, ap, subst, ◌∙◌}
use mathlib.Core.Bool.{Bool, true, false, ◌&&◌, true≢false, false≢true}
use mathlib.Core.List.{List, [], ◌∷◌, ◌++◌, append-nil}
use native.Mathlib.Omega.{arith}
use lib.ListN.{length, replicate, length-append, length-replicate}
use lib.Dec.{ltb, eqb}
use borrow.Author.Tests.{ltb-true, ltb-false, eqb-true, eqb-false, le-ltb, eq-eqb, ne_eqb, not-true}
use Rattle.rules.specs.declared.Stage.{Stage}
use Rattle.rules.specs.declared.Stage.TheVariants.{Lacks, Overlong, Decided}
use Rattle.rules.specs.Checks.{◌⇒◌else◌, is_empty, same}
use Rattle.rules.specs.Frames.{LengthRead, len, no_length, long_length, length_at, fills, framed}
use Rattle.rules.specs.Fetch.{length_to_come, lacking_by, stage_by, stage, Lacking, TooLong, Means}
use Rattle.rules.proofs.Laws.{branch, stop, skip, both_left, and-false, not_not}

-- a length that was read, with more bytes behind it
unfoldable onto : LengthRead → List ℕ → LengthRead
onto no_length u = no_length
onto (len n r) u = len n (r ++ u)

long_onto : (c d : ℕ) (r u : List ℕ) → long_length (d ∷ r ++ u) ≡ onto (long_length (d ∷ r)) u
unfolding long_length onto
long_onto c d r u = branch (λ (x : LengthRead). long_length (d ∷ r ++ u) ≡ onto x u) _ _ _ (λ e. stop _ _ _ e) (λ e. skip _ _ _ e)

-- behind 81 a byte is here
behind_81 : (c : ℕ) (r u : List ℕ) → length_to_come (c ∷ r) ≡ false → eqb c 0x81 ≡ true → long_length (r ++ u) ≡ onto (long_length r) u
unfolding length_to_come is_empty same
behind_81 c [] u h e = absurd (true≢false (ap (λ (b : Bool). b && true) (sym e) ∙ h))
behind_81 c (d ∷ r) u h e = long_onto c d r u

-- a length that is no longer to come is read alike, whatever follows
length_onto : (t u : List ℕ) → length_to_come t ≡ false → length_at (t ++ u) ≡ onto (length_at t) u
unfolding length_at onto length_to_come is_empty
length_onto [] u h = absurd (true≢false h)
length_onto (c ∷ r) u h =
    branch (λ (x : LengthRead). length_at (c ∷ r ++ u) ≡ onto x u) _ _ _ (λ e. stop _ _ _ e)
    (λ e. skip _ _ _ e ∙ branch (λ (x : LengthRead). (eqb c 0x81 ⇒ long_length (r ++ u) else no_length) ≡ onto x u) _ _ _ (λ f. stop _ _ _ f ∙ behind_81 c r u h f) (λ f. skip _ _ _ f))

pub some_length : (u : List ℕ) → is_empty u ≡ false → 1 ≤ length u
unfolding is_empty
some_length [] e = absurd (true≢false e)
some_length (c ∷ u) e = omega arith

-- behind D0 and a length, bytes are a command where there are as many as the length says
frame_onto : (b : ℕ) (t u : List ℕ) → eqb b 0xD0 ≡ true → length_to_come t ≡ false → framed (b ∷ t ++ u) ≡ fills (onto (length_at t) u)
unfolding framed
frame_onto b t u e h = ap (λ (x : Bool). x && fills (length_at (t ++ u))) e ∙ ap fills (length_onto t u h)

other_first : (b : ℕ) (t u : List ℕ) → eqb b 0xD0 ≡ false → framed (b ∷ t ++ u) ≡ false
unfolding framed
other_first b t u e = ap (λ (x : Bool). x && fills (length_at (t ++ u))) e

-- a length of n, with r behind it
module _ (b : ℕ) (t : List ℕ) (n : ℕ) (r : List ℕ) (is : (u : List ℕ) → framed (b ∷ t ++ u) ≡ eqb n (length (r ++ u))) where
  enough_means : eqb (n - length r) 0 ≡ true → Means Decided (b ∷ t)
  enough_means z u i =
      let k = length-append r u in
      let j = some_length u i in
      let m = eqb-true (n - length r) 0 z in is u ∙ ne_eqb n (length (r ++ u)) (λ e. omega (arith, e, k, j, m))

  -- as many zeros as are lacking make it whole
  lacking_whole : eqb (n - length r) 0 ≡ false → framed (b ∷ t ++ replicate (n - length r) 0) ≡ true
  lacking_whole z =
      let u = replicate {A = ℕ} (n - length r) 0 in
      let k = length-append r u in
      let j = length-replicate {A = ℕ} (n - length r) 0 in
      let m = eqb-false (n - length r) 0 z in
      let e : n ≡ length (r ++ u) = omega (arith, k, j, m) in is u ∙ eq-eqb n (length (r ++ u)) e

  past_means : eqb (n - length r) 0 ≡ false → ltb 256 (suc (length t) + (n - length r)) ≡ true → TooLong (b ∷ t)
  past_means z x =
      record {
        further = replicate (n - length r) 0;
        whole = lacking_whole z;
        past =
            λ u f.
            let e = eqb-true n (length (r ++ u)) (sym (is u) ∙ f) in
            let k = length-append r u in
            let j = length-append t u in
            let y = ltb-true 256 (suc (length t) + (n - length r)) x in omega (arith, e, k, j, y);
      }

  lacking_means : eqb (n - length r) 0 ≡ false → ltb 256 (suc (length t) + (n - length r)) ≡ false → Lacking (n - length r) (b ∷ t)
  lacking_means z x =
      let m = eqb-false (n - length r) 0 z in
      record {
        further = replicate (n - length r) 0;
        whole = lacking_whole z;
        within =
            let j = length-append t (replicate (n - length r) 0) in
            let k = length-replicate {A = ℕ} (n - length r) 0 in
            let y = ltb-false 256 (suc (length t) + (n - length r)) x in omega (arith, j, k, y);
        some = omega (arith, m);
        least = λ u f. let k = length-append r u in is u ∙ ne_eqb n (length (r ++ u)) (λ e. omega (arith, e, k, f));
      }

length_means :
    (b : ℕ) (t : List ℕ) → eqb b 0xD0 ≡ true → length_to_come t ≡ false → (l : LengthRead) → length_at t ≡ l → Means (stage_by (suc (length t)) l) (b ∷ t)
unfolding lacking_by stage_by fills onto
length_means b t e h no_length q = λ u _. frame_onto b t u e h ∙ ap (λ (x : LengthRead). fills (onto x u)) q
length_means b t e h (len n r) q =
    let is : (u : List ℕ) → framed (b ∷ t ++ u) ≡ eqb n (length (r ++ u)) = λ u. frame_onto b t u e h ∙ ap (λ (x : LengthRead). fills (onto x u)) q in
    branch (λ (x : Stage). Means x (b ∷ t)) _ _ _ (enough_means b t n r is)
    (λ z. branch (λ (x : Stage). Means x (b ∷ t)) _ _ _ (past_means b t n r is z) (lacking_means b t n r is z))

-- bytes that are no command lack one at least
least_one : (s : List ℕ) → framed (s ++ []) ≡ false → (t : List ℕ) → length t < 1 → framed (s ++ t) ≡ false
least_one s h [] f = h
least_one s h (c ∷ t) f = absurd (omega (arith, f))

-- 81 alone
alone_81 : (c : ℕ) (t : List ℕ) → same (c ∷ t) (0x81 ∷ []) ≡ true → c ∷ t ≡ 0x81 ∷ []
unfolding same
alone_81 c [] h = ap (λ (k : ℕ). k ∷ []) (eqb-true c 0x81 (both_left (eqb c 0x81) true h))
alone_81 c (d ∷ t) h = absurd (false≢true (sym (and-false (eqb c 0x81)) ∙ h))

d0_81_lacks : Lacking 1 (0xD0 ∷ 0x81 ∷ [])
unfolding framed length_at long_length fills ◌⇒◌else◌
d0_81_lacks =
    record {
      further = 0x80 ∷ replicate 0x80 0;
      whole = refl;
      within = omega arith;
      some = omega arith;
      least = least_one (0xD0 ∷ 0x81 ∷ []) refl;
    }

d0_lacks : Lacking 1 (0xD0 ∷ [])
unfolding framed length_at fills ◌⇒◌else◌
d0_lacks = record { further = 0x00 ∷ []; whole = refl; within = omega arith; some = omega arith; least = least_one (0xD0 ∷ []) refl }

none_lacks : Lacking 1 []
unfolding framed length_at fills ◌⇒◌else◌
none_lacks = record { further = 0xD0 ∷ 0x00 ∷ []; whole = refl; within = omega arith; some = omega arith; least = least_one [] refl }

-- nothing of the length is here, or 81 alone
to_come_lacks : (t : List ℕ) → length_to_come t ≡ true → Lacking 1 (0xD0 ∷ t)
unfolding length_to_come is_empty
to_come_lacks [] h = d0_lacks
to_come_lacks (c ∷ t) h = subst (λ (x : List ℕ). Lacking 1 (0xD0 ∷ x)) (sym (alone_81 c t h)) d0_81_lacks

-- the outer head tells what the bytes can be
pub stage_means : (s : List ℕ) → Means (stage s) s
unfolding stage is_empty ◌⇒◌else◌
stage_means [] = none_lacks
stage_means (b ∷ t) =
    branch (λ (x : Stage). Means x (b ∷ t)) _ _ _
    (λ e u _. other_first b t u (not-true (eqb b 0xD0) e))
    (λ e.
    let first = not_not (eqb b 0xD0) e in
    branch (λ (x : Stage). Means x (b ∷ t)) _ _ _ (λ h. subst (λ (k : ℕ). Lacking 1 (k ∷ t)) (sym (eqb-true b 0xD0 first)) (to_come_lacks t h))
    (λ h. length_means b t first h (length_at t) refl))

-- the count that is lacking, and 0 where none is
unfoldable lacking_in : Stage → ℕ
lacking_in (Lacks n) = n
lacking_in Overlong = 0
lacking_in Decided = 0

and_true : (b : Bool) → b && true ≡ b
and_true true = refl
and_true false = refl

to_come_onto : (t u : List ℕ) → length_to_come t ≡ false → length_to_come (t ++ u) ≡ false
unfolding length_to_come is_empty same
to_come_onto [] u h = absurd (true≢false h)
to_come_onto (c ∷ []) u h = ap (λ (b : Bool). b && same u []) (sym (and_true (eqb c 0x81)) ∙ h)
to_come_onto (c ∷ d ∷ t) u h = and-false (eqb c 0x81)

none_lacking : (n k : ℕ) → 0 ≡ n → k < n → ⊥
none_lacking n k z h = omega (arith, z, h)

more_by :
    (k : ℕ) (l : LengthRead) (n : ℕ) (u : List ℕ) → stage_by k l ≡ Lacks n → length u < n → stage_by (k + length u) (onto l u) ≡ Lacks (n - length u)
unfolding lacking_by stage_by onto lacking_in
more_by k no_length n u e h = absurd (none_lacking n (length u) (ap lacking_in e) h)
more_by k (len m r) n u e h =
    let Q : Stage → Type 0 = λ (x : Stage). x ≡ Lacks n → stage_by (k + length u) (onto (len m r) u) ≡ Lacks (n - length u) in
    branch Q _ _ _ (λ _ q. absurd (none_lacking n (length u) (ap lacking_in q) h))
    (λ _.
    branch Q _ _ _ (λ _ q. absurd (none_lacking n (length u) (ap lacking_in q) h))
    (λ w q.
    let z : m - length r ≡ n = ap lacking_in q in
    let j = length-append r u in
    let v = ltb-false 256 (k + (m - length r)) w in
    let y : m - length (r ++ u) ≡ n - length u = omega (arith, z, j) in
    skip _ _ _ (ne_eqb (m - length (r ++ u)) 0 (λ x. omega (arith, x, y, h)))
    ∙ skip _ _ _ (le-ltb 256 (k + length u + (m - length (r ++ u))) (omega (arith, y, h, v, z))) ∙ ap Lacks y))
    e

one_more_lem : (s u : List ℕ) (n : ℕ) → stage s ≡ Lacks 1 → Lacks 1 ≡ Lacks n → length u < n → stage (s ++ u) ≡ Lacks (n - length u)
unfolding lacking_in
one_more_lem s [] n e q h =
    let z : 1 ≡ n = ap lacking_in q in
    let m : 1 ≡ n - 0 = omega (arith, z) in ap stage (append-nil s) ∙ e ∙ ap Lacks m
one_more_lem s (b ∷ u) n e q h = let z : 1 ≡ n = ap lacking_in q in absurd (omega (arith, z, h))

-- with fewer bytes than are lacking, so many fewer are lacking
pub stage_more : (s u : List ℕ) (n : ℕ) → stage s ≡ Lacks n → length u < n → stage (s ++ u) ≡ Lacks (n - length u)
unfolding stage is_empty lacking_in
stage_more [] u n e h = one_more_lem [] u n (stop _ _ _ refl) (sym (stop _ _ _ refl) ∙ e) h
stage_more (b ∷ t) u n e h =
    branch (λ (x : Stage). x ≡ Lacks n → stage (b ∷ t ++ u) ≡ Lacks (n - length u)) _ _ _
    (λ _ q. absurd (none_lacking n (length u) (ap lacking_in q) h))
    (λ first.
    branch (λ (x : Stage). x ≡ Lacks n → stage (b ∷ t ++ u) ≡ Lacks (n - length u)) _ _ _
    (λ come q. one_more_lem (b ∷ t) u n (skip _ _ _ refl ∙ skip _ _ _ first ∙ stop _ _ _ come) q h)
    (λ come q.
    let k : suc (length t) + length u ≡ length (b ∷ t ++ u) = let j = length-append t u in omega (arith, j) in
    skip _ _ _ refl ∙ skip _ _ _ first ∙ skip _ _ _ (to_come_onto t u come) ∙ ap (stage_by (length (b ∷ t ++ u))) (length_onto t u come)
    ∙ ap (λ (m : ℕ). stage_by m (onto (length_at t) u)) (sym k) ∙ more_by (suc (length t)) (length_at t) n u q h))
    (sym (skip _ _ _ refl) ∙ e)

-- what is lacking fits 256 bytes
pub lacks_within : (s : List ℕ) (n : ℕ) → Lacking n s → length s + n ≤ 256
lacks_within s n m = by (ltb (length m.further) n) refl
  where
    by : (b : Bool) → ltb (length m.further) n ≡ b → length s + n ≤ 256
    by true e = absurd (false≢true (sym (m.least m.further (ltb-true (length m.further) n e)) ∙ m.whole))
    by false e =
        let k = length-append s m.further in
        let j = ltb-false (length m.further) n e in
        let w = m.within in omega (arith, k, j, w)
