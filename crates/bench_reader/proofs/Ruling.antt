-- The front of a response, up to what follows its result: the details, the devices, the result.
-- Assumes nothing.
use Prim.Native.Nat.{ℕ}
use mathlib.Core.Path.{◌≡◌, refl, sym, ap, subst, ◌∙◌}
use mathlib.Core.Bool.{true, false, ◌&&◌, false≢true}
use mathlib.Core.List.{List, [], ◌∷◌}
use native.Mathlib.Omega.{arith}
use lib.ListN.{length, get_or, drop}
use lib.Dec.{eqb}
use borrow.Author.Tests.{eq-eqb, eqb-true}
use Rattle.rules.specs.declared.Details.{Details}
use Rattle.rules.specs.Checks.{◌⇒◌else◌, member, same}
use Rattle.rules.specs.Frames.{Object, walk, written}
use Rattle.rules.specs.Reading.{details_in}
use Rattle.rules.specs.Own.{Result, error, problem, done}
use Rattle.rules.specs.Written.{details_bytes, result_bytes, result_objects, response_objects, response_bytes}
use Rattle.rules.specs.Bench.{error_proper, cause_proper, success_proper, result_proper, proper, value_at, further_in, result_in, response_in, bench_read, Told}
use Rattle.octets.specs.Parts.{part}
use Rattle.rules.proofs.Laws.{branch, both_left, each_member}
use Rattle.std.specs.Prelude.{Option, None}
use Rattle.bench_reader.specs.declared.Further.{Further}
use Rattle.bench_reader.specs.declared.Response as heard
use Rattle.bench_reader.specs.declared.Verdict.TheVariants.{Error, Problem, Done}
use Rattle.bench_reader.specs.Heard.{result_of}
use Rattle.bench_reader.specs.Tails.{Holds, object_with, Absent, Misfit, Valued, Bytes, checked, resulted, followed, Leads, Hears}
use Rattle.bench_reader.proofs.Standing.{named, same_object, same_behind, byte_there, three_there, and_true, silent, hears_none, hears_as, step, step_on}
use Rattle.bench_reader.proofs.Results.{successes, no_success}

-- the result that a byte is taken for
abbrev Taken : Details → ℕ → List ℕ → Told → Result → Type 0
Taken d x t u y = checked (result_proper d y && same (result_bytes y) (x ∷ [])) (result_objects y) t (record { details = d; result = y }) ≡ u

module _ (d : Details) {s : List ℕ} {at : ℕ} {v : List ℕ} {next : ℕ} (w : Bytes s at 0x03 true 1 v next) where
  abbrev x : ℕ
  x = get_or v 0 0

  by_byte :
      (u : Told) → let t = drop next s in
      (x ≡ 0x3A → Taken d x t u (problem 0)) → (member x successes ≡ true → Taken d x t u (done x (further_in d (walk t).objects))) →
      (member x successes ≡ false → Taken d x t u (error x)) → resulted d (drop at s) ≡ u
  unfolding resulted result_in value_at
  by_byte u a b c =
      let h = byte_there w in
      let P : Result → Type 0 = Taken d x (drop next s) u in
      rw h.walked (step h (named (omega arith)) _ _ _ _)
      ∙ branch P (eqb x 0x3A) _ _ (λ q. a (eqb-true x 0x3A q)) (λ _. branch P (member x successes) _ _ b c)

  pub success_fits : success_proper d.kind x ≡ true → resulted d (drop at s) ≡ followed d d.kind x (drop next s)
  unfolding followed success_proper result_proper result_bytes result_objects ◌⇒◌else◌ same
  success_fits p =
      by_byte _
      (λ q. absurd (false≢true (subst (λ (k : ℕ). success_proper d.kind k ≡ true) q p)))
      (λ _. rw (p, eq-eqb x x refl, and_true))
      (λ n. absurd (false≢true (sym (no_success d.kind x n) ∙ p)))

  pub error_fits :
      {r : Option heard.Response} → error_proper d x ≡ true → Hears (checked true [] (drop next s) (record { details = d; result = result_of (Error x) s })) s r →
      Hears (resulted d (drop at s)) s r
  unfolding error_proper result_proper result_bytes result_objects ◌⇒◌else◌ same result_of
  error_fits p =
      hears_as (by_byte _
      (λ q. absurd (false≢true (subst (λ (k : ℕ). error_proper d k ≡ true) q p)))
      (λ o. absurd (false≢true (sym (each_member (λ (k : ℕ). error_proper d k ≡ false) x successes (refl, (refl, (refl, (refl, tt)))) o) ∙ p)))
      (λ _. rw (p, eq-eqb x x refl)))

-- what the end of the bytes says behind a success
pub leads_on :
    {t u : Told} (d : Details) (x : ℕ) {s : List ℕ} {f : Further} {end : ℕ} {r : Option heard.Response} → t ≡ u → Leads u d x s f end →
    Hears (checked true [] (drop end s) (record { details = d; result = result_of (Done x f) s })) s r → Hears t s r
unfolding result_of
leads_on d x e h = hears_as (e ∙ h.is)

-- no result, and one of another length or that does not fit
module _ (d : Details) {s : List ℕ} {at : ℕ} where
  pub result_missed : Absent s at 0x03 true → Hears (resulted d (drop at s)) s None
  unfolding resulted
  result_missed m = hears_none (silent _ _ _ _ (λ _ q. m.never _ _ q))

  pub result_unfit :
      {start k next : ℕ} → Valued s at 0x03 true start k next → let v = part start next s in
      (length v ≡ 1 → (success_proper d.kind (get_or v 0 0) ≡ false) × (error_proper d (get_or v 0 0) ≡ false)) →
      (length v ≡ 2 → get_or v 0 0 ≡ 0x3A → cause_proper d.kind (get_or v 1 0) ≡ false) → Hears (resulted d (drop at s)) s None
  unfolding resulted result_proper result_bytes
  result_unfit {start} {k} {next} w f g =
      let v = part start next s in
      hears_none (silent _ _ _ _ (λ t q.
      let is = ap (λ (o : Object). o.value) (same_object (drop at s) _ _ (named (omega arith)) q w.holds.is) in
      by v f g _ t (is ∙ ap (λ (e : ℕ). part start e s) (sym w.ends))))
    where
      by :
          (v : List ℕ) → (length v ≡ 1 → (success_proper d.kind (get_or v 0 0) ≡ false) × (error_proper d (get_or v 0 0) ≡ false)) →
          (length v ≡ 2 → get_or v 0 0 ≡ 0x3A → cause_proper d.kind (get_or v 1 0) ≡ false) → (y : Result) → result_proper d y ≡ true → result_bytes y ≡ v → ⊥
      by v f g (error e) t q = let n = f (sym (ap length q)) in false≢true (sym n.1 ∙ ap (λ (l : List ℕ). error_proper d (get_or l 0 0)) (sym q) ∙ t)
      by v f g (problem c) t q =
          false≢true (sym (g (sym (ap length q)) (ap (λ (l : List ℕ). get_or l 0 0) (sym q))) ∙ ap (λ (l : List ℕ). cause_proper d.kind (get_or l 1 0)) (sym q) ∙ t)
      by v f g (done x h) t q =
          let n = f (sym (ap length q)) in
          false≢true (sym n.0 ∙ ap (λ (l : List ℕ). success_proper d.kind (get_or l 0 0)) (sym q) ∙ both_left _ _ t)

pub problem_fits :
    (d : Details) {s : List ℕ} {at x c next : ℕ} {r : Option heard.Response} → Holds s at (object_with 0x03 true (x ∷ c ∷ [])) next → x ≡ 0x3A → cause_proper d.kind c ≡ true →
    Hears (checked true [] (drop next s) (record { details = d; result = result_of (Problem c) s })) s r → Hears (resulted d (drop at s)) s r
unfolding resulted value_at result_in result_proper result_bytes result_objects ◌⇒◌else◌ result_of
problem_fits d {c = c} h f g = hears_as (rw h.walked (rw (f, g) (step_on h (named (omega arith)) _ _ _ (λ i. sym f i ∷ c ∷ []))))

-- the details and the devices
bench_checked : (s : List ℕ) → let r = response_in s in bench_read s ≡ checked (proper r) (response_objects r) s r
unfolding bench_read response_bytes checked
bench_checked s = refl

pub details_missed : (s : List ℕ) → Misfit s 0 0x01 true 3 → Hears (bench_read s) s None
unfolding response_objects details_bytes
details_missed s m = hears_none (bench_checked s ∙ silent _ _ _ _ (λ _ q. m.never _ _ refl q))

module _ (s : List ℕ) {v : List ℕ} {at : ℕ} (u : Bytes s 0 0x01 true 3 v at) where
  devices_other : ((os : List Object) → drop at s ≡ written (object_with 0x02 true (0x82 ∷ 0x81 ∷ []) ∷ os) → ⊥) → Hears (bench_read s) s None
  unfolding response_objects
  devices_other k = hears_none (bench_checked s ∙ silent _ _ _ _ (λ _ o. k _ (sym (same_behind s _ _ (named (omega arith)) o u.holds.is))))

  pub devices_missed : Misfit s at 0x02 true 2 → Hears (bench_read s) s None
  devices_missed m = devices_other (λ os o. m.never _ _ refl o)

  module _ {x y next : ℕ} (h : Holds s at (object_with 0x02 true (x ∷ y ∷ [])) next) where
    pub devices_unfit : ((x ≡ 0x82) × (y ≡ 0x81) → ⊥) → Hears (bench_read s) s None
    devices_unfit k =
        devices_other (λ os o.
        let z = ap (λ (p : Object). p.value) (same_object (drop at s) _ _ (named (omega arith)) o h.is) in
        k (cc, cc))

    pub devices_fit :
        {r : Option heard.Response} → x ≡ 0x82 → y ≡ 0x81 → Hears (resulted (record { number = get_or v 0 0; kind = get_or v 1 0; qualifier = get_or v 2 0 }) (drop next s)) s r →
        Hears (bench_read s) s r
    unfolding response_in proper response_objects details_in details_bytes resulted value_at
    devices_fit a b =
        let d = three_there u in
        hears_as (bench_checked s ∙ rw d.walked (rw h.walked (step_on d (named (omega arith)) _ _ _ refl ∙ step_on h (named (omega arith)) _ _ _ (λ i. sym a i ∷ sym b i ∷ []))))
