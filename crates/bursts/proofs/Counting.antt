-- A burst as it is printed: how it ended, a blank in place of the line feed, and the count of what is left.
-- Assumes nothing.
use Prim.Native.Nat.{ℕ, ◌+◌, ◌-◌, ◌*◌, ◌≤◌, ◌<◌}
use mathlib.Core.Path.{◌≡◌, sym, ap, subst, ◌∙◌}
use mathlib.Core.List.{List, [], ◌∷◌, ◌++◌, append_assoc}
use native.Mathlib.Omega.{arith}
use lib.ListN.{length, set, length-append, length-set}
use lib.Seq.{set-set, append_snoc}
use Rattle.rules.specs.Checks.{◌⇒◌else◌}
use Rattle.rules.specs.State.{State}
use Rattle.rules.specs.Sound.{Sound}
use Rattle.rules.specs.Command.{lending}
use Rattle.rules.specs.Run.{commanding, step}
use Rattle.rules.specs.Lines.{printed, decimal}
use Rattle.rules.specs.Fetch as rules
use Rattle.rules.specs.Fetch.{fetch}
use Rattle.rules.proofs.Soundness.{step_sound}
use Rattle.rules.proofs.Fetch.{burst_cases}
use Rattle.octets.specs.Parts.{pasted}
use Rattle.octets.proofs.Pastes.{paste_after, length_pasted}
use Rattle.octets.proofs.Stores.{store_one}
use Rattle.session.specs.Picture.{GoodIn, shown}
use Rattle.session.proofs.Views.{shows_back}
use Rattle.rules.specs.Results.{response_cap}
use Rattle.text.specs.Sizes.{frame_cap, line_cap, short_line, decimal_cap}
use Rattle.text.specs.Prints.{count_of, outcome_of, line_of, Prints}
use Rattle.text.proofs.Bounds.{front_back, count_within}
use Rattle.text.proofs.Printing.{prints_after, prints_as, decimal_few}
use Rattle.fetch.specs.declared.Fetched.{Fetched}
use Rattle.fetch.specs.Gathers.{gathered_in, Fetches}
use Rattle.fetch.proofs.Records.{lacking_few, gathered_back, gathers_of}
use Rattle.bursts.specs.Bursts.{awaits_in, burst_said, Tells}

-- a character printed over the last one
prints_over :
    (s : List ℕ) (c d : ℕ) {out mid after : List ℕ} {at end r : ℕ} → Prints (s ++ c ∷ []) end out at mid → Prints (d ∷ []) r mid (end - 1) after → at + length s < length out →
    Prints (s ++ d ∷ []) r out at after
prints_over s c d {out = out} {at = at} {end = end} p q h =
    let e = pasted out at s in
    let k = at + length s in
    let n = length_pasted out at s (omega arith) in
    let u = length-set e k c in
    let l = length-append s (c ∷ []) in
    let m = length-append s (d ∷ []) in
    let z : end - 1 ≡ k = omega (arith, p.place) in
    record {
      stands =
          q.stands ∙ (λ i. pasted ((p.stands ∙ sym (paste_after out at s (omega arith) (c ∷ [])) ∙ sym (store_one e k c (omega arith))) i) (z i) (d ∷ []))
          ∙ sym (store_one (set e k c) k d (omega arith)) ∙ set-set e k c d ∙ store_one e k d (omega arith) ∙ paste_after out at s (omega arith) (d ∷ []);
      place = omega (arith, q.place);
    }

-- a burst keeps a sound state, and leaves no more than its bytes
pub record Leaving (f : rules.Fetched) (s : List ℕ) : Type 0 where
  pub sound : Sound f.answer.state
  pub few : length f.left ≤ length s

pub leaving : (a : State) (g s : List ℕ) → Sound a → Leaving (fetch a (lending response_cap) g s) s
unfolding fetch ◌⇒◌else◌ step
leaving a g s h =
    let behind : (t u : List ℕ) → s ≡ t ++ u → length u ≤ length s = λ t u e. let k = ap length e in let m = length-append t u in omega arith in
    burst_cases (λ (f : rules.Fetched). Leaving f s) a (lending response_cap) g s (record { sound = h; few = omega arith })
    (λ t u e i. record { sound = h; few = behind t u e })
    (λ t u e i. record { sound = step_sound a (commanding (lending response_cap) (g ++ t)) h; few = behind t u e })

module _ (t p g bytes : List ℕ) (y : GoodIn t p) (t' p' g' : List ℕ) (x : Fetched) (before reply : List ℕ) (size : length before ≡ response_cap)
    (w : Fetches (fetch (shown t p) (lending (length before)) (gathered_in g) bytes) t' p' g' x before reply) where
  abbrev f : rules.Fetched
  f = fetch (shown t p) (lending response_cap) (gathered_in g) bytes

  z : Fetches f t' p' g' x before reply
  z = subst (λ (n : ℕ). Fetches (fetch (shown t p) (lending n) (gathered_in g) bytes) t' p' g' x before reply) size w

  leaves : Leaving f bytes
  leaves = leaving (shown t p) (gathered_in g) bytes y.sound

  -- what was written stands in the buffer, and what is left has a decimal
  pub burst_count : count_of x.ended ≤ length reply
  burst_count = count_within _ x.ended before reply (z.leaves.answers.ended, z.leaves.answers.lent)

  pub burst_left : length bytes ≤ frame_cap → x.left < decimal_cap
  burst_left h = omega (arith, z.left, leaves.few)

  outcome : outcome_of x.ended reply ≡ f.answer.outcome
  outcome = (λ i. outcome_of (z.leaves.answers.ended i) (z.leaves.answers.lent i)) ∙ front_back f.answer.outcome before

  pub burst_tells :
      {out mid one two after : List ℕ} {at end blank behind r : ℕ} → at + line_cap ≤ length out → end ≤ at + 2 * response_cap + short_line →
      Prints (line_of (outcome_of x.ended reply)) end out at mid → Prints (32 ∷ []) blank mid (end - 1) one → Prints (decimal x.left) behind one blank two →
      Prints (10 ∷ []) r two behind after → Tells (burst_said (awaits_in t p g) bytes) t' p' g' r out at after
  unfolding burst_said
  burst_tells {out} {mid} {one} {two} {after} {at} {end} room few a b c d =
      let s = printed f.answer.outcome in
      let n = decimal (length f.left) in
      let l = length-append s (10 ∷ []) in
      let m = length-append s (32 ∷ []) in
      let v = length-append (s ++ 32 ∷ []) n in
      let q = prints_as (ap line_of outcome) a in
      let k = decimal_few (length f.left) in
      let front = prints_over s 10 32 q b (omega (arith, q.place)) in
      let counted = prints_after front (prints_as (ap decimal z.left) c) (omega (arith, q.place)) in
      let whole = prints_after counted d (omega (arith, q.place)) in
      let state = shows_back f.answer.state t' p' leaves.sound z.leaves.answers.shows in
      let short = lacking_few f.gathered z.leaves.lacks in
      let held = ap gathered_in z.leaves.gathered ∙ gathered_back f.gathered (omega arith) in
      record {
        good = z.leaves.answers.good;
        gathers = gathers_of g' f.gathered z.leaves.gathered z.leaves.lacks;
        kept = λ i. record { state = state i; gathered = held i };
        prints = prints_as (append_assoc (s ++ 32 ∷ []) n (10 ∷ []) ∙ append_snoc s 32 (n ++ 10 ∷ [])) whole;
      }
