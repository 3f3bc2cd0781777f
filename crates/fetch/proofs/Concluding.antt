-- What gathered bytes come to, as the code leaves it: kept, dropped with R2, or handed to the command call; and the whole burst.
-- Assumes nothing.
use Prim.Native.Nat.{ℕ, ◌+◌, ◌-◌, ◌≤◌, ◌<◌}
use mathlib.Core.Path.{◌≡◌, refl, sym, ap, subst, ◌∙◌}
use mathlib.Core.List.{List, [], ◌++◌}
use native.Mathlib.Omega.{arith}
use lib.ListN.{length, get_or, take, drop, set, length-drop}
use borrow.Author.Tests.{lt-ltb}
use Rattle.rules.specs.declared.Refusal.TheVariants.{ShortBuffer, CommandSize}
use Rattle.rules.specs.declared.Stage.{Stage}
use Rattle.rules.specs.declared.Stage.TheVariants.{Lacks, Overlong, Decided}
use Rattle.rules.specs.State.{State}
use Rattle.rules.specs.Command.{command, Terms, lending}
use Rattle.rules.specs.Fetch as rules
use Rattle.rules.specs.Fetch.{stage, fetch}
use Rattle.rules.proofs.Laws.{stop}
use Rattle.octets.specs.Parts.{pasted, cleared}
use Rattle.octets.proofs.Pastes.{take_pasted}
use Rattle.rules.specs.Words.{Ended}
use Rattle.std.specs.Prelude.{Ok, Err}
use Rattle.session.specs.Picture.{GoodIn, shown}
use Rattle.session.specs.Calls.{Answers}
use Rattle.session.proofs.Answers.{refuse_answers, quiet_answers}
use Rattle.fetch.specs.declared.Fetched.{Fetched}
use Rattle.fetch.specs.Gathers.{count_at, gathered_size, gathered_of, gathered_in, is_lacking, Gathers, Partial, brought, concluded, Leaves, Fetches}
use Rattle.fetch.proofs.Records.{lacking_few, none_lacks, gathers_stand, front_length, stands_size, stands_counted, stands_on, record_cleared}
use Rattle.fetch.proofs.Bringing.{brought_fetched, brought_few}

module _ (t p r : List ℕ) (count : ℕ) (out : List ℕ) (stands : Partial r count) where
  abbrev g : List ℕ
  g = take count r

  abbrev Left-by : Stage → List ℕ → List ℕ → List ℕ → Ended → List ℕ → Type 0
  Left-by k t' p' r' e out' = Leaves (concluded (shown t p) (lending (length out)) g [] k) t' p' r' e out out'

  abbrev Concluded : List ℕ → List ℕ → List ℕ → Ended → List ℕ → Type 0
  Concluded t' p' r' e out' = Left-by (stage g) t' p' r' e out'

  -- some bytes are lacking
  pub conclude_kept : (k : Stage) (n : ℕ) (r' : List ℕ) → GoodIn t p → k ≡ stage g → k ≡ Lacks n → r' ≡ set r count_at count → Concluded t p r' (Ok 0) out
  unfolding concluded is_lacking
  conclude_kept k n r' good is e set =
      let x = sym is ∙ e in
      subst (λ (k : Stage). Left-by k t p r' (Ok 0) out) (sym x)
      (record {
        answers = quiet_answers _ (shown t p) [] t p out good.sound refl refl good.shows;
        gathered = set ∙ stands_counted r count stands;
        lacks = ap is_lacking x;
      })

  -- too many are called for
  pub conclude_long : (k : Stage) (r' : List ℕ) → GoodIn t p → k ≡ stage g → k ≡ Overlong → r' ≡ cleared r 0 gathered_size → Concluded t p r' (Err CommandSize) out
  unfolding concluded
  conclude_long k r' good is e clear =
      subst (λ (k : Stage). Left-by k t p r' (Err CommandSize) out) (sym (sym is ∙ e))
      (record {
        answers = refuse_answers _ t p out CommandSize good refl;
        gathered = clear ∙ record_cleared r (stands_size r count stands);
        lacks = none_lacks;
      })

  -- a whole frame, or what can never be one
  pub conclude_command :
      (k : Stage) (t' p' r' : List ℕ) (e : Ended) (out' : List ℕ) → k ≡ stage g → k ≡ Decided → Answers (command (shown t p) (lending (length out)) g) t' p' e out out' →
      r' ≡ gathered_of [] → Concluded t' p' r' e out'
  unfolding concluded
  conclude_command k t' p' r' e out' is x answers clear =
      subst (λ (k : Stage). Left-by k t' p' r' e out') (sym (sym is ∙ x))
      (record { answers = answers; gathered = clear; lacks = none_lacks })

-- where some are lacking the count is below 256
pub kept_few : (r : List ℕ) (count : ℕ) → Partial r count → (k : Stage) (n : ℕ) → k ≡ stage (take count r) → k ≡ Lacks n → count < count_at
unfolding is_lacking
kept_few r count stands k n is e =
    let m = front_length r count stands in
    let w = lacking_few (take count r) (ap is_lacking (sym is ∙ e)) in omega (arith, m, w)

-- which bytes are left changes nothing else
left_behind :
    (a : State) (terms : Terms) (g u : List ℕ) (k : Stage) (t p r : List ℕ) (e : Ended) (before after : List ℕ) →
    Leaves (concluded a terms g [] k) t p r e before after → Leaves (concluded a terms g u k) t p r e before after
unfolding concluded
left_behind a terms g u (Lacks n) t p r e before after h = record { answers = h.answers; gathered = h.gathered; lacks = h.lacks }
left_behind a terms g u Overlong t p r e before after h = record { answers = h.answers; gathered = h.gathered; lacks = h.lacks }
left_behind a terms g u Decided t p r e before after h = record { answers = h.answers; gathered = h.gathered; lacks = h.lacks }

left_is : (a : State) (terms : Terms) (g u : List ℕ) (k : Stage) → (concluded a terms g u k).left ≡ u
unfolding concluded
left_is a terms g u (Lacks n) = refl
left_is a terms g u Overlong = refl
left_is a terms g u Decided = refl

-- a burst s over the record r, which gathers
module _ (r s : List ℕ) (gathers : Gathers r) where
  abbrev held : List ℕ
  held = gathered_in r

  abbrev count : ℕ
  count = get_or r count_at 0

  brought_fits : count + length (brought held s) ≤ count_at
  unfolding gathered_in
  brought_fits =
      let stands = gathers_stand r gathers in
      let n = front_length r count stands in
      let f = brought_few held s gathers.lacks in omega (arith, n, f)

  -- R1
  pub fetch_short :
      (t p out : List ℕ) → GoodIn t p → length out < 255 →
      Fetches (fetch (shown t p) (lending (length out)) held s) t p r (record { ended = Err ShortBuffer; left = length s }) out out
  unfolding fetch
  fetch_short t p out good h =
      subst (λ (f : rules.Fetched). Fetches f t p r (record { ended = Err ShortBuffer; left = length s }) out out) (sym (stop _ _ _ (lt-ltb (length out) 255 h)))
      (record { leaves = record { answers = refuse_answers _ t p out ShortBuffer good refl; gathered = gathers.is; lacks = gathers.lacks }; left = refl })

  -- k bytes of it were brought
  module _ (k : ℕ) (r₁ : List ℕ) (n : k ≡ length (brought held s)) (put : r₁ ≡ pasted r count (brought held s)) where
    -- they stand behind those held
    pub fetch_stands : Partial r₁ (count + k)
    fetch_stands =
        let f = brought_fits in
        subst (λ (x : List ℕ). Partial x (count + k)) (sym put)
        (subst (λ (j : ℕ). Partial (pasted r count (brought held s)) (count + j)) (sym n) (stands_on r count (gathers_stand r gathers) (brought held s) f))

    front : take (count + k) r₁ ≡ held ++ brought held s
    unfolding gathered_in
    front =
        let z = stands_size r count (gathers_stand r gathers) in
        let f = brought_fits in
        (λ i. take (count + n i) (put i)) ∙ take_pasted r count (brought held s) (omega (arith, z, f))

    pub fetch_told :
        (t p out t' p' r' : List ℕ) (e : Ended) (out' : List ℕ) → 255 ≤ length out →
        Leaves (concluded (shown t p) (lending (length out)) (take (count + k) r₁) [] (stage (take (count + k) r₁))) t' p' r' e out out' →
        Fetches (fetch (shown t p) (lending (length out)) held s) t' p' r' (record { ended = e; left = length s - k }) out out'
    fetch_told t p out t' p' r' e out' h leaves =
        let a = shown t p in
        let b = brought held s in
        let u = drop (length b) s in
        let moved = subst (λ (x : List ℕ). Leaves (concluded a (lending (length out)) x [] (stage x)) t' p' r' e out out') front leaves in
        let x : Fetched = record { ended = e; left = length s - k } in
        subst (λ (f : rules.Fetched). Fetches f t' p' r' x out out') (sym (brought_fetched a (lending (length out)) held s gathers.lacks h))
        (record {
          leaves = left_behind a (lending (length out)) (held ++ b) u (stage (held ++ b)) t' p' r' e out out' moved;
          left = ap (λ (j : ℕ). length s - j) n ∙ sym (length-drop (length b) s) ∙ ap length (sym (left_is a (lending (length out)) (held ++ b) u (stage (held ++ b))));
        })
