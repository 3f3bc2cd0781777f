-- The bytes that a burst brings, some at a time: what the loop keeps, and that the fetch call is what they come to.
-- Assumes nothing.
use Prim.Native.Nat.{ℕ, zero, suc, ◌+◌, ◌-◌, ◌≤◌, min}
use mathlib.Core.Path.{◌≡◌, refl, sym, ap, subst, ◌∙◌}
use mathlib.Core.Bool.{Bool, true, false, true≢false}
use mathlib.Core.List.{List, [], ◌∷◌, ◌++◌, append_assoc, append-nil}
use native.Mathlib.Omega.{arith}
use lib.ListN.{length, take, drop, take-append-drop, length-append, length-take, length-drop, drop_of_length-le}
use lib.Seq.{length-take-le, take-add, drop-drop}
use borrow.Author.Tests.{le-ltb}
use Rattle.rules.specs.declared.Stage.{Stage}
use Rattle.rules.specs.declared.Stage.TheVariants.{Lacks, Overlong, Decided}
use Rattle.rules.specs.State.{State}
use Rattle.rules.specs.Command.{Terms}
use Rattle.rules.specs.Fetch.{stage, Means, taken_at, one_more, goes_on, Fetched, burst, fetch}
use Rattle.rules.proofs.Laws.{branch, stop, skip}
use Rattle.rules.proofs.Stages.{stage_means, stage_more, lacks_within}
use Rattle.octets.specs.Parts.{part, pasted}
use Rattle.octets.proofs.Pastes.{take_pasted, length_pasted, paste_after}
use Rattle.fetch.specs.Gathers.{count_at, gathered_size, is_lacking, brought, concluded}
use Rattle.fetch.proofs.Records.{lacking_few}

brought_one : (g : List ℕ) (b : ℕ) (s : List ℕ) → is_lacking (stage g) ≡ true → brought g (b ∷ s) ≡ b ∷ brought (g ++ b ∷ []) s
unfolding brought
brought_one g b s e = stop _ _ _ e

-- nothing is taken where nothing is lacking
brought_none : (g s : List ℕ) → is_lacking (stage g) ≡ false → brought g s ≡ []
unfolding brought
brought_none g [] e = refl
brought_none g (b ∷ s) e = skip _ _ _ e

-- as many bytes as are surely lacking are taken at once
brought_some :
    (g s : List ℕ) (n k : ℕ) → stage g ≡ Lacks n → k ≤ n → k ≤ length s → brought g s ≡ take k s ++ brought (g ++ take k s) (drop k s)
unfolding is_lacking
brought_some g s n zero e h w = ap (λ (x : List ℕ). brought x s) (sym (append-nil g))
brought_some g [] n (suc k) e h w = absurd (omega (arith, w))
brought_some g (b ∷ s) n (suc zero) e h w = brought_one g b s (ap is_lacking e)
brought_some g (b ∷ s) n (suc (suc k)) e h w =
    let x = g ++ b ∷ [] in
    let f : stage x ≡ Lacks (n - 1) = stage_more g (b ∷ []) n e (omega (arith, h)) in
    brought_one g b s (ap is_lacking e)
    ∙ ap (λ (y : List ℕ). b ∷ y)
    (brought_some x s (n - 1) (suc k) f (omega (arith, h)) (omega (arith, w))
    ∙ ap (λ (y : List ℕ). take (suc k) s ++ brought y (drop (suc k) s)) (append_assoc g (b ∷ []) (take (suc k) s)))

-- nor more than there is
brought_within : (g s : List ℕ) → length (brought g s) ≤ length s
unfolding brought
brought_within g [] = omega arith
brought_within g (b ∷ s) =
    let w = brought_within (g ++ b ∷ []) s in
    branch (λ (x : List ℕ). length x ≤ length (b ∷ s)) _ _ _ (λ _. omega (arith, w)) (λ _. omega arith)

pub brought_count : (g s : List ℕ) (k : ℕ) → k ≡ length (brought g s) → k ≤ length s
brought_count g s k e = let w = brought_within g s in omega (arith, e, w)

-- no more is taken than fits 256 bytes
pub brought_few : (g s : List ℕ) → is_lacking (stage g) ≡ true → length g + length (brought g s) ≤ count_at
unfolding brought
brought_few g [] e = let w = lacking_few g e in omega (arith, w)
brought_few g (b ∷ s) e =
    let w = lacking_few g e in
    let m = ap length (brought_one g b s e) in
    let n = length-append g (b ∷ []) in
    let f = by (is_lacking (stage (g ++ b ∷ []))) refl (λ x. brought_few (g ++ b ∷ []) s x) in omega (arith, w, m, n, f)
  where
    by :
        (x : Bool) → is_lacking (stage (g ++ b ∷ [])) ≡ x → (is_lacking (stage (g ++ b ∷ [])) ≡ true → length (g ++ b ∷ []) + length (brought (g ++ b ∷ []) s) ≤ count_at) →
        length (g ++ b ∷ []) + length (brought (g ++ b ∷ []) s) ≤ count_at
    by true q f = f q
    by false q f =
        let w = lacking_few g e in
        let m = ap length (brought_none (g ++ b ∷ []) s q) in
        let n = length-append g (b ∷ []) in omega (arith, w, m, n)

-- the record r after k bytes of the burst s, of which it held so many before
pub record Bringing (r₀ : List ℕ) (held : ℕ) (s r : List ℕ) (k : ℕ) : Type 0 where
  pub size : length r ≡ gathered_size
  pub within : k ≤ length s
  pub fits : held + k ≤ count_at
  pub is : r ≡ pasted r₀ held (take k s)
  pub rest : brought (take held r₀) s ≡ take k s ++ brought (take held r₀ ++ take k s) (drop k s)

module _ (r₀ : List ℕ) (held : ℕ) (s : List ℕ) (size : length r₀ ≡ gathered_size) where
  pub bring_none : held ≤ count_at → Bringing r₀ held s r₀ 0
  unfolding pasted
  bring_none h =
      let z : held + 0 ≡ held = omega arith in
      record {
        size = size;
        within = omega arith;
        fits = omega (arith, h);
        is = sym (ap (λ (k : ℕ). take held r₀ ++ drop k r₀) z ∙ take-append-drop held r₀);
        rest = ap (λ (x : List ℕ). brought x s) (sym (append-nil (take held r₀)));
      }

  module _ (r : List ℕ) (k : ℕ) (b : Bringing r₀ held s r k) where
    count : length (take k s) ≡ k
    count = length-take-le k s b.within

    -- the bytes that are gathered
    pub bring_front : take (held + k) r ≡ take held r₀ ++ take k s
    bring_front =
        let f = b.fits in
        let n = count in
        (λ i. take (held + sym n i) (b.is i)) ∙ take_pasted r₀ held (take k s) (omega (arith, f, n, size))

    pub bring_more :
        (n e : ℕ) (r' : List ℕ) → stage (take (held + k) r) ≡ Lacks n → e ≡ k + min n (length s - k) → r' ≡ pasted r (held + k) (part k e s) →
        Bringing r₀ held s r' e
    bring_more n e r' l q put =
        let g = take held r₀ in
        let j = min n (length s - k) in
        let w = b.within in
        let c = count in
        let f = b.fits in
        let m : e - k ≡ j = omega (arith, q, w) in
        let front : stage (g ++ take k s) ≡ Lacks n = ap stage (sym bring_front) ∙ l in
        let means = subst (λ (x : Stage). Means x (g ++ take k s)) front (stage_means (g ++ take k s)) in
        let room = lacks_within (g ++ take k s) n means in
        let hl = length-append g (take k s) in
        let gl = length-take-le held r₀ (omega (arith, f, size)) in
        let dl = length-drop k s in
        let cut : part k e s ≡ take j (drop k s) = ap (λ (x : ℕ). take x (drop k s)) m in
        let joined : take k s ++ take j (drop k s) ≡ take e s = sym (take-add k j s) ∙ ap (λ (x : ℕ). take x s) (sym q) in
        let full = b.size in
        let pl = length-take-le j (drop k s) (omega (arith, dl)) in
        record {
          size = ap length put ∙ ap (λ (x : List ℕ). length (pasted r (held + k) x)) cut ∙ length_pasted r (held + k) (take j (drop k s)) (omega (arith, full, room, hl, gl, c, pl)) ∙ full;
          within = omega (arith, q, w);
          fits = omega (arith, q, room, hl, gl, c);
          is =
              put ∙ (λ i. pasted (b.is i) (held + sym c i) (part k e s)) ∙ paste_after r₀ held (take k s) (omega (arith, f, c, size)) (part k e s)
              ∙ ap (λ (x : List ℕ). pasted r₀ held (take k s ++ x)) cut ∙ ap (pasted r₀ held) joined;
          rest =
              b.rest ∙ ap (λ (x : List ℕ). take k s ++ x) (brought_some (g ++ take k s) (drop k s) n j front (omega arith) (omega (arith, dl)))
              ∙ sym (append_assoc (take k s) (take j (drop k s)) _)
              ∙ (λ i. joined i ++ brought (append_assoc g (take k s) (take j (drop k s)) i) (drop-drop j k s i))
              ∙ (λ i. take e s ++ brought (g ++ joined i) (drop (sym q i) s));
        }

    pub bring_short : length (take (held + k) r) ≤ count_at
    bring_short =
        let f = b.fits in
        let c = length-take (held + k) r in omega (arith, f, c)

    -- as many bytes as are lacking fit behind them
    pub bring_fits : (n : ℕ) → stage (take (held + k) r) ≡ Lacks n → (held + k + n ≤ count_at) × (1 ≤ n)
    bring_fits n l =
        let f = b.fits in
        let z = b.size in
        let means = subst (λ (x : Stage). Means x (take (held + k) r)) l (stage_means (take (held + k) r)) in
        let room = lacks_within (take (held + k) r) n means in
        let c = length-take-le (held + k) r (omega (arith, f, z)) in (omega (arith, room, c), means.some)

    -- what was brought, once no more is taken
    ended : brought (take held r₀ ++ take k s) (drop k s) ≡ [] → brought (take held r₀) s ≡ take k s
    ended e = b.rest ∙ ap (λ (x : List ℕ). take k s ++ x) e ∙ append-nil (take k s)

    told : brought (take held r₀) s ≡ take k s → (k ≡ length (brought (take held r₀) s)) × (r ≡ pasted r₀ held (brought (take held r₀) s))
    told e = (sym (ap length e ∙ count), b.is ∙ ap (pasted r₀ held) (sym e))

    pub bring_stop : is_lacking (stage (take (held + k) r)) ≡ false → (k ≡ length (brought (take held r₀) s)) × (r ≡ pasted r₀ held (brought (take held r₀) s))
    bring_stop e = told (ended (brought_none _ (drop k s) (ap (λ (x : List ℕ). is_lacking (stage x)) (sym bring_front) ∙ e)))

    pub bring_end : length s ≤ k → (k ≡ length (brought (take held r₀) s)) × (r ≡ pasted r₀ held (brought (take held r₀) s))
    unfolding brought
    bring_end h = told (ended (ap (brought (take held r₀ ++ take k s)) (drop_of_length-le s h)))

-- what the bytes g come to with t of the burst s behind them
abbrev with_taken : State → Terms → List ℕ → List ℕ → List ℕ → Fetched
with_taken a terms g s t = concluded a terms (g ++ t) (drop (length t) s) (stage (g ++ t))

-- nothing is lacking, so no more is taken
none_taken :
    (a : State) (terms : Terms) (g s : List ℕ) (k : Stage) → stage g ≡ k → is_lacking k ≡ false → concluded a terms g s k ≡ with_taken a terms g s (brought g s)
none_taken a terms g s k e f =
    ap (concluded a terms g s) (sym e) ∙ ap (λ (x : List ℕ). concluded a terms x s (stage x)) (sym (append-nil g))
    ∙ ap (with_taken a terms g s) (sym (brought_none g s (ap is_lacking e ∙ f)))

-- a burst behind its first byte, at the stage that this made
byte_taken :
    (a : State) (terms : Terms) (g s : List ℕ) (k : Stage) → stage g ≡ k → (is_lacking k ≡ true → burst a terms g s ≡ with_taken a terms g s (brought g s)) →
    goes_on (taken_at a terms g k) s (λ (x : List ℕ). burst a terms x s) ≡ with_taken a terms g s (brought g s)
unfolding goes_on taken_at concluded is_lacking
byte_taken a terms g s (Lacks n) e rest = rest refl
byte_taken a terms g s Overlong e rest = none_taken a terms g s Overlong e refl
byte_taken a terms g s Decided e rest = none_taken a terms g s Decided e refl

stays : (a : State) (terms : Terms) (g : List ℕ) (k : Stage) → is_lacking k ≡ true → burst a terms g [] ≡ concluded a terms g [] k
unfolding burst concluded is_lacking
stays a terms g (Lacks n) f = refl
stays a terms g Overlong f = absurd (true≢false (sym f))
stays a terms g Decided f = absurd (true≢false (sym f))

-- a burst is what the bytes come to that it brings
brought_burst : (a : State) (terms : Terms) (g s : List ℕ) → is_lacking (stage g) ≡ true → burst a terms g s ≡ with_taken a terms g s (brought g s)
unfolding burst one_more brought
brought_burst a terms g [] e = stays a terms g (stage g) e ∙ ap (λ (x : List ℕ). concluded a terms x [] (stage x)) (sym (append-nil g))
brought_burst a terms g (b ∷ s) e =
    let h = g ++ b ∷ [] in
    let x = brought h s in
    byte_taken a terms h s (stage h) refl (λ f. brought_burst a terms h s f)
    ∙ ap (λ (y : List ℕ). concluded a terms y (drop (length x) s) (stage y)) (append_assoc g (b ∷ []) x) ∙ ap (with_taken a terms g (b ∷ s)) (sym (brought_one g b s e))

pub brought_fetched :
    (a : State) (terms : Terms) (g s : List ℕ) → is_lacking (stage g) ≡ true → 255 ≤ terms.buffer →
    fetch a terms g s ≡ concluded a terms (g ++ brought g s) (drop (length (brought g s)) s) (stage (g ++ brought g s))
unfolding fetch
brought_fetched a terms g s e h = skip _ _ _ (le-ltb terms.buffer 255 h) ∙ brought_burst a terms g s e
