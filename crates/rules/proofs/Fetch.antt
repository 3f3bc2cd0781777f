-- Bytes that come in bursts: how they are divided does not matter, and a whole command is answered as the command call answers it.
-- Assumes nothing.
use Prim.Native.Nat.{ℕ, ◌-◌, ◌≤◌}
use mathlib.Core.Path.{◌≡◌, refl, sym, ap, subst, ◌∙◌}
use mathlib.Core.Bool.{true, false, false≢true}
use mathlib.Core.List.{List, [], ◌∷◌, ◌++◌, append_assoc, append-nil}
use native.Mathlib.Omega.{arith}
use lib.ListN.{length, take, drop, take-append-drop, length-append, length-take, length-drop}
use lib.Dec.{ltb}
use borrow.Author.Tests.{le-ltb}
use Rattle.rules.specs.declared.Refusal.TheVariants.{CommandSize}
use Rattle.rules.specs.declared.Stage.{Stage}
use Rattle.rules.specs.declared.Stage.TheVariants.{Lacks, Overlong, Decided}
use Rattle.rules.specs.Checks.{◌⇒◌else◌, is_empty}
use Rattle.rules.specs.Frames.{object_bytes, written, length_at, fills, framed}
use Rattle.rules.specs.Written.{Response, response_objects, response_bytes}
use Rattle.rules.specs.State.{State}
use Rattle.rules.specs.Command.{Outcome, wrote, refused, Answer, answered, refusal, command, Terms, lending}
use Rattle.rules.specs.Run.{commanding, step}
use Rattle.rules.specs.Sound.{Each, Sound, Within}
use Rattle.rules.specs.Fetch.{stage, Means, Taken, gathers, ends, taken_at, one_more, Fetched, goes_on, burst, fetch, Turn, Turned, tellings, turned}
use Rattle.rules.proofs.Laws.{branch, skip}
use Rattle.rules.proofs.Stages.{some_length, stage_means}
use Rattle.rules.proofs.Sizes.{written_within}

-- a buffer of 255 bytes does
roomy : (a : State) (terms : Terms) (s : List ℕ) → ltb terms.buffer 255 ≡ false → command a terms s ≡ command a (lending 255) s
unfolding command
roomy a terms s e = skip _ _ _ e ∙ sym (skip _ _ _ refl)

taken_roomy : (a : State) (terms : Terms) (s : List ℕ) (k : Stage) → ltb terms.buffer 255 ≡ false → taken_at a terms s k ≡ taken_at a (lending 255) s k
unfolding taken_at
taken_roomy a terms s (Lacks n) e = refl
taken_roomy a terms s Overlong e = refl
taken_roomy a terms s Decided e = ap ends (roomy a terms s e)

-- answers and refusals in front
abbrev told_before : List Outcome → Turned → Turned
told_before os r = record { state = r.state; gathered = r.gathered; told = os ++ r.told; rest = r.rest }

-- all bytes, one after the other, whatever the answers on the way
unfoldable onward : Taken → State → (State → List ℕ → Turned) → Turned
onward (gathers g) a next = next a g
onward (ends x) a next = told_before (tellings x.outcome) (next x.state [])

unfoldable through : State → List ℕ → List ℕ → Turned
through a g [] = record { state = a; gathered = g; told = []; rest = [] }
through a g (b ∷ s) = onward (one_more a (lending 255) g b) a (λ (c : State) (h : List ℕ). through c h s)

-- what a burst came to, and all bytes behind those that it took
abbrev beyond : Fetched → List ℕ → Turned
beyond f t = told_before (tellings f.answer.outcome) (through f.answer.state f.gathered (f.left ++ t))

module _ (a : State) (s t : List ℕ) (next : List ℕ → Fetched) (h : (g : List ℕ) → through a g (s ++ t) ≡ beyond (next g) t) where
  taken_through : (x : Taken) → onward x a (λ (c : State) (g : List ℕ). through c g (s ++ t)) ≡ beyond (goes_on x s next) t
  unfolding onward goes_on
  taken_through (gathers g) = h g
  taken_through (ends x) = refl

burst_through : (a : State) (terms : Terms) (g s t : List ℕ) → ltb terms.buffer 255 ≡ false → through a g (s ++ t) ≡ beyond (burst a terms g s) t
unfolding burst tellings through one_more
burst_through a terms g [] t e = refl
burst_through a terms g (b ∷ s) t e =
    let h = g ++ b ∷ [] in
    ap (λ (x : Taken). onward x a (λ (c : State) (k : List ℕ). through c k (s ++ t))) (sym (taken_roomy a terms h (stage h) e))
    ∙ taken_through a s t (λ (k : List ℕ). burst a terms k s) (λ k. burst_through a terms k s t e) (taken_at a terms h (stage h))

-- with R1 nothing happened
fetch_through : (a : State) (terms : Terms) (g s t : List ℕ) → through a g (s ++ t) ≡ beyond (fetch a terms g s) t
unfolding fetch tellings ◌⇒◌else◌
fetch_through a terms g s t = branch (λ (f : Fetched). through a g (s ++ t) ≡ beyond f t) _ _ _ (λ _. refl) (λ e. burst_through a terms g s t e)

turned_through : (a : State) (g s : List ℕ) (us : List Turn) → let r = turned a g s us in through a g s ≡ told_before r.told (through r.state r.gathered r.rest)
unfolding turned
turned_through a g s [] = refl
turned_through a g s (u ∷ us) =
    let f = fetch a u.terms g (take u.count s) in
    let t = drop u.count s in
    let r = turned f.answer.state f.gathered (f.left ++ t) us in
    ap (through a g) (sym (take-append-drop u.count s)) ∙ fetch_through a u.terms g (take u.count s) t
    ∙ ap (told_before (tellings f.answer.outcome)) (turned_through f.answer.state f.gathered (f.left ++ t) us)
    ∙ ap (λ (os : List Outcome). record { state = (through r.state r.gathered r.rest).state; gathered = (through r.state r.gathered r.rest).gathered; told = os; rest = (through r.state r.gathered r.rest).rest })
    (sym (append_assoc (tellings f.answer.outcome) r.told (through r.state r.gathered r.rest).told))

-- turns that took all bytes
all_through : (a : State) (g s : List ℕ) (us : List Turn) → (turned a g s us).rest ≡ [] → turned a g s us ≡ through a g s
unfolding through
all_through a g s us e =
    let r = turned a g s us in
    (λ i. record { state = r.state; gathered = r.gathered; told = sym (append-nil r.told) i; rest = e i })
    ∙ ap (λ (t : List ℕ). told_before r.told (through r.state r.gathered t)) (sym e) ∙ sym (turned_through a g s us)

-- however bytes are divided into bursts, those without bytes and those with a short buffer among them, and what was left handed in again: the same answers and refusals in the same order, the same session, and the same bytes gathered
pub division :
    (a : State) (g s : List ℕ) (us vs : List Turn) → (turned a g s us).rest ≡ [] → (turned a g s vs).rest ≡ [] → turned a g s us ≡ turned a g s vs
division a g s us vs e f = all_through a g s us e ∙ sym (all_through a g s vs f)

-- every way in which a burst ends: more is to come; at its front t it calls for more than 256 bytes; with t the bytes are a command, or can never be one
module _ (P : Fetched → Type 0) (a : State) (terms : Terms) where
  pub burst_cases :
      (g s : List ℕ) → P (record { answer = answered a []; gathered = g ++ s; left = [] }) →
      ((t u : List ℕ) → s ≡ t ++ u → is_empty t ≡ false → P (record { answer = refusal a CommandSize; gathered = []; left = u })) →
      ((t u : List ℕ) → s ≡ t ++ u → is_empty t ≡ false → P (record { answer = command a terms (g ++ t); gathered = []; left = u })) →
      P (burst a terms g s)
  unfolding burst one_more taken_at goes_on is_empty
  burst_cases g [] more long whole = subst (λ (h : List ℕ). P (record { answer = answered a []; gathered = h; left = [] })) (append-nil g) more
  burst_cases g (b ∷ s) more long whole =
      by (stage (g ++ b ∷ []))
      (burst_cases (g ++ b ∷ []) s
      (subst (λ (h : List ℕ). P (record { answer = answered a []; gathered = h; left = [] })) (sym (append_assoc g (b ∷ []) s)) more)
      (λ t u e i. long (b ∷ t) u (ap (λ (x : List ℕ). b ∷ x) e) refl)
      (λ t u e i.
      subst (λ (h : List ℕ). P (record { answer = command a terms h; gathered = []; left = u })) (sym (append_assoc g (b ∷ []) t))
      (whole (b ∷ t) u (ap (λ (x : List ℕ). b ∷ x) e) refl)))
    where
      by : (k : Stage) → P (burst a terms (g ++ b ∷ []) s) → P (goes_on (taken_at a terms (g ++ b ∷ []) k) s (λ (h : List ℕ). burst a terms h s))
      by (Lacks n) h = h
      by Overlong h = long (b ∷ []) s refl refl
      by Decided h = whole (b ∷ []) s refl refl

-- with room in the buffer a burst takes one byte at least, if it has any
left_less : (a : State) (terms : Terms) (g s : List ℕ) → 255 ≤ terms.buffer → length (fetch a terms g s).left ≤ length s - 1
unfolding fetch
left_less a terms g s r =
    let Q : Fetched → Type 0 = λ (f : Fetched). length f.left ≤ length s - 1 in
    let behind : (t u : List ℕ) → s ≡ t ++ u → is_empty t ≡ false → length u ≤ length s - 1 =
    λ t u e i.
    let k = ap length e in
    let m = length-append t u in
    let j = some_length t i in omega (arith, k, m, j) in
    subst Q (sym (skip _ _ _ (le-ltb terms.buffer 255 r))) (burst_cases Q a terms g s (omega arith) behind behind)

-- a turn that can take bytes
pub record Takes (u : Turn) : Type 0 where
  pub roomy : 255 ≤ u.terms.buffer
  pub some : 1 ≤ u.count

-- so a host that hands in what is left comes to the end, after as many turns as there are bytes at most
pub all_taken :
    (a : State) (g s : List ℕ) (us : List Turn) → Each Takes us → length s ≤ length us → (turned a g s us).rest ≡ []
unfolding turned
all_taken a g [] [] h e = refl
all_taken a g (b ∷ s) [] h e = absurd (omega (arith, e))
all_taken a g s (u ∷ us) h e =
    let f = fetch a u.terms g (take u.count s) in
    let t = drop u.count s in
    let less = left_less a u.terms g (take u.count s) h.0.roomy in
    let k = length-append f.left t in
    let i = length-take u.count s in
    let j = length-drop u.count s in
    let some = h.0.some in
    all_taken f.answer.state f.gathered (f.left ++ t) us h.1 (omega (arith, e, less, k, i, j, some))

-- the whole bytes of a command of at most 256 are decided, and its front is not
framed_decided : (s : List ℕ) (k : Stage) → Means k s → framed s ≡ true → length s ≤ 256 → k ≡ Decided
framed_decided s (Lacks n) m f h = absurd (false≢true (sym (m.least [] m.some) ∙ ap framed (append-nil s) ∙ f))
framed_decided s Overlong m f h =
    let x = m.past [] (ap framed (append-nil s) ∙ f) in
    let y = length-append s [] in absurd (omega (arith, x, y, h))
framed_decided s Decided m f h = refl

front_gathers :
    (a : State) (terms : Terms) (s t : List ℕ) (k : Stage) → Means k s → framed (s ++ t) ≡ true → is_empty t ≡ false → length (s ++ t) ≤ 256 →
    taken_at a terms s k ≡ gathers s
unfolding taken_at
front_gathers a terms s t (Lacks n) m f i h = refl
front_gathers a terms s t Overlong m f i h = let x = m.past t f in absurd (omega (arith, x, h))
front_gathers a terms s t Decided m f i h = absurd (false≢true (sym (m t i) ∙ f))

-- the command of all bytes, and none left
abbrev wholly : State → Terms → List ℕ → Fetched
wholly a terms s = record { answer = command a terms s; gathered = []; left = [] }

whole_from :
    (a : State) (terms : Terms) (p : List ℕ) (b : ℕ) (q : List ℕ) → framed (p ++ b ∷ q) ≡ true → length (p ++ b ∷ q) ≤ 256 →
    burst a terms p (b ∷ q) ≡ wholly a terms (p ++ b ∷ q)
unfolding burst one_more taken_at goes_on is_empty
whole_from a terms p b [] f h =
    let s = p ++ b ∷ [] in
    ap (λ (k : Stage). goes_on (taken_at a terms s k) [] (λ (x : List ℕ). burst a terms x [])) (framed_decided s (stage s) (stage_means s) f h)
whole_from a terms p b (c ∷ q) f h =
    let s = p ++ b ∷ [] in
    let e = append_assoc p (b ∷ []) (c ∷ q) in
    let f' = ap framed e ∙ f in
    let h' = subst (λ (x : List ℕ). length x ≤ 256) (sym e) h in
    ap (λ (x : Taken). goes_on x (c ∷ q) (λ (y : List ℕ). burst a terms y (c ∷ q))) (front_gathers a terms s (c ∷ q) (stage s) (stage_means s) f' refl h')
    ∙ whole_from a terms s c q f' h' ∙ ap (wholly a terms) e

through_none : (c : Answer) → beyond (record { answer = c; gathered = []; left = [] }) [] ≡ record { state = c.state; gathered = []; told = tellings c.outcome; rest = [] }
unfolding through
through_none c = λ i. record { state = c.state; gathered = []; told = append-nil (tellings c.outcome) i; rest = [] }

-- a whole command of at most 256 bytes is answered as the command call answers it
pub frame_fetched :
    (a : State) (terms : Terms) (s : List ℕ) → 255 ≤ terms.buffer → framed s ≡ true → length s ≤ 256 → fetch a terms [] s ≡ wholly a terms s
unfolding fetch framed length_at fills
frame_fetched a terms [] r f h = absurd (false≢true f)
frame_fetched a terms (b ∷ s) r f h = skip _ _ _ (le-ltb terms.buffer 255 r) ∙ whole_from a terms [] b s f h

size_told_lem : tellings (refused CommandSize) ≡ refused CommandSize ∷ []
unfolding tellings ◌⇒◌else◌
size_told_lem = refl

response_told : (r : Response) → tellings (wrote (response_bytes r)) ≡ wrote (response_bytes r) ∷ []
unfolding tellings response_bytes response_objects written object_bytes
response_told r = refl

-- how a command call ends is told: with bytes, or, where the buffer has room, with R2
command_told : (a : State) (s : List ℕ) → tellings (command a (lending 255) s).outcome ≡ (command a (lending 255) s).outcome ∷ []
unfolding command
command_told a s =
    let Q : Answer → Type 0 = λ (x : Answer). tellings x.outcome ≡ x.outcome ∷ [] in
    branch Q _ _ _ (λ e. absurd (false≢true e)) (λ _. branch Q _ _ _ (λ _. size_told_lem) (λ _. response_told _))

-- and so however it is divided
pub frame_divided :
    (a : State) (s : List ℕ) (us : List Turn) → framed s ≡ true → length s ≤ 256 → (turned a [] s us).rest ≡ [] →
    turned a [] s us ≡ record { state = (command a (lending 255) s).state; gathered = []; told = (command a (lending 255) s).outcome ∷ []; rest = [] }
frame_divided a s us f h e =
    let c = command a (lending 255) s in
    all_through a [] s us e ∙ ap (through a []) (sym (append-nil s)) ∙ fetch_through a (lending 255) [] s []
    ∙ ap (λ (x : Fetched). beyond x []) (frame_fetched a (lending 255) s (omega arith) f h) ∙ through_none c ∙ (λ i. record { state = c.state; gathered = []; told = command_told a s i; rest = [] })

command_within : (a : State) (terms : Terms) (s : List ℕ) → Sound a → Within 255 (command a terms s).outcome
unfolding step
command_within a terms s h = written_within a (commanding terms s) h

-- a burst writes at most 255 bytes
pub fetch_within : (a : State) (terms : Terms) (g s : List ℕ) → Sound a → Within 255 (fetch a terms g s).answer.outcome
unfolding fetch
fetch_within a terms g s h =
    let Q : Fetched → Type 0 = λ (f : Fetched). Within 255 f.answer.outcome in
    branch Q _ _ _ (λ _. tt) (λ _. burst_cases Q a terms g s (omega arith) (λ t u _ _. tt) (λ t u _ _. command_within a terms (g ++ t) h))
