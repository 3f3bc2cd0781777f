-- The contract of the reader settles its outcome.
-- Assumes nothing.
use Prim.Native.Nat.{ℕ, zero, suc, ◌+◌, ◌-◌, ◌*◌}
use mathlib.Core.Path.{◌≡◌, refl, sym, ap, ◌∙◌}
use mathlib.Core.List.{List}
use native.Mathlib.Omega.{arith}
use lib.ListN.{length, drop, length-drop}
use Rattle.std.specs.Prelude.{Option, Some, None}
use Rattle.rules.specs.Reading.{bearer_in}
use Rattle.rules.specs.Own as own
use Rattle.rules.specs.Own.{Result, error, problem, done, opened, received, sent, started, leaves, statuses, reports, nothing}
use Rattle.rules.specs.Bench.{Told, told, untold}
use Rattle.octets.specs.Parts.{part}
use Rattle.octets.proofs.Copies.{length_part}
use Rattle.outcomes.specs.Determined.{Determined}
use Rattle.bench_reader.specs.declared.Further.{Further}
use Rattle.bench_reader.specs.declared.Further.TheVariants.{Plain, Opened, Received, Sent, Started, Leaves, Statuses}
use Rattle.bench_reader.specs.declared.Verdict.{Verdict}
use Rattle.bench_reader.specs.declared.Verdict.TheVariants.{Error, Problem, Done}
use Rattle.bench_reader.specs.declared.Response.{Response}
use Rattle.bench_reader.specs.Heard.{statuses_at, further_of, result_of, heard_of, FurtherAt, VerdictAt, PlacesAt}
use Rattle.bench_reader.proofs.read.Kinds as read-kinds
use Rattle.bench_reader.proofs.read.Reads as read-reads

-- so many statuses
count_back : (k : ℕ) (t : List ℕ) → length (statuses_at k t) ≡ k
unfolding statuses_at
count_back zero t = refl
count_back (suc k) t = ap suc (count_back k (drop 4 t))

-- what the code tells, read back from what was told and the number of bytes: four stand behind a bearer, three behind data
further_in : own.Further → ℕ → Further
further_in nothing n = Plain
further_in (opened st b g) n = let k = length b.parameters + 1 in Opened st.number st.link (n - 4 - k) k g
further_in (received v left) n = Received (n - 3 - length v) (length v) left
further_in (sent room) n = Sent room
further_in (started k) n = Started k
further_in (leaves k left) n = Leaves k left
further_in (reports (statuses ss)) n = Statuses (n - 4 * length ss) (length ss)

further_back : (f : Further) (s : List ℕ) → FurtherAt f s → further_in (further_of f s) (length s) ≡ f
unfolding further_in further_of bearer_in
further_back Plain s h = refl
further_back (Opened n link start len grant) s h =
    let v = part start (start + len) s in
    let all = length_part start (start + len) s (omega (arith, h.1)) in
    let k : length (drop 1 v) + 1 ≡ len = omega (arith, h.0, all, length-drop 1 v) in
    let a : length s - 4 - len ≡ start = omega (arith, h.1) in
    λ i. Opened n link ((ap (λ (m : ℕ). length s - 4 - m) k ∙ a) i) (k i) grant
further_back (Received start len left) s h =
    let all = length_part start (start + len) s (omega (arith, h)) in
    let k : length (part start (start + len) s) ≡ len = omega (arith, all) in
    let a : length s - 3 - len ≡ start = omega (arith, h) in
    λ i. Received ((ap (λ (m : ℕ). length s - 3 - m) k ∙ a) i) (k i) left
further_back (Sent room) s h = refl
further_back (Started n) s h = refl
further_back (Leaves n left) s h = refl
further_back (Statuses start count) s h =
    let k = count_back count (drop start s) in
    let a : length s - 4 * count ≡ start = omega (arith, h) in
    λ i. Statuses ((ap (λ (m : ℕ). length s - 4 * m) k ∙ a) i) (k i)

verdict_in : Result → ℕ → Verdict
verdict_in (error e) n = Error e
verdict_in (problem cause) n = Problem cause
verdict_in (done r f) n = Done r (further_in f n)

verdict_back : (v : Verdict) (s : List ℕ) → VerdictAt v s → verdict_in (result_of v s) (length s) ≡ v
unfolding verdict_in result_of
verdict_back (Error e) s h = refl
verdict_back (Problem cause) s h = refl
verdict_back (Done r f) s h = ap (Done r) (further_back f s h)

heard_in : Told → ℕ → Option Response
heard_in (told r) n = Some (record { details = r.details; verdict = verdict_in r.result n })
heard_in (untold r) n = None

heard_back : (x : Option Response) (s : List ℕ) → PlacesAt x s → heard_in (heard_of x s) (length s) ≡ x
unfolding heard_in heard_of
heard_back (Some r) s h = λ i. Some (record { details = r.details; verdict = verdict_back r.verdict s h i })
heard_back None s h = refl

heard_alike : (x y : Option Response) (s : List ℕ) → heard_of x s ≡ heard_of y s → PlacesAt x s → PlacesAt y s → x ≡ y
heard_alike x y s e h k = sym (heard_back x s h) ∙ ap (λ (t : Told). heard_in t (length s)) e ∙ heard_back y s k

pub read_settled : Determined 1 read-kinds.ps read-kinds.r read-reads.Pre read-reads.Post
read_settled κs a _ x y v w p q = (heard_alike x y _ (sym p.is ∙ q.is) p.at q.at, refl)
