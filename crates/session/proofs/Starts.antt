-- A fresh session: what is kept of the profile, and an empty pool.
-- Assumes nothing.
use Prim.Native.Nat.{ℕ, zero, suc, ◌+◌, ◌-◌, ◌≤◌, ◌<◌, min}
use mathlib.Core.Path.{◌≡◌, refl, sym, ap, ◌∙◌}
use mathlib.Core.List.{List, [], ◌∷◌, ◌++◌, append-nil, append_assoc}
use native.Mathlib.Omega.{arith}
use lib.ListN.{length, take, set, get_or, replicate, length-take, drop_of_length-le, replicate-append-replicate}
use lib.Seq.{take_all, set_at, length-take-le}
use Rattle.std.proofs.lemmas.List.{take_more, take_min, take-replicate, set-append_right}
use Rattle.rules.specs.Profile.{profile_size, kept}
use Rattle.rules.specs.Pool.{cell_count, pool_size, cells, promised_to, promised, unpromised}
use Rattle.rules.proofs.Soundness.{start_sound}
use Rattle.rules.specs.State.{start, closed, queue}
use Rattle.octets.specs.Parts.{pasted, pad}
use Rattle.session.specs.Book.{free_at, ledger_size, places}
use Rattle.session.specs.Picture.{space, region, regions, pool_of, entry, chan_numbers, heads_of, ledger_of, blocks, timer_numbers}
use Rattle.rules.specs.Timers.{left_of, started_of}

-- one byte more of a profile, over zeros
pub kept_more : (p : List ℕ) (i n : ℕ) → i < length p → i < n → set (take i p ++ replicate (n - i) 0) i (get_or p i 0) ≡ take (i + 1) p ++ replicate (n - (i + 1)) 0
kept_more p i n h l =
    let e : n - i ≡ suc (n - (i + 1)) = omega arith in
    let zeros = replicate {A = ℕ} (n - (i + 1)) 0 in
    ap (λ (k : ℕ). set (take i p ++ replicate k 0) i (get_or p i 0)) e ∙ set_at (take i p) 0 zeros (get_or p i 0) i (length-take-le i p (omega arith))
    ∙ sym (append_assoc (take i p) (get_or p i 0 ∷ []) zeros) ∙ ap (λ (s : List ℕ). s ++ zeros) (sym (take_more p i 0 h))

-- the front of a list and zeros
take_padded : (k n : ℕ) (p : List ℕ) → k ≤ n → take k (p ++ replicate n 0) ≡ take k p ++ replicate (k - length p) 0
take_padded zero n p h = ap (λ (j : ℕ). replicate j 0) (let e : 0 ≡ 0 - length p = omega arith in e)
take_padded (suc k) n [] h = take-replicate {X = ℕ} (suc k) n 0 h ∙ ap (λ (j : ℕ). replicate j 0) (let e : suc k ≡ suc k - 0 = omega arith in e)
take_padded (suc k) n (x ∷ p) h =
    ap (λ (l : List ℕ). x ∷ l) (take_padded k n p (omega arith)) ∙ ap (λ (j : ℕ). x ∷ (take k p ++ replicate j 0)) (let e : k - length p ≡ suc k - suc (length p) = omega arith in e)

-- all that is kept of it, and zeros for as many numbers as the ledger has
pub kept_all :
    (p : List ℕ) (m i : ℕ) → m ≡ min (length p) profile_size → i ≡ length (take m p) →
    take i (take m p) ++ replicate (ledger_size - i) 0 ≡ kept p ++ replicate (ledger_size - profile_size) 0
unfolding kept
kept_all p m i e f =
    let size = length-take m p in
    let few : m ≡ min profile_size (length p) = omega arith in
    let count : ledger_size - i ≡ (profile_size - length p) + (ledger_size - profile_size) = omega arith in
    (λ j. take_all i (take m p) (omega (arith, f)) j ++ replicate (count j) 0) ∙ ap (λ (k : ℕ). take k p ++ replicate ((profile_size - length p) + (ledger_size - profile_size)) 0) few
    ∙ (λ j. take_min profile_size p j ++ sym (replicate-append-replicate {A = ℕ} (profile_size - length p) (ledger_size - profile_size) 0) j)
    ∙ sym (append_assoc (take profile_size p) (replicate (profile_size - length p) 0) (replicate (ledger_size - profile_size) 0))
    ∙ ap (λ (l : List ℕ). l ++ replicate (ledger_size - profile_size) 0) (sym (take_padded profile_size profile_size p (omega arith)))

-- as many bytes put over all of them
pub over_all : (d s : List ℕ) → length d ≡ length s → pasted d 0 s ≡ s
unfolding pasted
over_all d s e =
    let h : length d ≤ 0 + length s = omega arith in
    ap (λ (l : List ℕ). s ++ l) (drop_of_length-le d h) ∙ append-nil s

-- with every cell unpromised it is the ledger of a fresh session
pub start_numbers : (p : List ℕ) → set (kept p ++ replicate (ledger_size - profile_size) 0) free_at cell_count ≡ ledger_of (start p)
unfolding ledger_of heads_of start blocks timer_numbers left_of started_of chan_numbers entry closed queue places unpromised promised promised_to cells
start_numbers p =
    let k : length (kept p) ≡ profile_size = (start_sound p).thirteen in
    set-append_right (kept p) (replicate (ledger_size - profile_size) 0) profile_size free_at cell_count k (omega arith)

-- nothing is held, so the pool is empty
pub empty_pool : (p : List ℕ) → replicate pool_size 0 ≡ pool_of (start p)
unfolding pool_of start pad regions region closed space cells queue
empty_pool p = refl
