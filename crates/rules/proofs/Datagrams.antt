-- Laws of datagrams among bytes: one more, fewer bytes from the front, and the datagrams that lengths cut out of bytes.
-- Assumes nothing.
use Prim.Native.Nat.{ℕ, zero, suc, ◌+◌, ◌-◌, ◌≤◌, min}
use mathlib.Core.Path.{◌≡◌, refl, sym, ap, ◌∙◌}
use mathlib.Core.Bool.{Bool, true, false, true≢false, false≢true}
use mathlib.Core.List.{List, [], ◌∷◌, ◌++◌, append-nil, append_assoc, map}
use native.Mathlib.Omega.{arith}
use lib.ListN.{length, get_or, take, drop, length-append, length-drop}
use lib.Seq.{take_all, take-nil, take-append-le, drop-append-le, drop-append_seam, drop-drop, length-take-le}
use lib.Dec.{ltb}
use borrow.Author.Tests.{lt-ltb, le-ltb, ltb-true, ltb-false}
use Rattle.rules.specs.Checks.{◌⇒◌else◌, is_empty}
use Rattle.rules.specs.Datagrams.{another, lessened, total, pieces, behind, joined_by, bytes_of}
use Rattle.rules.specs.Sound.{Each}
use Rattle.rules.proofs.Laws.{stop, skip, branch, each_append}

-- every datagram has bytes
abbrev pub Some : List ℕ → Type 0
Some ls = Each (λ (k : ℕ). 1 ≤ k) ls

-- the first length, 0 where there is none
abbrev pub first : List ℕ → ℕ
first ls = get_or ls 0 0

total_append : (ls ms : List ℕ) → total (ls ++ ms) ≡ total ls + total ms
unfolding total
total_append [] ms = omega arith
total_append (x ∷ ls) ms = let e = total_append ls ms in omega arith

-- one datagram more
pub total_another : (ls : List ℕ) (k : ℕ) → total (another ls k) ≡ total ls + k
unfolding another total
total_another ls zero = omega arith
total_another ls (suc k) = let e = total_append ls (suc k ∷ []) in omega arith

pub length_another : (ls : List ℕ) (k : ℕ) → length (another ls k) ≡ length ls + min 1 k
unfolding another
length_another ls zero = omega arith
length_another ls (suc k) = let e = length-append ls (suc k ∷ []) in omega arith

pub some_another : (ls : List ℕ) (k : ℕ) → Some ls → Some (another ls k)
unfolding another
some_another ls zero h = h
some_another ls (suc k) h = each_append (λ (j : ℕ). 1 ≤ j) ls (suc k ∷ []) h (omega arith, tt)

-- bytes fewer, from the first
pub first_total : (ls : List ℕ) → first ls ≤ total ls
unfolding total
first_total [] = omega arith
first_total (x ∷ ls) = omega arith

pub total_lessened : (ls : List ℕ) (k : ℕ) → k ≤ first ls → total (lessened ls k) + k ≡ total ls
unfolding lessened total
total_lessened [] k h = omega arith
total_lessened (x ∷ ls) k h =
    branch (λ (ms : List ℕ). total ms + k ≡ x + total ls) (ltb k x) _ _ (λ e. let l = ltb-true k x e in omega arith) (λ e. let l = ltb-false k x e in omega arith)

pub length_lessened : (ls : List ℕ) (k : ℕ) → length (lessened ls k) ≤ length ls
unfolding lessened
length_lessened [] k = omega arith
length_lessened (x ∷ ls) k = branch (λ (ms : List ℕ). length ms ≤ suc (length ls)) (ltb k x) _ _ (λ _. omega arith) (λ _. omega arith)

pub some_lessened : (ls : List ℕ) (k : ℕ) → Some ls → Some (lessened ls k)
unfolding lessened
some_lessened [] k h = tt
some_lessened (x ∷ ls) k h = branch Some (ltb k x) _ _ (λ e. let l = ltb-true k x e in (omega arith, h.1)) (λ _. h.1)

-- the datagrams of lengths: as many, the first of them, and their lengths
pub length_pieces : (ls s : List ℕ) → length (pieces ls s) ≡ length ls
unfolding pieces
length_pieces [] s = refl
length_pieces (x ∷ ls) s = ap suc (length_pieces ls (drop x s))

pub pieces_lengths : (ls s : List ℕ) → total ls ≤ length s → map (λ (d : List ℕ). length d) (pieces ls s) ≡ ls
unfolding pieces total
pieces_lengths [] s h = refl
pieces_lengths (x ∷ ls) s h =
    let d = length-drop x s in
    let e = length-take-le x s (omega arith) in
    λ i. e i ∷ pieces_lengths ls (drop x s) (omega arith) i

pub first_piece : (ls s : List ℕ) → total ls ≤ length s → length (get_or (pieces ls s) 0 []) ≡ first ls
unfolding pieces total
first_piece [] s h = refl
first_piece (x ∷ ls) s h = length-take-le x s (omega arith)

pub first_taken : (ls s : List ℕ) → get_or (pieces ls s) 0 [] ≡ take (first ls) s
unfolding pieces
first_taken [] s = refl
first_taken (x ∷ ls) s = refl

-- bytes behind those of the datagrams do not matter
pub pieces_front : (ls s t : List ℕ) → total ls ≤ length s → pieces ls (s ++ t) ≡ pieces ls s
unfolding pieces total
pieces_front [] s t h = refl
pieces_front (x ∷ ls) s t h =
    let d = length-drop x s in
    (λ i. take-append-le x s t (omega arith) i ∷ pieces ls (drop-append-le x s t (omega arith) i))
    ∙ ap (λ (ds : List (List ℕ)). take x s ∷ ds) (pieces_front ls (drop x s) t (omega arith))

drop_take : (k x : ℕ) (s : List ℕ) → drop k (take x s) ≡ take (x - k) (drop k s)
drop_take zero x s = let e : x ≡ x - 0 = omega arith in ap (λ (m : ℕ). take m s) e
drop_take (suc k) zero s = let e : 0 ≡ 0 - suc k = omega arith in ap (λ (m : ℕ). take m (drop (suc k) s)) e
drop_take (suc k) (suc x) [] = sym (take-nil (suc x - suc k))
drop_take (suc k) (suc x) (y ∷ s) = let e : x - k ≡ suc x - suc k = omega arith in drop_take k x s ∙ ap (λ (m : ℕ). take m (drop k s)) e

-- one length more cuts out one datagram more, from what lies behind the others
pieces_last : (ls : List ℕ) (k : ℕ) (s : List ℕ) → pieces (ls ++ k ∷ []) s ≡ pieces ls s ++ take k (drop (total ls) s) ∷ []
unfolding pieces total
pieces_last [] k s = refl
pieces_last (x ∷ ls) k s =
    ap (λ (ds : List (List ℕ)). take x s ∷ ds)
    (pieces_last ls k (drop x s) ∙ ap (λ (t : List ℕ). pieces ls (drop x s) ++ take k t ∷ []) (drop-drop (total ls) x s))

empty_none : (t : List ℕ) → length t ≡ 0 → is_empty t ≡ true
unfolding is_empty
empty_none [] h = refl
empty_none (x ∷ t) h = absurd (omega arith)

empty_some : (t : List ℕ) (k : ℕ) → length t ≡ suc k → is_empty t ≡ false
unfolding is_empty
empty_some [] k h = absurd (omega arith)
empty_some (x ∷ t) k h = refl

none_empty : (t : List ℕ) → is_empty t ≡ true → t ≡ []
unfolding is_empty
none_empty [] e = refl
none_empty (x ∷ t) e = absurd (false≢true e)

-- the rest behind the datagrams is one more; no rest is none
pub pieces_rest : (ls s : List ℕ) (k : ℕ) → total ls + k ≡ length s → pieces (another ls k) s ≡ joined_by (pieces ls s) (drop (total ls) s)
unfolding another joined_by
pieces_rest ls s zero h = let e = length-drop (total ls) s in sym (stop _ _ _ (empty_none (drop (total ls) s) (omega arith)))
pieces_rest ls s (suc k) h =
    let t = drop (total ls) s in
    let e = length-drop (total ls) s in
    pieces_last ls (suc k) s ∙ ap (λ (u : List ℕ). pieces ls s ++ u ∷ []) (take_all (suc k) t (omega arith)) ∙ sym (skip _ _ _ (empty_some t k (omega arith)))

-- bytes that come behind all datagrams are one more
pub pieces_more : (ls s t : List ℕ) → total ls ≡ length s → pieces (another ls (length t)) (s ++ t) ≡ joined_by (pieces ls s) t
pieces_more ls s t h =
    let e = length-append s t in
    pieces_rest ls (s ++ t) (length t) (omega arith)
    ∙ (λ i. joined_by (pieces_front ls s t (omega arith) i) ((ap (λ (k : ℕ). drop k (s ++ t)) h ∙ drop-append_seam s t) i))

-- datagrams without bytes from their front: twice is once
pub behind_add : (j k : ℕ) (ds : List (List ℕ)) → behind (j + k) ds ≡ behind k (behind j ds)
unfolding behind
behind_add j k [] = refl
behind_add j k (d ∷ ds) =
    branch (λ (es : List (List ℕ)). behind (j + k) (d ∷ ds) ≡ behind k es) (ltb j (length d)) _ _ within (past (behind_add (j - length d) k ds))
  where
    within : ltb j (length d) ≡ true → behind (j + k) (d ∷ ds) ≡ behind k (drop j d ∷ ds)
    within e =
        let l = ltb-true j (length d) e in
        let n = length-drop j d in
        branch (λ (es : List (List ℕ)). es ≡ behind k (drop j d ∷ ds)) (ltb (j + k) (length d)) _ _
        (λ f.
        let m = ltb-true (j + k) (length d) f in
        sym (stop _ _ _ (lt-ltb k (length (drop j d)) (omega arith)) ∙ ap (λ (t : List ℕ). t ∷ ds) (drop-drop k j d)))
        (λ f.
        let m = ltb-false (j + k) (length d) f in
        let same : k - length (drop j d) ≡ j + k - length d = omega arith in
        sym (skip _ _ _ (le-ltb k (length (drop j d)) (omega arith)) ∙ ap (λ (i : ℕ). behind i ds) same))

    past :
        behind (j - length d + k) ds ≡ behind k (behind (j - length d) ds) → ltb j (length d) ≡ false → behind (j + k) (d ∷ ds) ≡ behind k (behind (j - length d) ds)
    past rest e =
        let l = ltb-false j (length d) e in
        let same : j + k - length d ≡ j - length d + k = omega arith in
        skip _ _ _ (le-ltb (j + k) (length d) (omega arith)) ∙ ap (λ (i : ℕ). behind i ds) same ∙ rest

-- one datagram more behind them stays whole
behind_last :
    (k : ℕ) (ds : List (List ℕ)) (s : List ℕ) → is_empty s ≡ false → k ≤ length (bytes_of ds) → behind k (ds ++ s ∷ []) ≡ behind k ds ++ s ∷ []
unfolding behind bytes_of is_empty ◌⇒◌else◌
behind_last k ds [] e h = absurd (true≢false e)
behind_last zero [] (x ∷ s) e h = stop _ _ _ (lt-ltb 0 (length (x ∷ s)) (omega arith))
behind_last (suc k) [] (x ∷ s) e h = absurd (omega arith)
behind_last k (d ∷ ds) (x ∷ s) e h =
    let n = length-append d (bytes_of ds) in
    by (ltb k (length d)) (behind_last (k - length d) ds (x ∷ s) e (omega arith))
  where
    by :
        (b : Bool) → behind (k - length d) (ds ++ (x ∷ s) ∷ []) ≡ behind (k - length d) ds ++ (x ∷ s) ∷ [] →
        (b ⇒ drop k d ∷ (ds ++ (x ∷ s) ∷ []) else behind (k - length d) (ds ++ (x ∷ s) ∷ [])) ≡ (b ⇒ drop k d ∷ ds else behind (k - length d) ds) ++ (x ∷ s) ∷ []
    by true q = refl
    by false q = q

pub behind_more : (k : ℕ) (ds : List (List ℕ)) (s : List ℕ) → k ≤ length (bytes_of ds) → behind k (joined_by ds s) ≡ joined_by (behind k ds) s
unfolding joined_by ◌⇒◌else◌
behind_more k ds s h = by (is_empty s) refl
  where
    by : (b : Bool) → is_empty s ≡ b → behind k (b ⇒ ds else ds ++ s ∷ []) ≡ (b ⇒ behind k ds else behind k ds ++ s ∷ [])
    by true e = refl
    by false e = behind_last k ds s e h

-- datagrams that have bytes are all behind no bytes
behind_none : (ls s : List ℕ) → Some ls → total ls ≤ length s → behind 0 (pieces ls s) ≡ pieces ls s
unfolding behind pieces total
behind_none [] s h l = refl
behind_none (x ∷ ls) s h l = let e = length-take-le x s (omega arith) in stop _ _ _ (lt-ltb 0 (length (take x s)) (omega (arith, h.0)))

-- fewer bytes from the front, within the first datagram
pub pieces_less : (ls s : List ℕ) (k : ℕ) → Some ls → k ≤ first ls → total ls ≤ length s → pieces (lessened ls k) (drop k s) ≡ behind k (pieces ls s)
unfolding behind pieces lessened total
pieces_less [] s k h f l = refl
pieces_less (x ∷ ls) s k h f l =
    branch (λ (ms : List ℕ). pieces ms (drop k s) ≡ behind k (take x s ∷ pieces ls (drop x s))) (ltb k x) _ _
    (λ e.
    let m = ltb-true k x e in
    let n : k + (x - k) ≡ x = omega arith in
    (λ i. sym (drop_take k x s) i ∷ pieces ls ((drop-drop (x - k) k s ∙ ap (λ (j : ℕ). drop j s) n) i))
    ∙ sym (stop _ _ _ (lt-ltb k (length (take x s)) (omega (arith, size)))))
    (λ e.
    let m = ltb-false k x e in
    let same : k ≡ x = omega arith in
    let d = length-drop x s in
    let n = size in
    let none : 0 ≡ k - length (take x s) = omega arith in
    ap (λ (j : ℕ). pieces ls (drop j s)) same ∙ sym (behind_none ls (drop x s) h.1 (omega arith))
    ∙ ap (λ (j : ℕ). behind j (pieces ls (drop x s))) none
    ∙ sym (skip _ _ _ (le-ltb k (length (take x s)) (omega arith))))
  where
    size : length (take x s) ≡ x
    size = length-take-le x s (omega arith)

-- the first datagram goes whole
pub pieces_taken :
    (ds : List (List ℕ)) (ls s : List ℕ) → Some ls → total ls ≤ length s →
    joined_by ds (take (first ls) s) ++ pieces (lessened ls (first ls)) (drop (first ls) s) ≡ ds ++ pieces ls s
unfolding joined_by pieces lessened total is_empty
pieces_taken ds [] s h l = ap (λ (es : List (List ℕ)). es ++ []) (stop _ _ _ refl)
pieces_taken ds (x ∷ ls) s h l =
    let t = take x s in
    let e = length-take-le x s (omega arith) in
    let some = empty_some t (x - 1) (omega (arith, h.0)) in
    (λ i. skip (is_empty t) ds (ds ++ t ∷ []) some i ++ pieces (skip (ltb x x) ((x - x) ∷ ls) ls (le-ltb x x (omega arith)) i) (drop x s))
    ∙ append_assoc ds (t ∷ []) (pieces ls (drop x s))

-- their bytes, one after the other
bytes_append : (ds es : List (List ℕ)) → bytes_of (ds ++ es) ≡ bytes_of ds ++ bytes_of es
unfolding bytes_of
bytes_append [] es = refl
bytes_append (d ∷ ds) es = ap (λ (t : List ℕ). d ++ t) (bytes_append ds es) ∙ sym (append_assoc d (bytes_of ds) (bytes_of es))

pub bytes_joined : (ds : List (List ℕ)) (s : List ℕ) → bytes_of (joined_by ds s) ≡ bytes_of ds ++ s
unfolding joined_by bytes_of
bytes_joined ds s =
    branch (λ (es : List (List ℕ)). bytes_of es ≡ bytes_of ds ++ s) (is_empty s) _ _
    (λ e. sym (append-nil (bytes_of ds)) ∙ ap (λ (t : List ℕ). bytes_of ds ++ t) (sym (none_empty s e)))
    (λ _. bytes_append ds (s ∷ []) ∙ ap (λ (t : List ℕ). bytes_of ds ++ t) (append-nil s))
