-- The printed line: two digits for each byte, "--", or R and the number, and the line feed.
-- Assumes nothing.
use Prim.Native.Nat.{ℕ, ◌+◌, ◌-◌, ◌*◌, ◌/◌, ◌%◌, ◌≤◌, ◌<◌}
use mathlib.Core.Path.{◌≡◌, refl, sym, ap, subst, ◌∙◌}
use mathlib.Core.List.{List, [], ◌∷◌, ◌++◌, append_assoc}
use native.Mathlib.Omega.{arith}
use lib.ListN.{length, get_or, set, take, drop, length-append, length-drop}
use lib.Seq.{length-take-le}
use Rattle.std.proofs.lemmas.List.{take_more}
use borrow.Author.Rules.{part_to_end}
use borrow.Author.Tests.{lt-ltb}
use Rattle.rules.specs.declared.Refusal.{Refusal}
use Rattle.rules.specs.Words.{number_of}
use Rattle.rules.specs.Command.{wrote, refused}
use Rattle.rules.specs.Lines.{digit_of, hex, last_digit, zeros_before, decimal, printed}
use Rattle.rules.proofs.Laws.{branch, stop}
use Rattle.rules.proofs.Told.{number_small}
use Rattle.rules.specs.Words.{Ended}
use Rattle.std.specs.Prelude.{Ok, Err}
use Rattle.text.specs.Sizes.{least_value, short_line}
use Rattle.text.specs.Prints.{line_of, count_of, outcome_of, Prints}
use Rattle.octets.proofs.Stores.{store_one}
use Rattle.octets.specs.Parts.{part, pasted}
use Rattle.octets.proofs.Pastes.{paste_after}

pub hex_size : (s : List ℕ) → length (hex s) ≡ 2 * length s
unfolding hex
hex_size [] = refl
hex_size (b ∷ s) = let e = hex_size s in omega arith

-- two prints in a row are one
pub prints_after :
    {s t before middle after : List ℕ} {at m e : ℕ} → Prints s m before at middle → Prints t e middle m after → at + length s ≤ length before →
    Prints (s ++ t) e before at after
prints_after {s} {t} {before} {at = at} p q h =
    let l = length-append s t in
    record { stands = q.stands ∙ (λ i. pasted (p.stands i) (p.place i) t) ∙ paste_after before at s h t; place = omega (arith, p.place, q.place) }

-- what is printed, under another name
pub prints_as : {s t before after : List ℕ} {at e : ℕ} → s ≡ t → Prints s e before at after → Prints t e before at after
prints_as {before = before} {after} {at} {e} q p = subst (λ (l : List ℕ). Prints l e before at after) q p

-- two digits more
hex_after : (s t : List ℕ) → hex (s ++ t) ≡ hex s ++ hex t
unfolding hex
hex_after [] t = refl
hex_after (b ∷ s) t = ap (λ (l : List ℕ). digit_of (b / 16) ∷ digit_of (b % 16) ∷ l) (hex_after s t)

pub hexed_size : (s : List ℕ) (i : ℕ) → i ≤ length s → length (hex (take i s)) ≡ 2 * i
hexed_size s i h = hex_size (take i s) ∙ ap (λ (k : ℕ). 2 * k) (length-take-le i s h)

pub hexed_more :
    (s : List ℕ) (i : ℕ) {before x y z : List ℕ} {at k m e v u : ℕ} → Prints (hex (take i s)) k before at x → Prints (v ∷ []) m x k y → Prints (u ∷ []) e y m z →
    i < length s → at + 2 * length s ≤ length before → v ≡ digit_of (get_or s i 0 / 16) → u ≡ digit_of (get_or s i 0 % 16) → Prints (hex (take (i + 1) s)) e before at z
unfolding hex
hexed_more s i {v = v} {u} p q w h room d f =
    let n = hexed_size s i (omega arith) in
    let l = length-append (hex (take i s)) (v ∷ []) in
    let whole = ap hex (take_more s i 0 h) ∙ hex_after (take i s) (get_or s i 0 ∷ []) in
    prints_as (append_assoc (hex (take i s)) (v ∷ []) (u ∷ []) ∙ (λ j. hex (take i s) ++ d j ∷ f j ∷ []) ∙ sym whole) (prints_after (prints_after p q (omega arith)) w (omega arith))

-- a character alone
pub char_printed : (before : List ℕ) (at c : ℕ) → at < length before → Prints (c ∷ []) (at + 1) before at (set before at c)
char_printed before at c h = record { stands = store_one before at c h; place = refl }

-- zeros in front: at most three, and two below 100
pub zeros_few : (n : ℕ) → zeros_before n ≤ 3
unfolding zeros_before
zeros_few n = branch P _ _ _ (λ _. omega arith) (λ _. branch P _ _ _ (λ _. omega arith) (λ _. branch P _ _ _ (λ _. omega arith) (λ _. omega arith)))
  where
    P : ℕ → Type 0
    P k = k ≤ 3

zeros_more : (n : ℕ) → n < 100 → 2 ≤ zeros_before n
unfolding zeros_before
zeros_more n h = branch (λ (k : ℕ). 2 ≤ k) _ _ _ (λ _. omega arith) (λ _. rw (stop {A = ℕ} _ 2 _ (lt-ltb n 100 h)) (omega arith))

-- what stands behind the zeros of four digits
module _ (n a b c d z : ℕ) (e : a ≡ last_digit (n / 1000)) (f : b ≡ last_digit (n / 100)) (g : c ≡ last_digit (n / 10)) (h : d ≡ last_digit n) (is : z ≡ zeros_before n) where
  digits : part z 4 (a ∷ b ∷ c ∷ d ∷ []) ≡ decimal n
  unfolding decimal
  digits = part_to_end (a ∷ b ∷ c ∷ d ∷ []) z ∙ (λ i. drop (is i) (e i ∷ f i ∷ g i ∷ h i ∷ []))

  size : length (decimal n) ≡ 4 - z
  unfolding decimal
  size = length-drop (zeros_before n) (last_digit (n / 1000) ∷ last_digit (n / 100) ∷ last_digit (n / 10) ∷ last_digit n ∷ []) ∙ ap (λ (k : ℕ). 4 - k) (sym is)

  pub digits_room : (at l : ℕ) → at + length (decimal n) ≤ l → (z ≤ 4) × (4 ≤ length (a ∷ b ∷ c ∷ d ∷ [])) × (at + (4 - z) ≤ l)
  digits_room at l k = let s = size in (let m = zeros_few n in omega arith, omega arith, omega arith)

  pub digits_printed :
      {before after : List ℕ} {at : ℕ} → after ≡ pasted before at (part z 4 (a ∷ b ∷ c ∷ d ∷ [])) → Prints (decimal n) (at + (4 - z)) before at after
  digits_printed {before} {at = at} w = record { stands = w ∙ ap (pasted before at) digits; place = let s = size in omega arith }

-- at most four digits, and two of a refusal
pub decimal_few : (n : ℕ) → length (decimal n) ≤ 4
unfolding decimal
decimal_few n = let l = length-drop (zeros_before n) (last_digit (n / 1000) ∷ last_digit (n / 100) ∷ last_digit (n / 10) ∷ last_digit n ∷ []) in omega arith

pub refusal_few : (r : Refusal) → length (decimal (number_of r)) ≤ 2
unfolding decimal
refusal_few r =
    let n = number_of r in
    let l = length-drop (zeros_before n) (last_digit (n / 1000) ∷ last_digit (n / 100) ∷ last_digit (n / 10) ∷ last_digit n ∷ []) in
    let two = zeros_more n (let k = number_small r in omega arith) in
    omega arith

-- a value that has no bytes, and one that has
pub none_printed : (s before : List ℕ) (at : ℕ) (after : List ℕ) → length s ≡ 0 → after ≡ pasted before at (45 ∷ 45 ∷ []) → Prints (printed (wrote s)) (at + 2) before at after
unfolding printed
none_printed [] before at after e w = record { stands = w; place = refl }
none_printed (b ∷ s) before at after e w = absurd (let z : length (b ∷ s) ≡ 0 = e in omega arith)

pub bytes_printed :
    (s before : List ℕ) (at r : ℕ) (after : List ℕ) → 0 < length s → Prints (hex s) r before at after → Prints (printed (wrote s)) r before at after
unfolding printed
bytes_printed [] before at r after n w = absurd (let z : 0 < 0 = n in omega arith)
bytes_printed (b ∷ s) before at r after n w = w

-- two digits for each byte, or two dashes
pub value_few : (s : List ℕ) → length (printed (wrote s)) ≤ 2 * length s + least_value
unfolding printed
value_few [] = omega arith
value_few (b ∷ s) = let e = hex_size (b ∷ s) in omega arith

-- R and at most two digits
pub refused_few : (r : Refusal) → length (printed (refused r)) ≤ 3
unfolding printed
refused_few r = let few = refusal_few r in omega arith

-- R, the number and the line feed
pub refused_line :
    (r : Refusal) (n : ℕ) {before x y z : List ℕ} {at k m e : ℕ} → n ≡ number_of r → at + short_line ≤ length before →
    Prints (82 ∷ []) k before at x → Prints (decimal n) m x k y → Prints (10 ∷ []) e y m z → Prints (line_of (refused r)) e before at z
unfolding printed
refused_line r n is h p q w =
    let few = refusal_few r in
    let size = ap (λ (k : ℕ). length (decimal k)) is in
    prints_as (ap (λ (k : ℕ). 82 ∷ decimal k ++ 10 ∷ []) is) (prints_after (prints_after p q (omega arith)) w (omega arith))

-- by how the call ended
module _ (s : List ℕ) {x : Ended} {before after : List ℕ} {at r : ℕ} where
  pub written_printed : (k : ℕ) → x ≡ Ok k → Prints (line_of (wrote (take k s))) r before at after → Prints (line_of (outcome_of x s)) r before at after
  unfolding outcome_of
  written_printed k e w = prints_as (ap (λ (y : Ended). line_of (outcome_of y s)) (sym e)) w

  pub refusal_printed : (f : Refusal) → x ≡ Err f → Prints (line_of (refused f)) r before at after → Prints (line_of (outcome_of x s)) r before at after
  unfolding outcome_of
  refusal_printed f e w = prints_as (ap (λ (y : Ended). line_of (outcome_of y s)) (sym e)) w

-- the bytes that a call wrote are there
pub front_size : (x : Ended) (k : ℕ) (s : List ℕ) → x ≡ Ok k → count_of x ≤ length s → k ≡ length (take k s)
unfolding count_of
front_size x k s e h = let c = ap count_of e in sym (length-take-le k s (omega arith))
