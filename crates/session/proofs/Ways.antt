-- The places of one way among the numbers of a ledger: read, one length more, and fewer bytes from the first.
-- Assumes nothing.
use Prim.Native.Nat.{ℕ, suc, ◌+◌, ◌-◌, ◌≤◌, ◌<◌}
use mathlib.Core.Path.{◌≡◌, refl, sym, ap, ◌∙◌}
use mathlib.Core.Bool.{Bool, true, false}
use mathlib.Core.List.{List, [], ◌∷◌, ◌++◌, append_assoc}
use native.Mathlib.Omega.{arith}
use native.Mathlib.Nat.{add-zero}
use lib.ListN.{length, take, drop, get_or, set, length-append, length-drop, get_or-append}
use lib.Seq.{take_at, drop_at, drop-append-le, drop-append-add, get_or-append-add}
use lib.Dec.{ltb}
use Rattle.rules.specs.declared.Way.{Way}
use Rattle.rules.specs.declared.Way.TheVariants.{Receive, Send}
use Rattle.rules.specs.Checks.{◌⇒◌else◌}
use Rattle.rules.specs.Datagrams.{place_count, another, lessened}
use Rattle.rules.specs.State.{Chan, queue, with_queue, held}
use Rattle.rules.proofs.Datagrams.{Some, first}
use Rattle.std.proofs.lemmas.List.{set-append_left, set-append_right}
use Rattle.octets.specs.Parts.{part, pasted}
use Rattle.octets.proofs.Pastes.{paste_parts}
use Rattle.session.specs.Book.{numbers_of, lengths_in_entry, lengths_from, places}
use Rattle.session.specs.Picture.{entry, chan_numbers}
use Rattle.session.proofs.Places.{places_size, places_read, places_more, places_less, places_first}

either_parts : (b : Bool) (f g x y : List ℕ) → (b ⇒ f ++ (x ++ g) else f ++ (y ++ g)) ≡ f ++ ((b ⇒ x else y) ++ g)
unfolding ◌⇒◌else◌
either_parts true f g x y = refl
either_parts false f g x y = refl

module _ (f g ls : List ℕ) (at : ℕ) (e : length f ≡ at) where
  abbrev t : List ℕ
  t = f ++ (places ls ++ g)

  pub way_read : Some ls → length ls ≤ place_count → lengths_from place_count (drop at t) ≡ ls
  way_read h l = ap (lengths_from place_count) (drop_at f (places ls ++ g) at e) ∙ places_read ls g h l

  pub way_get : (i : ℕ) → i < place_count → get_or t (at + i) 0 ≡ get_or (places ls) i 0
  way_get i h =
      ap (λ (k : ℕ). get_or t k 0) (let q : at + i ≡ length f + i = omega arith in q) ∙ get_or-append-add f (places ls ++ g) i 0
      ∙ get_or-append (places ls) g 0 i (omega (arith, places_size ls))

  way_set : (i v : ℕ) → i < place_count → set t (at + i) v ≡ f ++ (set (places ls) i v ++ g)
  way_set i v h =
      set-append_right f (places ls ++ g) at (at + i) v e (omega arith) ∙ ap (λ (k : ℕ). f ++ set (places ls ++ g) k v) (let q : at + i - at ≡ i = omega arith in q)
      ∙ ap (λ (l : List ℕ). f ++ l) (set-append_left (places ls) g i v (omega (arith, places_size ls)))

  pub way_more : (k : ℕ) → length ls < place_count → set t (at + length ls) (suc k) ≡ f ++ (places (another ls (suc k)) ++ g)
  way_more k h = way_set (length ls) (suc k) h ∙ ap (λ (l : List ℕ). f ++ (l ++ g)) (places_more ls k h)

  pub way_first : get_or t at 0 ≡ first ls
  way_first = ap (λ (k : ℕ). get_or t k 0) (sym (add-zero at)) ∙ way_get 0 (omega arith) ∙ places_first ls

  way_part : part (at + 1) (at + place_count) t ≡ drop 1 (places ls)
  way_part =
      let n = places_size ls in
      let q : at + 1 ≡ length f + 1 = omega arith in
      let m : at + place_count - (at + 1) ≡ 15 = omega arith in
      (λ i. take (m i) (drop (q i) t)) ∙ ap (take 15) (drop-append-add f (places ls ++ g) 1 ∙ drop-append-le 1 (places ls) g (omega arith))
      ∙ take_at (drop 1 (places ls)) g 15 (let d = length-drop 1 (places ls) in omega arith)

  pub way_less :
      (k : ℕ) → length ls ≤ place_count →
      (ltb k (get_or t at 0) ⇒ set t at (get_or t at 0 - k) else pasted t at (part (at + 1) (at + place_count) t ++ 0 ∷ [])) ≡ f ++ (places (lessened ls k) ++ g)
  way_less k h =
      let n = places_size ls in
      let x : get_or t at 0 ≡ get_or (places ls) 0 0 = ap (λ (j : ℕ). get_or t j 0) (sym (add-zero at)) ∙ way_get 0 (omega arith) in
      let shorter = ap (λ (j : ℕ). set t j (get_or t at 0 - k)) (sym (add-zero at)) ∙ way_set 0 (get_or t at 0 - k) (omega arith) in
      let moved = ap (λ (l : List ℕ). pasted t at (l ++ 0 ∷ [])) way_part
      ∙ paste_parts f (places ls) (drop 1 (places ls) ++ 0 ∷ []) g at e
      (let a = length-append (drop 1 (places ls)) (0 ∷ []) in let d = length-drop 1 (places ls) in omega arith) in
      (λ i. ltb k (x i) ⇒ shorter i else moved i)
      ∙ (λ i. ltb k (get_or (places ls) 0 0) ⇒ f ++ (set (places ls) 0 (x i - k) ++ g) else f ++ ((drop 1 (places ls) ++ 0 ∷ []) ++ g))
      ∙ either_parts (ltb k (get_or (places ls) 0 0)) f g (set (places ls) 0 (get_or (places ls) 0 0 - k)) (drop 1 (places ls) ++ 0 ∷ [])
      ∙ ap (λ (l : List ℕ). f ++ (l ++ g)) (places_less ls k h)

-- the numbers of a channel, at the places of a way
abbrev pub way_front : List ℕ → Chan → Way → List ℕ
way_front b d Receive = b ++ numbers_of (entry d)
way_front b d Send = b ++ (numbers_of (entry d) ++ places d.receive.lengths)

abbrev pub way_rest : List ℕ → Chan → Way → List ℕ
way_rest r d Receive = places d.send.lengths ++ r
way_rest r d Send = r

pub way_parts : (b r : List ℕ) (d : Chan) (w : Way) → b ++ (chan_numbers d ++ r) ≡ way_front b d w ++ (places (queue d w).lengths ++ way_rest r d w)
unfolding chan_numbers queue
way_parts b r d Receive =
    let x = numbers_of (entry d) in
    let p = places d.receive.lengths in
    let q = places d.send.lengths in
    ap (λ (l : List ℕ). b ++ l) (append_assoc x (p ++ q) r ∙ ap (λ (l : List ℕ). x ++ l) (append_assoc p q r)) ∙ sym (append_assoc b x (p ++ (q ++ r)))
way_parts b r d Send =
    let x = numbers_of (entry d) in
    let p = places d.receive.lengths in
    let q = places d.send.lengths in
    ap (λ (l : List ℕ). b ++ l) (append_assoc x (p ++ q) r ∙ ap (λ (l : List ℕ). x ++ l) (append_assoc p q r) ∙ sym (append_assoc x p (q ++ r)))
    ∙ sym (append_assoc b (x ++ p) (q ++ r))

pub way_size : (b : List ℕ) (d : Chan) (at : ℕ) (w : Way) → length b ≡ at → length (way_front b d w) ≡ at + lengths_in_entry w
way_size b d at Receive e = let l = length-append b (numbers_of (entry d)) in omega arith
way_size b d at Send e =
    let x = numbers_of (entry d) in
    let p = places d.receive.lengths in
    let l = length-append b (x ++ p) in
    let m = length-append x p in
    omega (arith, places_size d.receive.lengths)

-- other lengths for a way change its places alone
pub other_lengths :
    (b r : List ℕ) (d : Chan) (w : Way) (ms : List ℕ) →
    b ++ (chan_numbers (with_queue d w (record { bytes = held d w; lengths = ms })) ++ r) ≡ way_front b d w ++ (places ms ++ way_rest r d w)
unfolding entry with_queue queue
other_lengths b r d Receive ms = way_parts b r (with_queue d Receive (record { bytes = held d Receive; lengths = ms })) Receive
other_lengths b r d Send ms = way_parts b r (with_queue d Send (record { bytes = held d Send; lengths = ms })) Send
