-- The codings written byte by byte, and what a call leaves behind.
-- Assumes nothing.
use Prim.Native.Nat.{ℕ, zero, suc, ◌+◌, ◌-◌, ◌*◌, ◌/◌, ◌%◌, ◌≤◌, ◌<◌}
use mathlib.Core.Path.{◌≡◌, refl, sym, ap, subst, ◌∙◌}
use mathlib.Core.Bool.{Bool, true, false, ◌&&◌}
use mathlib.Core.List.{List, [], ◌∷◌, ◌++◌}
use mathlib.Core.Option.{Option, none, some}
use native.Mathlib.Omega.{arith}
use native.Mathlib.Nat.{zero-add}
use native.Mathlib.Numerals.{add-one}
use lib.ListN.{length, get_or, drop, set, length-append, length-set, drop_of_length-le}
use lib.Seq.{drop-cons}
use lib.Dec.{ltb, leb}
use borrow.Author.Tests.{lt-ltb, le-ltb, leb-true, ltb-true}
use Rattle.rules.specs.Checks.{◌⇒◌else◌}
use Rattle.rules.specs.Sound.{Each}
use Rattle.rules.specs.Words.{Ended}
use Rattle.std.specs.Prelude.{Ok, Err, Option as CodeOption, Some, None, IsSome}
use Rattle.rules.specs.declared.Refusal.TheVariants.{ShortText}
use Rattle.rules.proofs.Laws.{stop, skip, both, both_left, both_right}
use Rattle.octets.specs.Parts.{pasted, overlaid}
use Rattle.octets.proofs.Pastes.{front_over, paste_after, length_pasted}
use Rattle.octets.proofs.Stores.{store_one}
use Rattle.octets.proofs.Copies.{Copied, copied_none, copied_more, copied_all}
use Rattle.text.specs.Frames.{readable, frame_bytes}
use Rattle.alpha.specs.Alphabet.{escape, code_of, extension_code_of}
use Rattle.alpha.specs.Writes.{before, needs, default_coding, pair_bytes, pair_coding, serves, based_byte, based_bytes, block_with, block_serves, base_with, base_serves}
use Rattle.alpha.specs.Calls.{fitted, laid}
use Rattle.alpha.specs.Passes.{told, CodedBy, Ends}
use Rattle.alpha.proofs.Fronts.{Front, front_none, front_room, front_more, front_all}
use Rattle.alpha.proofs.Texts.{told_some, told_none, head_within, head_is, head_rest, rest_none}
use Rattle.alpha.proofs.Codings.{halves, needs_none, coding_plain, coding_extended, coding_none, pairs_long, pair_size, based_long, there_is}

-- bytes that stand in front of a coding that is there
pub record Fronts (s : List ℕ) (o : Option (List ℕ)) (t : List ℕ) : Type 0 where
  pub rest : List ℕ
  pub there : o ≡ some rest
  pub is : t ≡ s ++ rest

pub fronts : (s : List ℕ) (o : Option (List ℕ)) (t : List ℕ) → before s o ≡ some t → Fronts s o t
unfolding before frame_bytes
fronts s none t e = absurd (let z : ◌≡◌ {A = ℕ} 0 1 = cc in omega arith)
fronts s (some w) t e = record { rest = w; there = refl; is = ap frame_bytes (sym e) }

-- the first n bytes of the default alphabet stand in the buffer, and the rest of the units gives the others
pub record Laying (us before : List ℕ) (n i : ℕ) (after : List ℕ) : Type 0 where
  pub left : default_coding (drop i us) ≡ some (drop n (frame_bytes (default_coding us)))
  pub front : Front (frame_bytes (default_coding us)) before n after

pub laying_none : (us before : List ℕ) → readable (default_coding us) ≡ true → length (frame_bytes (default_coding us)) ≤ length before → Laying us before 0 0 before
laying_none us before e h = record { left = there_is (default_coding us) e; front = front_none _ before h }

pub laying_as : {us before : List ℕ} {n m i : ℕ} {after behind : List ℕ} → m ≡ n → behind ≡ after → Laying us before n i after → Laying us before m i behind
laying_as {us} {before} {n} {m} {i} {after} {behind} e f w = subst (λ (k : ℕ). Laying us before k i behind) (sym e) (subst (λ (d : List ℕ). Laying us before n i d) (sym f) w)

module _ (us before : List ℕ) (n i : ℕ) (after : List ℕ) (w : Laying us before n i after) where
  pub laying_end : length us ≤ i → after ≡ overlaid (frame_bytes (default_coding us)) before
  unfolding default_coding frame_bytes
  laying_end h =
      let e : some [] ≡ some (drop n (frame_bytes (default_coding us))) = sym (ap default_coding (drop_of_length-le us h)) ∙ w.left in
      front_all _ before n after w.front (rest_none _ n (sym (ap frame_bytes e)))

  module _ (h : i < length us) where
    here : drop i us ≡ get_or us i 0 ∷ drop (i + 1) us
    here = drop-cons us i 0 h ∙ ap (λ (k : ℕ). get_or us i 0 ∷ drop k us) (sym (add-one i))

    pub laying_code : (c : ℕ) → Some c ≡ told (code_of (get_or us i 0)) → (n < length after) × Laying us before (n + 1) (i + 1) (set after n c)
    laying_code c f =
        let s = frame_bytes (default_coding us) in
        let d = sym (ap default_coding here ∙ coding_plain (get_or us i 0) (drop (i + 1) us) c (told_some _ _ c f refl)) ∙ w.left in
        let r = fronts (c ∷ []) _ _ d in
        let k = head_within s n c r.rest r.is in (
          front_room s before n after w.front k,
          record {
            left = r.there ∙ ap some (sym (head_rest s n c r.rest r.is));
            front = front_more s before n after w.front c k (sym (head_is s n c r.rest r.is));
          },
        )

    module _ (f : None ≡ told (code_of (get_or us i 0))) where
      pub laying_coded : (x : CodeOption ℕ) → x ≡ told (extension_code_of (get_or us i 0)) → IsSome x
      laying_coded None g =
          let d = sym (ap default_coding here ∙ coding_none (get_or us i 0) (drop (i + 1) us) (told_none _ _ f refl) (told_none _ _ g refl)) ∙ w.left in
          absurd (let z : ◌≡◌ {A = ℕ} 0 1 = cc in omega arith)
      laying_coded (Some c) g = refl

      pub laying_extended :
          (c : ℕ) → told (extension_code_of (get_or us i 0)) ≡ Some c →
          (n + 1 < length after) × Laying us before (n + 2) (i + 1) (set (set after n escape) (n + 1) c)
      laying_extended c y =
          let s = frame_bytes (default_coding us) in
          let d = sym (ap default_coding here ∙ coding_extended (get_or us i 0) (drop (i + 1) us) c (told_none _ _ f refl) (told_some _ _ c refl y)) ∙ w.left in
          let r = fronts (escape ∷ c ∷ []) _ _ d in
          let k = head_within s n escape (c ∷ r.rest) r.is in
          let q = head_rest s n escape (c ∷ r.rest) r.is in
          let l = head_within s (n + 1) c r.rest q in
          let two : n + 1 + 1 ≡ n + 2 = omega arith in
          let one = front_more s before n after w.front escape k (sym (head_is s n escape (c ∷ r.rest) r.is)) in (
            (let m = length-set after n escape in let o = front_room s before (n + 1) (set after n escape) one l in omega arith),
            record {
              left = r.there ∙ ap some (sym (head_rest s (n + 1) c r.rest q)) ∙ ap (λ (j : ℕ). some (drop j s)) two;
              front =
                  subst (λ (j : ℕ). Front s before j (set (set after n escape) (n + 1) c)) two
                  (front_more s before (n + 1) (set after n escape) one c l (sym (head_is s (n + 1) c r.rest q)));
            },
          )

-- the bytes of a pair
pair_at :
    (us : List ℕ) (i : ℕ) → i < length us → (get_or (pair_bytes us) (2 * i) 0 ≡ get_or us i 0 / 256) × (get_or (pair_bytes us) (2 * i + 1) 0 ≡ get_or us i 0 % 256)
unfolding pair_bytes
pair_at [] i h = absurd (let z : i < 0 = h in omega arith)
pair_at (u ∷ us) zero h = (refl, refl)
pair_at (u ∷ us) (suc i) h =
    let k : 2 * suc i ≡ suc (suc (2 * i)) = omega arith in
    let m : 2 * suc i + 1 ≡ suc (suc (2 * i + 1)) = omega arith in
    let r = pair_at us i (omega arith) in
    (ap (λ (j : ℕ). get_or (pair_bytes (u ∷ us)) j 0) k ∙ r.0, ap (λ (j : ℕ). get_or (pair_bytes (u ∷ us)) j 0) m ∙ r.1)

-- the bytes of the first i pairs stand behind the mark
pub record Pairing (us before : List ℕ) (i : ℕ) (after : List ℕ) : Type 0 where
  pub copied : Copied before 1 (pair_bytes us) (2 * i) after

pub pairing_none : (us before : List ℕ) → 1 + 2 * length us ≤ length before → Pairing us before 0 before
pairing_none us before h = record { copied = copied_none before 1 (pair_bytes us) (let e = pairs_long us in omega arith) }

module _ (us before : List ℕ) (i : ℕ) (after : List ℕ) (w : Pairing us before i after) where
  pub pairing_room : i < length us → 2 * i + 2 < length after
  pairing_room h = let e = pairs_long us in omega (arith, w.copied.fits, w.copied.same)

  pub pairing_more :
      (v u : ℕ) → i < length us → v ≡ get_or us i 0 / 256 → u ≡ get_or us i 0 % 256 → Pairing us before (i + 1) (set (set after (2 * i + 1) v) (2 * i + 2) u)
  pairing_more v u h a b =
      let e = pairs_long us in
      let r = pair_at us i h in
      let y : 1 + 2 * i ≡ 2 * i + 1 = omega arith in
      let x : 1 + (2 * i + 1) ≡ 2 * i + 2 = omega arith in
      let z : 2 * i + 1 + 1 ≡ 2 * (i + 1) = omega arith in
      record {
        copied =
            subst (λ (d : List ℕ). Copied before 1 (pair_bytes us) (2 * (i + 1)) d) (λ j. set (set after (y j) v) (x j) u)
            (subst (λ (j : ℕ). Copied before 1 (pair_bytes us) j (set (set after (1 + 2 * i) v) (1 + (2 * i + 1)) u)) z
            (copied_more before 1 (pair_bytes us) (2 * i + 1) _ u (copied_more before 1 (pair_bytes us) (2 * i) after v w.copied (omega arith) (a ∙ sym r.0))
            (omega arith) (b ∙ sym r.1)));
      }

  pub pairing_all : length us ≤ i → after ≡ pasted before 1 (pair_bytes us)
  pairing_all h = let e = pairs_long us in copied_all before 1 (pair_bytes us) (2 * i) after w.copied (omega arith)

-- the byte of a unit in 81 and 82
module _ (p u : ℕ) where
  pub byte_code : (c : ℕ) → Some c ≡ told (code_of u) → c ≡ based_byte p u (code_of u)
  unfolding based_byte
  byte_code c f = sym (ap (based_byte p u) (told_some _ _ c f refl))

  module _ (f : None ≡ told (code_of u)) where
    pub byte_based : 128 + (u - p) ≡ based_byte p u (code_of u)
    unfolding based_byte
    byte_based = sym (ap (based_byte p u) (told_none _ _ f refl))

    pub byte_reach : serves p (u ∷ []) ≡ true → (p ≤ u) × (u < p + 128)
    unfolding serves
    byte_reach s =
        let w = both_left (leb p u && ltb u (p + 128)) true (sym (stop _ _ _ (needs_none u (told_none _ _ f refl))) ∙ s) in
        (leb-true p u (both_left (leb p u) (ltb u (p + 128)) w), ltb-true u (p + 128) (both_right (leb p u) (ltb u (p + 128)) w))

-- a pointer that serves units serves each of them
pub serves_parts : (p u : ℕ) (us : List ℕ) → serves p (u ∷ us) ≡ true → (serves p (u ∷ []) ≡ true) × (serves p us ≡ true)
unfolding serves
serves_parts p u us e = by (needs u) refl
  where
    by : (t : Bool) → needs u ≡ t → ((needs u ⇒ leb p u && ltb u (p + 128) && true else true) ≡ true) × (serves p us ≡ true)
    by true n =
        let f = sym (stop _ _ _ n) ∙ e in
        (stop _ _ _ n ∙ both (leb p u && ltb u (p + 128)) true (both_left (leb p u && ltb u (p + 128)) (serves p us) f) refl, both_right (leb p u && ltb u (p + 128)) (serves p us) f)
    by false n = (skip _ _ _ n, sym (skip _ _ _ n) ∙ e)

pub serves_at : (p : ℕ) (us : List ℕ) (i : ℕ) → serves p us ≡ true → i < length us → serves p (get_or us i 0 ∷ []) ≡ true
serves_at p [] i e h = absurd (let z : i < 0 = h in omega arith)
serves_at p (u ∷ us) zero e h = (serves_parts p u us e).0
serves_at p (u ∷ us) (suc i) e h = serves_at p us i (serves_parts p u us e).1 (let z : suc i < suc (length us) = h in omega arith)

based_at : (p : ℕ) (us : List ℕ) (i : ℕ) → i < length us → get_or (based_bytes p us) i 0 ≡ based_byte p (get_or us i 0) (code_of (get_or us i 0))
unfolding based_bytes
based_at p [] i h = absurd (let z : i < 0 = h in omega arith)
based_at p (u ∷ us) zero h = refl
based_at p (u ∷ us) (suc i) h = based_at p us i (let z : suc i < suc (length us) = h in omega arith)

-- the bytes of the first i units stand in the buffer
pub record Basing (p : ℕ) (us before : List ℕ) (at i : ℕ) (after : List ℕ) : Type 0 where
  pub all : serves p us ≡ true
  pub copied : Copied before at (based_bytes p us) i after

pub basing_none : (p : ℕ) (us before : List ℕ) (at : ℕ) → serves p us ≡ true → at + length us ≤ length before → Basing p us before at 0 before
basing_none p us before at e h = record { all = e; copied = copied_none before at (based_bytes p us) (let l = based_long p us in omega arith) }

module _ (p : ℕ) (us before : List ℕ) (at i : ℕ) (after : List ℕ) (w : Basing p us before at i after) where
  pub basing_serves : i < length us → serves p (get_or us i 0 ∷ []) ≡ true
  basing_serves h = serves_at p us i w.all h

  pub basing_room : i < length us → at + i < length after
  basing_room h = let l = based_long p us in omega (arith, w.copied.fits, w.copied.same)

  pub basing_more : (v : ℕ) → i < length us → v ≡ based_byte p (get_or us i 0) (code_of (get_or us i 0)) → Basing p us before at (i + 1) (set after (at + i) v)
  basing_more v h e =
      let l = based_long p us in
      record { all = w.all; copied = copied_more before at (based_bytes p us) i after v w.copied (omega arith) (e ∙ sym (based_at p us i h)) }

  pub basing_all : length us ≤ i → after ≡ pasted before at (based_bytes p us)
  basing_all h = let l = based_long p us in copied_all before at (based_bytes p us) i after w.copied (omega arith)

-- a call that has no room, and one that has
pub ends_short : (s before : List ℕ) → length before < length s → Ends s (Err ShortText) before before
unfolding fitted laid
ends_short s before h = let e = lt-ltb (length before) (length s) h in record { told = sym (stop _ _ _ e); left = sym (stop _ _ _ e) }

pub ends_wrote : (s before after : List ℕ) (k : ℕ) → length s ≤ length before → k ≡ length s → after ≡ overlaid s before → Ends s (Ok k) before after
unfolding fitted laid overlaid
ends_wrote s before after k h e w =
    let f = le-ltb (length before) (length s) h in
    record { told = sym (skip _ _ _ f ∙ ap Ok (sym e)); left = w ∙ sym (skip _ _ _ f) }

-- a head, and bytes behind it
headed :
    (head body before middle after : List ℕ) (k : ℕ) → length head + length body ≤ length before → middle ≡ pasted before 0 head →
    after ≡ pasted middle (length head) body → k ≡ length head + length body → Ends (head ++ body) (Ok k) before after
headed head body before middle after k h a b e =
    let l = length-append head body in
    let o = zero-add (length head) in
    ends_wrote (head ++ body) before after k (omega arith) (e ∙ sym l)
    (b ∙ ap (λ (d : List ℕ). pasted d (length head) body) a ∙ ap (λ (j : ℕ). pasted (pasted before 0 head) j body) (sym o)
    ∙ paste_after before 0 head (omega arith) body ∙ front_over before (head ++ body))

pub headed_based :
    (head : List ℕ) (p : ℕ) (us before middle after : List ℕ) → length head + length us ≤ length before → middle ≡ pasted before 0 head →
    after ≡ pasted middle (length head) (based_bytes p us) → Ends (head ++ based_bytes p us) (Ok (length head + length us)) before after
headed_based head p us before middle after h a b =
    let l = based_long p us in
    headed head (based_bytes p us) before middle after (length head + length us) (omega arith) a b (omega arith)

pub headed_short : (head : List ℕ) (p : ℕ) (us before : List ℕ) → length before < length head + length us → Ends (head ++ based_bytes p us) (Err ShortText) before before
headed_short head p us before h =
    let l = length-append head (based_bytes p us) in
    let m = based_long p us in
    ends_short (head ++ based_bytes p us) before (omega arith)

pub headed_pairs :
    (us before after : List ℕ) → 1 + 2 * length us ≤ length before → after ≡ pasted (set before 0 128) 1 (pair_bytes us) →
    Ends (pair_coding us) (Ok (1 + 2 * length us)) before after
unfolding pair_coding
headed_pairs us before after h w =
    let l = pairs_long us in
    headed (128 ∷ []) (pair_bytes us) before (set before 0 128) after (1 + 2 * length us) (omega arith) (store_one before 0 128 (omega arith)) w (omega arith)

pub short_pairs : (us before : List ℕ) → length before < 1 + 2 * length us → Ends (pair_coding us) (Err ShortText) before before
short_pairs us before h = let e = pair_size us in ends_short (pair_coding us) before (omega arith)

-- what a block and a base that serve say of the units
pub block_few : (b : ℕ) (us : List ℕ) → block_serves b us ≡ true → (length us ≤ 255) × (serves (128 * b) us ≡ true)
unfolding block_serves
block_few b us e = (
  leb-true (length us) 255 (both_left (leb (length us) 255) (ltb b 256) (both_left (leb (length us) 255 && ltb b 256) (serves (128 * b) us) e)),
  both_right (leb (length us) 255 && ltb b 256) (serves (128 * b) us) e,
)

pub base_few : (b : ℕ) (us : List ℕ) → base_serves b us ≡ true → (length us ≤ 255) × (serves b us ≡ true)
unfolding base_serves
base_few b us e = (
  leb-true (length us) 255 (both_left (leb (length us) 255) (ltb b 65536) (both_left (leb (length us) 255 && ltb b 65536) (serves b us) e)),
  both_right (leb (length us) 255 && ltb b 65536) (serves b us) e,
)

-- with the heads of 81 and 82
module _ (us before : List ℕ) (r : Ended) (after : List ℕ) where
  pub block_ended : (b p : ℕ) → p ≡ 128 * b → Ends ((129 ∷ length us ∷ b ∷ []) ++ based_bytes p us) r before after → Ends (block_with b us) r before after
  unfolding block_with
  block_ended b p e w = subst (λ (q : ℕ). Ends ((129 ∷ length us ∷ b ∷ []) ++ based_bytes q us) r before after) e w

  pub base_ended :
      (b : ℕ) (bytes : List ℕ) → b < 65536 → bytes ≡ (b / 256 % 256) ∷ (b % 256) ∷ [] →
      Ends ((130 ∷ length us ∷ get_or bytes 0 0 ∷ get_or bytes 1 0 ∷ []) ++ based_bytes b us) r before after → Ends (base_with b us) r before after
  unfolding base_with
  base_ended b bytes h e w =
      subst (λ (x : List ℕ). Ends ((130 ∷ length us ∷ get_or x 0 0 ∷ get_or x 1 0 ∷ []) ++ based_bytes b us) r before after) (e ∙ halves b h) w

-- the default alphabet that is there
module _ (extras : ℕ) (us before : List ℕ) (c : CodedBy extras us) where
  pub coded_short : length before < extras + length us → Ends (frame_bytes (default_coding us)) (Err ShortText) before before
  coded_short h = ends_short (frame_bytes (default_coding us)) before (omega (arith, c.size))

  pub coded_fits : extras + length us ≤ length before → length (frame_bytes (default_coding us)) ≤ length before
  coded_fits h = omega (arith, c.size)

  pub coded_wrote :
      (after : List ℕ) → extras + length us ≤ length before → after ≡ overlaid (frame_bytes (default_coding us)) before →
      Ends (frame_bytes (default_coding us)) (Ok (extras + length us)) before after
  coded_wrote after h w = ends_wrote (frame_bytes (default_coding us)) before after (extras + length us) (coded_fits h) (sym c.size) w

-- units of 16 bits
pub each_small : (us : List ℕ) → ((i : ℕ) → get_or us i 0 < 0x10000) → Each (λ (u : ℕ). u < 0x10000) us
each_small [] h = tt
each_small (u ∷ us) h = (h 0, each_small us (λ i. h (suc i)))

-- the mark and the pairs change no length
pub pairs_same : (us before after : List ℕ) → 1 + 2 * length us ≤ length before → after ≡ pasted (set before 0 128) 1 (pair_bytes us) → length after ≡ length before
pairs_same us before after h w =
    let l = pairs_long us in
    let s = length-set before 0 128 in
    ap length w ∙ length_pasted (set before 0 128) 1 (pair_bytes us) (omega arith) ∙ s
