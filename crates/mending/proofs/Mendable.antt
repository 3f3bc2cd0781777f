-- R16 exactly where a frame cannot be mended, and places that rise.
-- Assumes nothing.
use Prim.Native.Nat.{ℕ, ◌+◌, ◌≤◌, ◌<◌}
use mathlib.Core.Path.{◌≡◌, refl, sym, ap, subst, ◌∙◌}
use mathlib.Core.Bool.{Bool, true, false, not, false≢true}
use mathlib.Core.List.{List, [], ◌∷◌, ◌++◌}
use native.Mathlib.Omega.{arith}
use lib.ListN.{length, length-append}
use borrow.Author.Tests.{lt-ltb, le-ltb, ltb-true, eqb-true}
use Rattle.rules.specs.Checks.{◌⇒◌else◌, is_empty, same}
use Rattle.rules.specs.Frames.{LengthRead, length_bytes, Object, tag_at}
use Rattle.rules.proofs.Laws.{branch, stop, skip}
use Rattle.mending.specs.Mends.{Change, outer_length, shortened, truncated, in_front, any_length, loose_length_at, is_overlong, LooseRead, loose, fault, loose_tag, loose_at, Mended, cut_from, with_object, mend_on, mend_up_to, mend_from, Head, head, no_head, head_of, outer_head, Mending, mended, unmendable, framing, outer_change, mends_behind, mends}
use Rattle.mending.proofs.Parts.{in_front_lem, LooseParts}
use Rattle.mending.proofs.Walked.{holds}
use Rattle.mending.proofs.Theorems.{never, came, head_parts}

-- the bytes of an outer length: one below 80, or 81 and any byte
abbrev pub OuterForm : List ℕ → Type 0
OuterForm [] = ⊥
OuterForm (b ∷ []) = b < 0x80
OuterForm (b ∷ c ∷ []) = b ≡ 0x81
OuterForm (b ∷ c ∷ d ∷ l) = ⊥

-- an object, its length in either form, and no fault
unfoldable pub is_whole : LooseRead → Bool
is_whole fault = false
is_whole (loose t l o r) = true

-- D0, an outer length whatever it says, a first object that is sound, and a result of at most 256 bytes
pub record Mendable (s : List ℕ) : Type 0 where
  pub outer : List ℕ
  pub behind : List ℕ
  pub parts : s ≡ 0xD0 ∷ outer ++ behind
  pub form : OuterForm outer
  pub sound : is_whole (loose_at behind) ≡ true
  pub few : length (framing (mend_from (1 + length outer) behind).bytes) ≤ 256

-- no object comes out exactly where the first has a fault
none_out : (place : ℕ) (x : LooseRead) (k : ℕ → List ℕ → Mended) → is_empty (mend_on place x k).objects ≡ not (is_whole x)
unfolding mend_on with_object is_whole is_empty
none_out place fault k = refl
none_out place (loose t l o r) k = refl

first_out : (place : ℕ) (s : List ℕ) → is_empty (mend_from place s).objects ≡ not (is_whole (loose_at s))
unfolding mend_from mend_up_to loose_at loose_tag tag_at is_whole is_empty
first_out place [] = refl
first_out place (b ∷ s) = none_out place (loose_at (b ∷ s)) (mend_up_to (length s))

-- an outer length of that form is read, whatever it says
form_read : (l r : List ℕ) → OuterForm l → head_of (l ++ r) (loose_length_at (l ++ r)) ≡ head l r
unfolding loose_length_at any_length head_of ◌⇒◌else◌
form_read [] r h = absurd h
form_read (b ∷ []) r h = ap (head_of (b ∷ r)) (stop _ _ _ (lt-ltb b 0x80 h)) ∙ ap (λ (x : List ℕ). head x r) (in_front_lem (b ∷ []) r)
form_read (b ∷ c ∷ []) r h =
    ap (λ (x : ℕ). head_of (x ∷ c ∷ r) (loose_length_at (x ∷ c ∷ r))) h ∙ ap (λ (x : List ℕ). head x r) (in_front_lem (0x81 ∷ c ∷ []) r ∙ (λ i. sym h i ∷ c ∷ []))
form_read (b ∷ c ∷ d ∷ l) r h = absurd h

-- a head that is read has that form
no_head_lem : (l r : List ℕ) → no_head ≡ head l r → ⊥
no_head_lem l r z = let clash : ◌≡◌ {A = ℕ} 0 1 = cc in omega arith

formed : (m l s r : List ℕ) → OuterForm m → head (in_front (m ++ s) s) s ≡ head l r → OuterForm l
formed m l s r h z = let e : in_front (m ++ s) s ≡ l = cc in subst OuterForm (sym (in_front_lem m s) ∙ e) h

any_formed : (c : ℕ) (s l r : List ℕ) → c ≡ 0x81 → head_of (c ∷ s) (any_length s) ≡ head l r → OuterForm l
unfolding any_length head_of
any_formed c [] l r h z = absurd (no_head_lem l r z)
any_formed c (d ∷ s) l r h z = formed (c ∷ d ∷ []) l s r h z

length_formed : (s l r : List ℕ) → head_of s (loose_length_at s) ≡ head l r → OuterForm l
unfolding loose_length_at head_of
length_formed [] l r z = absurd (no_head_lem l r z)
length_formed (c ∷ s) l r z =
    branch (λ (x : LengthRead). head_of (c ∷ s) x ≡ head l r → OuterForm l) _ _ _ (λ e. formed (c ∷ []) l s r (ltb-true c 0x80 e))
    (λ _. branch (λ (x : LengthRead). head_of (c ∷ s) x ≡ head l r → OuterForm l) _ _ _ (λ e. any_formed c s l r (eqb-true c 0x81 e)) (λ _ y. absurd (no_head_lem l r y)))
    z

head_formed : (s l r : List ℕ) → outer_head s ≡ head l r → OuterForm l
unfolding outer_head
head_formed [] l r z = absurd (no_head_lem l r z)
head_formed (b ∷ s) l r z = branch (λ (x : Head). x ≡ head l r → OuterForm l) _ _ _ (λ _. length_formed s l r) (λ _ y. absurd (no_head_lem l r y)) z

-- what comes out could be mended
not-false : (b : Bool) → not b ≡ false → b ≡ true
not-false true e = refl
not-false false e = absurd (false≢true (sym e))

pub mended_mendable : (s t : List ℕ) (cs : List Change) → mends s ≡ mended t cs → Mendable s
unfolding mends mends_behind
mended_mendable s t cs = by (outer_head s) refl
  where
    by : (x : Head) → outer_head s ≡ x → mends_behind x ≡ mended t cs → Mendable s
    by no_head q e = absurd (never t cs e)
    by (head l r) q e =
        let made = came l r t cs e in
        record {
          outer = l;
          behind = r;
          parts = (head_parts s l r q).parts;
          form = head_formed s l r q;
          sound = not-false _ (sym (first_out (1 + length l) r) ∙ made.some);
          few = made.few;
        }

-- what can be mended comes out
pub record ComesOut (s : List ℕ) : Type 0 where
  pub frame : List ℕ
  pub changes : List Change
  pub is : mends s ≡ mended frame changes

pub mendable_mended : (s : List ℕ) → Mendable s → ComesOut s
unfolding mends outer_head mends_behind ◌⇒◌else◌
mendable_mended s m =
    let l = m.outer in
    let r = m.behind in
    let some = first_out (1 + length l) r ∙ ap not m.sound in
    record {
      frame = _;
      changes = _;
      is = ap mends m.parts ∙ ap mends_behind (form_read l r m.form) ∙ skip _ _ _ some ∙ skip _ _ _ (le-ltb 256 _ m.few);
    }

-- so R16 is given exactly where a frame cannot be mended
pub refused_unmendable : (s : List ℕ) → mends s ≡ unmendable → Mendable s → ⊥
refused_unmendable s e m = let out = mendable_mended s m in never out.frame out.changes (sym e ∙ out.is)

pub unmendable_refused : (s : List ℕ) → (Mendable s → ⊥) → mends s ≡ unmendable
unmendable_refused s h = by (mends s) refl
  where
    by : (x : Mending) → mends s ≡ x → x ≡ unmendable
    by unmendable e = refl
    by (mended t cs) e = absurd (h (mended_mendable s t cs e))

-- the place of a change, as it is told
unfoldable pub place_of : Change → ℕ
place_of outer_length = 1
place_of (shortened p) = p
place_of (truncated p) = p

-- places from one on, each behind the one before it
abbrev pub Rising : ℕ → List Change → Type 0
Rising p [] = Unit {0}
Rising p (c ∷ cs) = (p ≤ place_of c) × Rising (place_of c + 1) cs

sooner : (p q : ℕ) (cs : List Change) → p ≤ q → Rising q cs → Rising p cs
sooner p q [] h k = tt
sooner p q (c ∷ cs) h k = (omega (arith, k.0), k.1)

one_more_lem : (over : Bool) (place : ℕ) (t l m v : List ℕ) (cs : List Change) → l ≡ (over ⇒ 0x81 ∷ [] else []) ++ m → Rising (place + length (t ++ (l ++ v))) cs → Rising place ((over ⇒ shortened (place + length t) ∷ [] else []) ++ cs)
unfolding ◌⇒◌else◌ place_of
one_more_lem false place t l m v cs e h = sooner place _ cs (omega arith) h
one_more_lem true place t l m v cs e h =
    let n = length-append t (l ++ v) in
    let o = ap (λ (z : List ℕ). length (z ++ v)) e in
    (omega arith, sooner (place + length t + 1) _ cs (omega (arith, n, o)) h)

cut_rises : (place : ℕ) → Rising place (cut_from place).changes
unfolding place_of
cut_rises place = (omega arith, tt)

object_rises :
    (place : ℕ) (s t l : List ℕ) (o : Object) (r : List ℕ) (m : Mended) → LooseParts s t l o r → Rising (place + length (t ++ (l ++ o.value))) m.changes →
    Rising place (with_object place t l o m).changes
unfolding with_object
object_rises place s t l o r m h k = one_more_lem (is_overlong l) place t l (length_bytes (length o.value)) o.value m.changes h.form k

rising_from : (place : ℕ) (s : List ℕ) → Rising place (mend_from place s).changes
rising_from = holds (λ (place : ℕ) (s : List ℕ) (m : Mended). Rising place m.changes) (λ place. tt) (λ place b s. cut_rises place) object_rises

outer_rises : (kept : Bool) (p : ℕ) (cs : List Change) → 2 ≤ p → Rising p cs → Rising 1 ((kept ⇒ [] else outer_length ∷ []) ++ cs)
unfolding ◌⇒◌else◌ place_of
outer_rises true p cs h k = sooner 1 p cs (omega arith) k
outer_rises false p cs h k = (omega arith, sooner 2 p cs h k)

-- the places of the changes rise
pub places_rise : (s t : List ℕ) (cs : List Change) → mends s ≡ mended t cs → Rising 1 cs
unfolding mends mends_behind outer_change
places_rise s t cs = by (outer_head s) refl
  where
    by : (x : Head) → outer_head s ≡ x → mends_behind x ≡ mended t cs → Rising 1 cs
    by no_head q e = absurd (never t cs e)
    by (head l r) q e =
        let size = length_bytes (length (mend_from (1 + length l) r).bytes) in
        subst (Rising 1) (came l r t cs e).list
        (outer_rises (same l size) (1 + length l) (mend_from (1 + length l) r).changes (omega (arith, (head_parts s l r q).some)) (rising_from (1 + length l) r))
