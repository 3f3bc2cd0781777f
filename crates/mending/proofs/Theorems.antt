-- What comes out is sound, sound frames stay, the objects are those that stood there, and the list of changes is right.
-- Assumes nothing.
use Prim.Native.Nat.{ℕ, ◌+◌, ◌-◌, ◌≤◌}
use mathlib.Core.Path.{◌≡◌, refl, sym, ap, subst, ◌∙◌}
use mathlib.Core.Logic.{◌⊎◌, ⊎_elim}
use mathlib.Core.Bool.{Bool, true, false, not, false≢true}
use mathlib.Core.List.{List, [], ◌∷◌, ◌++◌}
use native.Mathlib.Omega.{arith}
use lib.ListN.{length, take, drop, length-append}
use lib.Seq.{take-append_seam, drop-append_seam}
use lib.Dec.{ltb, eqb}
use borrow.Author.Tests.{lt-ltb, le-ltb, eq-eqb, ltb-false, eqb-true}
use Rattle.rules.specs.declared.Ending.TheVariants.{End}
use Rattle.rules.specs.Checks.{◌⇒◌else◌, is_empty, same}
use Rattle.rules.specs.Frames.{LengthRead, len, no_length, length_at, length_bytes, Walk, walk, fills, following, framed, contents}
use Rattle.rules.proofs.Laws.{branch, stop, skip, both_left, both_right}
use Rattle.rules.proofs.Forms.{length_back, same_refl}
use Rattle.octets.specs.Parts.{part}
use Rattle.mending.specs.Mends.{Change, outer_length, shortened, truncated, loose_length_at, in_front, Mended, mend_from, Head, head, no_head, head_of, outer_head, Mending, mended, unmendable, framing, outer_change, mends_behind, mends}
use Rattle.mending.specs.Unmends.{unmended, cut_of, tells_outer, tells_cut}
use Rattle.mending.proofs.Parts.{LengthIs, length_parts}
use Rattle.mending.proofs.Walked.{mend_walks}
use Rattle.mending.proofs.Kept.{StrictLength, strict_length, mend_kept}
use Rattle.mending.proofs.Told.{mend_told}
use Rattle.mending.proofs.Starts.{Free, one_start}

-- a right frame of at most 256 bytes whose objects the walk passes to the end, at least one
pub record SoundFrame (s : List ℕ) : Type 0 where
  pub right : framed s ≡ true
  pub few : length s ≤ 256
  pub ended : (walk (contents s)).ending ≡ End
  pub some : is_empty (walk (contents s)).objects ≡ false

-- how a frame came out of a head and what is behind it
pub record Came (l r t : List ℕ) (cs : List Change) : Type 0 where
  pub some : is_empty (mend_from (1 + length l) r).objects ≡ false
  pub few : length (framing (mend_from (1 + length l) r).bytes) ≤ 256
  pub frame : framing (mend_from (1 + length l) r).bytes ≡ t
  pub list : outer_change l (length_bytes (length (mend_from (1 + length l) r).bytes)) ++ (mend_from (1 + length l) r).changes ≡ cs

pub never : (t : List ℕ) (cs : List Change) → unmendable ≡ mended t cs → ⊥
never t cs z = let clash : ◌≡◌ {A = ℕ} 0 1 = cc in omega arith

pub came : (l r t : List ℕ) (cs : List Change) → mends_behind (head l r) ≡ mended t cs → Came l r t cs
unfolding mends_behind
came l r t cs =
    branch (λ (x : Mending). x ≡ mended t cs → Came l r t cs) _ _ _ (λ _ z. absurd (never t cs z))
    (λ e. branch (λ (x : Mending). x ≡ mended t cs → Came l r t cs) _ _ _ (λ _ z. absurd (never t cs z))
    (λ f z. record { some = e; few = ltb-false 256 _ f; frame = cc; list = cc }))

-- what is mended has a head
record Headed (s t : List ℕ) (cs : List Change) : Type 0 where
  field_bytes : List ℕ
  behind : List ℕ
  made : Came field_bytes behind t cs

headed : (t : List ℕ) (cs : List Change) (s : List ℕ) (x : Head) → mends_behind x ≡ mended t cs → Headed s t cs
unfolding mends_behind
headed t cs s no_head z = absurd (never t cs z)
headed t cs s (head l r) z = record { field_bytes = l; behind = r; made = came l r t cs z }

-- a frame that is written is right, and its objects are read back
framing_right : (s : List ℕ) → framed (framing s) ≡ true
unfolding framed framing fills
framing_right s = rw (length_back (length s) s, eq-eqb (length s) (length s) refl)

framing_contents : (s : List ℕ) → contents (framing s) ≡ s
unfolding contents framing following
framing_contents s = ap following (length_back (length s) s)

-- what comes out is a sound frame
pub mended_sound : (s t : List ℕ) (cs : List Change) → mends s ≡ mended t cs → SoundFrame t
unfolding mends
mended_sound s t cs e =
    let h = headed t cs s (outer_head s) e in
    let place = 1 + length h.field_bytes in
    let m = mend_from place h.behind in
    let c = framing_contents m.bytes in
    let w = mend_walks place h.behind in
    subst SoundFrame h.made.frame
    (record {
      right = framing_right m.bytes;
      few = h.made.few;
      ended = ap (λ (x : List ℕ). (walk x).ending) c ∙ ap (λ (x : Walk). x.ending) w;
      some = ap (λ (x : List ℕ). is_empty (walk x).objects) c ∙ ap (λ (x : Walk). is_empty x.objects) w ∙ h.made.some;
    })

-- a sound frame comes out unchanged, with an empty list
kept_behind :
    (v : List ℕ) → (walk v).ending ≡ End → is_empty (walk v).objects ≡ false → length (framing v) ≤ 256 → mends_behind (head (length_bytes (length v)) v) ≡ mended (framing v) []
unfolding mends_behind outer_change
kept_behind v w o few =
    let l = length_bytes (length v) in
    ap
    (λ (m : Mended).
    is_empty m.objects ⇒ unmendable else
    ltb 256 (length (framing m.bytes)) ⇒ unmendable else
    mended (framing m.bytes) (outer_change l (length_bytes (length m.bytes)) ++ m.changes))
    (mend_kept (1 + length l) v w)
    ∙ skip _ _ _ o ∙ skip _ _ _ (le-ltb 256 (length (framing v)) few) ∙ ap (λ (cs : List Change). mended (framing v) (cs ++ [])) (stop _ _ _ (same_refl l))

kept_head :
    (b : ℕ) (r : List ℕ) (x : LengthRead) → StrictLength r x → eqb b 0xD0 ≡ true → fills x ≡ true → (walk (following x)).ending ≡ End →
    is_empty (walk (following x)).objects ≡ false → length (b ∷ r) ≤ 256 → mends (b ∷ r) ≡ mended (b ∷ r) []
unfolding fills following mends outer_head head_of framing
kept_head b r no_length g d n w o few = absurd (false≢true n)
kept_head b r (len k v) g d n w o few =
    let front : in_front r v ≡ length_bytes (length v) = g.1 ∙ ap length_bytes (eqb-true k (length v) n) in
    let parts = (subst (LengthIs r) g.0 (length_parts r)).parts ∙ ap (λ (x : List ℕ). x ++ v) front in
    let whole : framing v ≡ b ∷ r = sym (λ i. eqb-true b 0xD0 d i ∷ parts i) in
    ap mends_behind (stop _ _ _ d ∙ ap (head_of r) g.0 ∙ ap (λ (x : List ℕ). head x v) front)
    ∙ kept_behind v w o (subst (λ (x : List ℕ). length x ≤ 256) (sym whole) few) ∙ ap (λ (x : List ℕ). mended x []) whole

pub sound_kept : (s : List ℕ) → SoundFrame s → mends s ≡ mended s []
unfolding framed contents
sound_kept [] h = absurd (false≢true h.right)
sound_kept (b ∷ r) h =
    kept_head b r (length_at r) (strict_length r) (both_left _ (fills (length_at r)) h.right) (both_right (eqb b 0xD0) _ h.right) h.ended h.some h.few

-- mending what came out changes nothing more
pub mended_again : (s t : List ℕ) (cs : List Change) → mends s ≡ mended t cs → mends t ≡ mended t []
mended_again s t cs e = sound_kept t (mended_sound s t cs e)

-- the bytes of a head, one or two of them the length, and those behind it are all
pub record HeadParts (s l r : List ℕ) : Type 0 where
  pub parts : s ≡ 0xD0 ∷ l ++ r
  pub some : 1 ≤ length l
  pub few : length l ≤ 2

length_head : (b : ℕ) (s l r : List ℕ) (x : LengthRead) → eqb b 0xD0 ≡ true → LengthIs s x → head_of s x ≡ head l r → HeadParts (b ∷ s) l r
unfolding head_of
length_head b s l r no_length d g z = absurd (let clash : ◌≡◌ {A = ℕ} 0 1 = cc in omega arith)
length_head b s l r (len n v) d g z =
    let front : in_front s v ≡ l = cc in
    let rest : v ≡ r = cc in
    record {
      parts = λ i. eqb-true b 0xD0 d i ∷ (g.parts ∙ (λ j. front j ++ rest j)) i;
      some = omega (arith, ap length front, g.some);
      few = omega (arith, ap length front, g.few);
    }

pub head_parts : (s l r : List ℕ) → outer_head s ≡ head l r → HeadParts s l r
unfolding outer_head
head_parts [] l r e = absurd (let clash : ◌≡◌ {A = ℕ} 0 1 = cc in omega arith)
head_parts (b ∷ s) l r e =
    branch (λ (x : Head). x ≡ head l r → HeadParts (b ∷ s) l r) _ _ _ (λ d. length_head b s l r (loose_length_at s) d (length_parts s))
    (λ _ z. absurd (let clash : ◌≡◌ {A = ℕ} 0 1 = cc in omega arith)) e

-- L is told or not, and nothing else by it
outer_passed :
    (kept : Bool) (place end : ℕ) (s : List ℕ) (cs : List Change) → tells_outer cs ≡ false → let ds = (kept ⇒ [] else outer_length ∷ []) ++ cs in
    (unmended place s ds ≡ unmended place s cs) × (cut_of end ds ≡ cut_of end cs) × (tells_cut ds ≡ tells_cut cs) × (tells_outer ds ≡ not kept)
unfolding ◌⇒◌else◌ unmended cut_of tells_cut tells_outer
outer_passed true place end s cs e = (refl, refl, refl, e)
outer_passed false place end s cs e = (refl, refl, refl, refl)

left_behind : (a : ℕ) (s : List ℕ) → not (is_empty s) ≡ ltb a (a + length s)
unfolding is_empty
left_behind a [] = sym (le-ltb a (a + 0) (omega arith))
left_behind a (b ∷ s) = sym (lt-ltb a (a + length (b ∷ s)) (omega arith))

-- behind L the changes are those of the objects
inner : List Change → List Change
inner [] = []
inner (outer_length ∷ cs) = cs
inner (shortened p ∷ cs) = shortened p ∷ cs
inner (truncated p ∷ cs) = truncated p ∷ cs

inner_is : (kept : Bool) (cs : List Change) → tells_outer cs ≡ false → inner ((kept ⇒ [] else outer_length ∷ []) ++ cs) ≡ cs
unfolding inner tells_outer ◌⇒◌else◌
inner_is false cs e = refl
inner_is true [] e = refl
inner_is true (outer_length ∷ cs) e = absurd (false≢true (sym e))
inner_is true (shortened p ∷ cs) e = refl
inner_is true (truncated p ∷ cs) e = refl

-- from the output and the list of changes: the input's objects up to the cut, whether and where it was cut, and whether its outer length was right
pub record ChangesTold (s l t : List ℕ) (cs : List Change) : Type 0 where
  pub objects : unmended (1 + length l) (contents t) cs ≡ part (1 + length l) (cut_of (length s) cs) s
  pub cut : tells_cut cs ≡ ltb (cut_of (length s) cs) (length s)
  pub outer : tells_outer cs ≡ not (same l (length_bytes (length (contents t))))

module _ (s l r t : List ℕ) (cs : List Change) (q : outer_head s ≡ head l r) (e : mends s ≡ mended t cs) where
  abbrev place : ℕ
  place = 1 + length l

  abbrev m : Mended
  m = mend_from place r

  made : Came l r t cs
  unfolding mends
  made = came l r t cs (sym (ap mends_behind q) ∙ e)

  contents_are : contents t ≡ m.bytes
  contents_are = ap contents (sym made.frame) ∙ framing_contents m.bytes

  -- the objects that come out are those of the input up to the first fault
  pub objects_kept : (walk (contents t)).objects ≡ m.objects
  objects_kept = ap (λ (x : List ℕ). (walk x).objects) contents_are ∙ ap (λ (x : Walk). x.objects) (mend_walks place r)

  pub changes_told : ChangesTold s l t cs
  unfolding outer_change
  changes_told =
      let f = mend_told place r in
      let u = unmended place m.bytes m.changes in
      let size = length_bytes (length m.bytes) in
      let passed = outer_passed (same l size) place (length s) m.bytes m.changes f.inner in
      let listed = sym made.list in
      let parts = (head_parts s l r q).parts in
      let long = ap length parts ∙ length-append (0xD0 ∷ l) r in
      let all : length s ≡ place + length r = omega arith in
      let one : place ≡ length (0xD0 ∷ l) = omega arith in
      let behind : drop place s ≡ r = (λ i. drop (one i) (parts i)) ∙ drop-append_seam (0xD0 ∷ l) r in
      let cut_is : cut_of (length s) cs ≡ place + length u = ap (cut_of (length s)) listed ∙ passed.1 ∙ ap (λ (n : ℕ). cut_of n m.changes) all ∙ f.cut in
      let few : cut_of (length s) cs - place ≡ length u = omega (arith, cut_is) in
      let rest = ap length f.back ∙ length-append u f.rest in
      let end : length s ≡ place + length u + length f.rest = omega arith in
      record {
        objects = (λ i. unmended place (contents_are i) (listed i)) ∙ passed.0 ∙ sym (take-append_seam u f.rest) ∙ sym (λ i. take (few i) ((behind ∙ f.back) i));
        cut = ap tells_cut listed ∙ passed.2 ∙ f.told ∙ left_behind (place + length u) f.rest ∙ sym (λ i. ltb (cut_is i) (end i));
        outer = ap tells_outer listed ∙ passed.3 ∙ ap (λ (x : List ℕ). not (same l (length_bytes (length x)))) (sym contents_are);
      }

  inner_listed : inner cs ≡ m.changes
  unfolding outer_change
  inner_listed = ap inner (sym made.list) ∙ inner_is (same l (length_bytes (length m.bytes))) m.changes (mend_told place r).inner

  unmended_listed : (n : ℕ) → unmended n (contents t) cs ≡ unmended n (contents t) m.changes
  unfolding outer_change
  unmended_listed n =
      ap (unmended n (contents t)) (sym made.list)
      ∙ (outer_passed (same l (length_bytes (length m.bytes))) n 0 (contents t) m.changes (mend_told place r).inner).0

-- frames that come out alike with the same changes had the same objects up to the cut, whatever form their outer lengths had
module _
    (s l r s' l' r' t : List ℕ)
    (cs : List Change)
    (q : outer_head s ≡ head l r)
    (e : mends s ≡ mended t cs)
    (q' : outer_head s' ≡ head l' r')
    (e' : mends s' ≡ mended t cs) where
  starts : (1 + length l ≡ 1 + length l') ⊎ Free (mend_from (1 + length l) r).changes
  starts =
      let h = head_parts s l r q in
      let h' = head_parts s' l' r' q' in
      (one_start (1 + length l) r).1 (1 + length l') r' (sym (contents_are s l r t cs q e) ∙ contents_are s' l' r' t cs q' e')
      (sym (inner_listed s l r t cs q e) ∙ inner_listed s' l' r' t cs q' e')
      (omega (arith, h.some, h.few, h'.some, h'.few))
      (omega (arith, h.some, h.few, h'.some, h'.few))

  pub told_alike : part (1 + length l) (cut_of (length s) cs) s ≡ part (1 + length l') (cut_of (length s') cs) s'
  told_alike =
      sym (changes_told s l r t cs q e).objects
      ∙ ⊎_elim (λ same_start. ap (λ (n : ℕ). unmended n (contents t) cs) same_start)
      (λ free.
      let as-it-stands : (n : ℕ) → unmended n (contents t) cs ≡ contents t = λ n. unmended_listed s l r t cs q e n ∙ free n (contents t) in
      as-it-stands (1 + length l) ∙ sym (as-it-stands (1 + length l')))
      starts
      ∙ (changes_told s' l' r' t cs q' e').objects
