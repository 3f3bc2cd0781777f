-- The parts of a tag, of a length in either form and of an object: as they stand, and as they come out.
-- Assumes nothing.
use Prim.Native.Nat.{ℕ, ◌-◌, ◌≤◌}
use mathlib.Core.Path.{◌≡◌, refl, sym, ap, subst, ◌∙◌}
use mathlib.Core.Bool.{Bool, true, false, ◌&&◌}
use mathlib.Core.List.{List, [], ◌∷◌, ◌++◌, append_assoc}
use native.Mathlib.Omega.{arith}
use lib.ListN.{length, take, drop, length-append, take-append-drop}
use lib.Seq.{take-append_seam, length-take-le}
use lib.Dec.{ltb, eqb}
use borrow.Author.Tests.{ne_eqb, ltb-true, ltb-false, eqb-true}
use Rattle.rules.specs.Checks.{◌⇒◌else◌}
use Rattle.rules.specs.Frames.{LengthRead, len, no_length, length_at, length_bytes, Object, TagRead, tag, no_tag, long_tag, tag_at, object, value_after, after_tag, object_at}
use Rattle.rules.proofs.Laws.{branch, stop, skip}
use Rattle.rules.proofs.Forms.{length_back, value_back}
use Rattle.mending.specs.Mends.{in_front, any_length, loose_length_at, is_overlong, LooseRead, loose, fault, loose_value, loose_tag, loose_at}

pub in_front_lem : (t r : List ℕ) → in_front (t ++ r) r ≡ t
unfolding in_front
in_front_lem t r =
    let l = length-append t r in
    let e : length (t ++ r) - length r ≡ length t = omega arith in
    ap (λ (k : ℕ). take k (t ++ r)) e ∙ take-append_seam t r

-- a tag, whatever follows it
pub record TagParts (s : List ℕ) (number : ℕ) (flag : Bool) (r : List ℕ) : Type 0 where
  pub parts : s ≡ in_front s r ++ r
  pub some : 1 ≤ length (in_front s r)
  pub reads : (z : List ℕ) → tag_at (in_front s r ++ z) ≡ tag number flag z

abbrev TagIs : List ℕ → TagRead → Type 0
TagIs s no_tag = Unit {0}
TagIs s (tag number flag r) = TagParts s number flag r

tag_of : (t r : List ℕ) (number : ℕ) (flag : Bool) → 1 ≤ length t → ((z : List ℕ) → tag_at (t ++ z) ≡ tag number flag z) → TagParts (t ++ r) number flag r
tag_of t r number flag h k =
    let e = in_front_lem t r in
    record { parts = ap (λ (x : List ℕ). x ++ r) (sym e); some = subst (λ (x : List ℕ). 1 ≤ length x) (sym e) h; reads = λ z. ap (λ (x : List ℕ). tag_at (x ++ z)) e ∙ k z }

long_parts : (b : ℕ) (s : List ℕ) → eqb b 0x7F ≡ true → TagIs (b ∷ s) (long_tag s)
unfolding long_tag tag_at
long_parts b [] e = tt
long_parts b (c ∷ []) e = tt
long_parts b (c ∷ d ∷ s) e =
    branch (TagIs (b ∷ c ∷ d ∷ s)) _ _ _ (λ _. tt) (λ f. tag_of (b ∷ c ∷ d ∷ []) s _ _ (omega arith) (λ z. stop _ _ _ e ∙ skip _ _ _ f))

tag_parts : (s : List ℕ) → TagIs s (tag_at s)
unfolding tag_at
tag_parts [] = tt
tag_parts (b ∷ s) =
    branch (TagIs (b ∷ s)) _ _ _ (long_parts b s)
    (λ e. branch (TagIs (b ∷ s)) _ _ _ (λ _. tt) (λ f. tag_of (b ∷ []) s _ _ (omega arith) (λ z. skip _ _ _ e ∙ skip _ _ _ f)))

-- a length: its shortest form, behind an 81 where it is overlong
abbrev pub Formed : List ℕ → ℕ → Type 0
Formed l n = l ≡ (is_overlong l ⇒ 0x81 ∷ [] else []) ++ length_bytes n

pub record LengthParts (s : List ℕ) (n : ℕ) (r : List ℕ) : Type 0 where
  pub parts : s ≡ in_front s r ++ r
  pub form : Formed (in_front s r) n
  pub some : 1 ≤ length (in_front s r)
  pub few : length (in_front s r) ≤ 2

abbrev pub LengthIs : List ℕ → LengthRead → Type 0
LengthIs s no_length = Unit {0}
LengthIs s (len n r) = LengthParts s n r

length_of : (l r : List ℕ) (n : ℕ) → 1 ≤ length l → length l ≤ 2 → Formed l n → LengthParts (l ++ r) n r
length_of l r n some few h =
    let e = sym (in_front_lem l r) in
    record { parts = ap (λ (x : List ℕ). x ++ r) e; form = subst (λ (x : List ℕ). Formed x n) e h; some = omega (arith, ap length e); few = omega (arith, ap length e) }

short_form : (b : ℕ) → ltb b 0x80 ≡ true → Formed (b ∷ []) b
unfolding is_overlong length_bytes
short_form b e =
    let other : eqb b 0x81 && ltb 0 0x80 ≡ false = ap (λ (x : Bool). x && ltb 0 0x80) (ne_eqb b 0x81 (let h = ltb-true b 0x80 e in omega arith)) in
    sym (λ i. skip _ (0x81 ∷ []) [] other i ++ stop _ (b ∷ []) (0x81 ∷ b ∷ []) e i)

long_form : (b : ℕ) → Formed (0x81 ∷ b ∷ []) b
unfolding is_overlong length_bytes ◌⇒◌else◌
long_form b = by (ltb b 0x80)
  where
    by : (t : Bool) → 0x81 ∷ b ∷ [] ≡ (t ⇒ 0x81 ∷ [] else []) ++ (t ⇒ b ∷ [] else 0x81 ∷ b ∷ [])
    by true = refl
    by false = refl

any_parts : (s : List ℕ) → LengthIs (0x81 ∷ s) (any_length s)
unfolding any_length
any_parts [] = tt
any_parts (b ∷ s) = length_of (0x81 ∷ b ∷ []) s b (omega arith) (omega arith) (long_form b)

pub length_parts : (s : List ℕ) → LengthIs s (loose_length_at s)
unfolding loose_length_at
length_parts [] = tt
length_parts (b ∷ s) =
    branch (LengthIs (b ∷ s)) _ _ _ (λ e. length_of (b ∷ []) s b (omega arith) (omega arith) (short_form b e))
    (λ _. branch (LengthIs (b ∷ s)) _ _ _ (λ e. subst (λ (x : ℕ). LengthIs (x ∷ s) (any_length s)) (sym (eqb-true b 0x81 e)) (any_parts s)) (λ _. tt))

-- an object: it stands in front of the rest, and comes out so that it is read, whatever follows it
pub record LooseParts (s t l : List ℕ) (o : Object) (r : List ℕ) : Type 0 where
  pub parts : s ≡ (t ++ (l ++ o.value)) ++ r
  pub form : Formed l (length o.value)
  pub some : 1 ≤ length t
  pub reads : (z : List ℕ) → object_at ((t ++ (length_bytes (length o.value) ++ o.value)) ++ z) ≡ object o z

abbrev pub LooseIs : List ℕ → LooseRead → Type 0
LooseIs s fault = Unit {0}
LooseIs s (loose t l o r) = LooseParts s t l o r

out_read : (t : List ℕ) (o : Object) → ((z : List ℕ) → tag_at (t ++ z) ≡ tag o.number o.flag z) → (z : List ℕ) → object_at ((t ++ (length_bytes (length o.value) ++ o.value)) ++ z) ≡ object o z
unfolding object_at after_tag
out_read t o h z =
    let v = length_bytes (length o.value) ++ o.value in
    ap object_at (append_assoc t v z) ∙ ap after_tag (h (v ++ z))
    ∙ ap (λ (r : List ℕ). value_after o.number o.flag (length_at r)) (append_assoc (length_bytes (length o.value)) o.value z)
    ∙ ap (value_after o.number o.flag) (length_back (length o.value) (o.value ++ z)) ∙ value_back o z

module _ (s : List ℕ) (number : ℕ) (flag : Bool) (r : List ℕ) (h : TagParts s number flag r) where
  value_parts : (n : ℕ) (v : List ℕ) → LengthParts r n v → n ≤ length v → LooseParts s (in_front s r) (in_front r v) (record { number = number; flag = flag; value = take n v }) (drop n v)
  value_parts n v g few =
      let t = in_front s r in
      let l = in_front r v in
      record {
        parts =
            h.parts ∙ ap (λ (x : List ℕ). t ++ x) (g.parts ∙ ap (λ (x : List ℕ). l ++ x) (sym (take-append-drop n v)) ∙ sym (append_assoc l (take n v) (drop n v)))
            ∙ sym (append_assoc t (l ++ take n v) (drop n v));
        form = subst (Formed l) (sym (length-take-le n v few)) g.form;
        some = h.some;
        reads = out_read t (record { number = number; flag = flag; value = take n v }) h.reads;
      }

  by_length : (x : LengthRead) → LengthIs r x → LooseIs s (loose_value (in_front s r) number flag r x)
  unfolding loose_value
  by_length no_length g = tt
  by_length (len n v) g = branch (LooseIs s) _ _ _ (λ _. tt) (λ e. value_parts n v g (ltb-false (length v) n e))

by_tag : (s : List ℕ) (x : TagRead) → TagIs s x → LooseIs s (loose_tag s x)
unfolding loose_tag
by_tag s no_tag h = tt
by_tag s (tag number flag r) h = by_length s number flag r h (loose_length_at r) (length_parts r)

pub loose_parts : (s : List ℕ) → LooseIs s (loose_at s)
unfolding loose_at
loose_parts s = by_tag s (tag_at s) (tag_parts s)
