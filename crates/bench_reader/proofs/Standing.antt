-- An object that stands at a place stands there in its written form, and no other one does: how it is found, and how what is checked goes on behind it.
-- Assumes nothing.
use Prim.Native.Nat.{ℕ, ◌+◌, ◌%◌, ◌≤◌, ◌<◌}
use mathlib.Core.Path.{◌≡◌, refl, sym, ap, subst, ◌∙◌}
use mathlib.Core.Bool.{Bool, true, false, ◌&&◌, false≢true}
use mathlib.Core.List.{List, [], ◌∷◌, ◌++◌, append_assoc}
use Rattle.std.specs.Prelude.{Option, Some, None, Result, Ok, Err, MatchResult}
use Rattle.std.specs.Array.{IsWholeChunk}
use Rattle.std.specs.Result.{result_ok}
use Rattle.std.proofs.Common.{Fits, w8}
use native.Mathlib.Omega.{arith}
use lib.ListN.{length, get_or, take, drop, length-append, length-drop, take-append-drop, drop_of_length-le}
use lib.Seq.{drop-cons, length-take-le}
use lib.Dec.{leb}
use borrow.Author.Tests.{ltb-true, ltb-false, leb-true, leb-false, eqb-true}
use Rattle.rules.specs.declared.Details.{Details}
use Rattle.rules.specs.declared.Ending.{Ending}
use Rattle.rules.specs.declared.Refusal.TheVariants.{NoResponse}
use Rattle.rules.specs.Checks.{◌⇒◌else◌, same}
use Rattle.rules.specs.Frames.{LengthRead, len, no_length, long_length, length_at, length_bytes, TagRead, tag_at, ObjectRead, object, faulty, Object, value_after, after_tag, object_at, Walk, object_bytes, written}
use Rattle.rules.specs.Written.{Response}
use Rattle.rules.specs.Bench.{Told, told, untold}
use Rattle.rules.proofs.Laws.{branch, stop, skip, both_left, both_right, both}
use Rattle.rules.proofs.Forms.{Named, object_back, same_refl, same_true}
use Rattle.octets.specs.Parts.{part}
use Rattle.octets.proofs.Copies.{part_get}
use Rattle.objects.specs.declared.Cursor.{Cursor}
use Rattle.objects.specs.declared.Object as objects
use Rattle.objects.specs.Places.{object_of, Stands, Meets}
use Rattle.objects.proofs.Alike.{part_size}
use Rattle.objects.proofs.Walking.{here_object}
use Rattle.objects.proofs.Writing.{short_length, long_length_lem}
use Rattle.bench_reader.specs.declared.Further.{Further}
use Rattle.bench_reader.specs.declared.Verdict.{Verdict}
use Rattle.bench_reader.specs.declared.Response as heard
use Rattle.bench_reader.specs.Heard.{result_of, heard_of, VerdictAt}
use Rattle.bench_reader.specs.Tails.{Holds, Tag, object_with, Valued, Absent, Misfit, Bytes, Follows, checked, Hears}

-- a length that is read is in its shortest form
abbrev LengthForm : List ℕ → LengthRead → Type 0
LengthForm u no_length = Unit {0}
LengthForm u (len n r) = u ≡ length_bytes n ++ r

long_form : (s : List ℕ) → LengthForm (0x81 ∷ s) (long_length s)
unfolding long_length
long_form [] = tt
long_form (b ∷ s) =
    branch (LengthForm (0x81 ∷ b ∷ s)) _ _ _ (λ e. ap (λ (l : List ℕ). l ++ s) (sym (long_length_lem b (leb-true 0x80 b e)))) (λ _. tt)

length_form : (u : List ℕ) → LengthForm u (length_at u)
unfolding length_at
length_form [] = tt
length_form (b ∷ s) =
    branch (LengthForm (b ∷ s)) _ _ _ (λ e. ap (λ (l : List ℕ). l ++ s) (sym (short_length b (ltb-true b 0x80 e)))) (λ _.
    branch (LengthForm (b ∷ s)) _ _ _ (λ e. subst (λ (k : ℕ). LengthForm (k ∷ s) (long_length s)) (sym (eqb-true b 0x81 e)) (long_form s)) (λ _. tt))

-- an object that is read is in its written form, and has the tag that its first byte is
pub record Formed (b : ℕ) (u : List ℕ) (o : Object) (r : List ℕ) : Type 0 where
  pub number : o.number ≡ b % 0x80
  pub flag : o.flag ≡ leb 0x80 b
  pub is : b ∷ u ≡ object_bytes o ++ r

abbrev Form : ℕ → List ℕ → ObjectRead → Type 0
Form b u (faulty e) = Unit {0}
Form b u (object o r) = Formed b u o r

pub tag_form : (b : ℕ) → b < 256 → b ≡ (leb 0x80 b ⇒ b % 0x80 + 0x80 else b % 0x80)
tag_form b h = branch (λ (k : ℕ). b ≡ k) _ _ _ (λ e. omega (arith, leb-true 0x80 b e)) (λ e. omega (arith, leb-false 0x80 b e))

value_form : (b : ℕ) (u : List ℕ) (l : LengthRead) → b < 256 → LengthForm u l → Form b u (value_after (b % 0x80) (leb 0x80 b) l)
unfolding value_after object_bytes
value_form b u no_length h f = tt
value_form b u (len n s) h f =
    branch (Form b u) _ _ _ (λ _. tt) (λ e.
    let v = take n s in
    let k = length-take-le n s (ltb-false (length s) n e) in
    record {
      number = refl;
      flag = refl;
      is = λ i. tag_form b h i ∷ (f ∙ (λ j. length_bytes (sym k j) ++ sym (take-append-drop n s) j) ∙ sym (append_assoc (length_bytes (length v)) v (drop n s))) i;
    })

object_form : (b : ℕ) (u : List ℕ) → b < 256 → (b ≡ 0x7F → ⊥) → Form b u (object_at (b ∷ u))
unfolding object_at tag_at after_tag
object_form b u h short =
    branch (λ (r : TagRead). Form b u (after_tag r)) _ _ _ (λ e. absurd (short (eqb-true b 0x7F e)))
    (λ _. branch (λ (r : TagRead). Form b u (after_tag r)) _ _ _ (λ _. tt) (λ _. value_form b u (length_at u) h (length_form u)))

module _ {s : List ℕ} {at number : ℕ} {flag : Bool} {start n next : ℕ} (st : Stands s at number flag start n next) where
  pub stands_before : at < length s
  stands_before = omega (arith, st.behind, st.ends, st.within)

  pub stands_valued : get_or s at 0 < 256 → (get_or s at 0 ≡ 0x7F → ⊥) → Valued s at (get_or s at 0 % 0x80) (leb 0x80 (get_or s at 0)) start n next
  stands_valued h short =
      let o = object_of s number flag start n in
      let k = drop-cons s at 0 stands_before in
      let f : Formed (get_or s at 0) _ o (drop next s) = subst (Form (get_or s at 0) _) (ap object_at (sym k) ∙ st.is) (object_form (get_or s at 0) _ h short) in
      let l = sym (length-drop at s) ∙ ap length (k ∙ f.is) ∙ length-append (object_bytes o) (drop next s) in
      record {
        holds =
            subst (λ (x : Object). Holds s at x next) (λ i. record { number = f.number i; flag = f.flag i; value = o.value })
            (record {
              is = st.is;
              walked = ap (λ (w : Walk). w.objects) (here_object st);
              form = k ∙ f.is;
              behind = omega (arith, l, length-drop next s, stands_before, st.within);
              within = st.within;
            });
        ends = st.ends;
      }

-- what is written is read, and as nothing else
module _ (t : List ℕ) (p : Object) (os : List Object) (named : Named p) (e : t ≡ written (p ∷ os)) where
  read : object_at t ≡ object p (written os)
  unfolding written
  read = ap object_at e ∙ object_back p (written os) named

  pub never_faulty : {f : Ending} → object_at t ≡ faulty f → ⊥
  never_faulty f = let r = read in let z : ◌≡◌ {A = ℕ} 0 1 = cc in omega arith

  module _ {o : Object} {u : List ℕ} (h : object_at t ≡ object o u) where
    pub same_object : p ≡ o
    same_object = let r = read in cc

    pub same_behind : written os ≡ u
    same_behind = let r = read in cc

pub named : {number : ℕ} {flag : Bool} {v : List ℕ} → (1 ≤ number) × (number ≤ 126) → Named (object_with number flag v)
named h = record { some = h.0; seven_bits = h.1 }

-- the object that was met
pub object_met : (s : List ℕ) (at : ℕ) (r : Result objects.Object Ending) {o : objects.Object} → Meets r s at → Some o ≡ result_ok r → Stands s at o.number o.flagged o.start o.len o.next.at
object_met s at (Ok p) {o} m e = let q : p ≡ o = cc in subst (λ (x : objects.Object). Stands s at x.number x.flagged x.start x.len x.next.at) q m
object_met s at (Err f) m e = cc

-- no object, one with another tag, or with that tag
module _ (s : List ℕ) (at tag : ℕ) where
  pub object_missed : (r : Result objects.Object Ending) → Meets r s at → None ≡ result_ok r → Tag tag → Absent s at (tag % 0x80) (leb 0x80 tag)
  object_missed (Ok o) m e h = cc
  object_missed (Err f) m e h = record { never = λ v os q. never_faulty (drop at s) (object_with (tag % 0x80) (leb 0x80 tag) v) os (named h) q m }

  module _ {number : ℕ} {flag : Bool} {start n next : ℕ} (st : Stands s at number flag start n next) (b : tag < 256) where
    pub other_tag : (get_or s at 0 ≡ tag → ⊥) → Absent s at (tag % 0x80) (leb 0x80 tag)
    unfolding written object_bytes
    other_tag k =
        record { never = λ v os q. k (ap (λ (l : List ℕ). get_or l 0 0) (sym (drop-cons s at 0 (stands_before st)) ∙ q) ∙ sym (tag_form tag b)) }

    pub that_tag : Tag tag → get_or s at 0 ≡ tag → Valued s at (tag % 0x80) (leb 0x80 tag) start n next
    that_tag h q =
        subst (λ (k : ℕ). k < 256 → (k ≡ 0x7F → ⊥) → Valued s at (k % 0x80) (leb 0x80 k) start n next) q (stands_valued st) b
        (λ z. let w = h.1 in let y : tag % 0x80 ≡ 0x7F = ap (λ (k : ℕ). k % 0x80) z in omega arith)

-- the value of an object that stands, and one of another length
module _ {s : List ℕ} {at number : ℕ} {flag : Bool} {start n next : ℕ} (w : Valued s at number flag start n next) where
  pub value_long : length (part start (start + n) s) ≡ n
  value_long = part_size s start n (omega (arith, w.ends, w.holds.within))

  pub other_length : (k : ℕ) → (1 ≤ number) × (number ≤ 126) → (length (part start next s) ≡ k → ⊥) → Misfit s at number flag k
  other_length k h x =
      record {
        never =
            λ v os l q.
            x (ap (λ (e : ℕ). length (part start e s)) w.ends
            ∙ ap (λ (o : Object). length o.value) (sym (same_object (drop at s) (object_with number flag v) os (named h) q w.holds.is)) ∙ l);
      }

  -- the bytes that it has, and those of the array that a call made of them
  pub bytes_from : (m : ℕ) {v : List ℕ} → part start next s ≡ v → length v ≡ m → ((i : ℕ) → Fits w8 (get_or s i 0)) → Bytes s at number flag m v next
  bytes_from m {v} p l f =
      record {
        holds = subst (λ (x : List ℕ). Holds s at (object_with number flag x) next) (ap (λ (e : ℕ). part start e s) (sym w.ends) ∙ p) w.holds;
        long = l;
        fits =
            λ i h.
            let all = value_long in
            let e = ap (λ (k : ℕ). length (part start k s)) w.ends in
            let g : get_or v i 0 ≡ get_or s (start + i) 0 =
            ap (λ (x : List ℕ). get_or x i 0) (sym p) ∙ part_get start next i s (omega (arith, w.ends, ap length p)) in
            omega (arith, f (start + i));
      }

  pub bytes_met :
      {E : Type 0} (Q : E → Type 0) (m : ℕ) (r : Result (List ℕ) E) {v : List ℕ} → MatchResult r (λ y. IsWholeChunk (part start next s) y m) Q → Some v ≡ result_ok r →
      ((i : ℕ) → Fits w8 (get_or s i 0)) → Bytes s at number flag m v next
  bytes_met Q m (Ok y) {v} k e f =
      let q : v ≡ y = cc in
      let p : part start next s ≡ v = sym (q ∙ k.same) in
      bytes_from m p (sym (ap length p) ∙ k.long) f
  bytes_met Q m (Err x) k e f = cc

-- as many bytes, one by one
byte_list : (v : List ℕ) → length v ≡ 1 → v ≡ get_or v 0 0 ∷ []
byte_list [] l = absurd (omega arith)
byte_list (a ∷ []) l = refl
byte_list (a ∷ b ∷ v) l = absurd (let z : length (a ∷ b ∷ v) ≡ 1 = l in omega arith)

pub pair_list : (v : List ℕ) → length v ≡ 2 → v ≡ get_or v 0 0 ∷ get_or v 1 0 ∷ []
pair_list [] l = absurd (omega arith)
pair_list (a ∷ []) l = absurd (omega arith)
pair_list (a ∷ b ∷ []) l = refl
pair_list (a ∷ b ∷ c ∷ v) l = absurd (let z : length (a ∷ b ∷ c ∷ v) ≡ 2 = l in omega arith)

three_list : (v : List ℕ) → length v ≡ 3 → v ≡ get_or v 0 0 ∷ get_or v 1 0 ∷ get_or v 2 0 ∷ []
three_list [] l = absurd (omega arith)
three_list (a ∷ []) l = absurd (omega arith)
three_list (a ∷ b ∷ []) l = absurd (omega arith)
three_list (a ∷ b ∷ c ∷ []) l = refl
three_list (a ∷ b ∷ c ∷ d ∷ v) l = absurd (let z : length (a ∷ b ∷ c ∷ d ∷ v) ≡ 3 = l in omega arith)

module _ {s : List ℕ} {at number : ℕ} {flag : Bool} {v : List ℕ} {next : ℕ} where
  pub byte_there : Bytes s at number flag 1 v next → Holds s at (object_with number flag (get_or v 0 0 ∷ [])) next
  byte_there b = subst (λ (x : List ℕ). Holds s at (object_with number flag x) next) (byte_list v b.long) b.holds

  pub pair_there : Bytes s at number flag 2 v next → Holds s at (object_with number flag (get_or v 0 0 ∷ get_or v 1 0 ∷ [])) next
  pair_there b = subst (λ (x : List ℕ). Holds s at (object_with number flag x) next) (pair_list v b.long) b.holds

  pub three_there : Bytes s at number flag 3 v next → Holds s at (object_with number flag (get_or v 0 0 ∷ get_or v 1 0 ∷ get_or v 2 0 ∷ [])) next
  three_there b = subst (λ (x : List ℕ). Holds s at (object_with number flag x) next) (three_list v b.long) b.holds

-- the place behind a short value
module _ {s : List ℕ} {at number : ℕ} {flag : Bool} {next : ℕ} where
  pub behind_one : {a : ℕ} → Holds s at (object_with number flag (a ∷ [])) next → next ≡ at + 3
  unfolding object_bytes length_bytes ◌⇒◌else◌
  behind_one h = h.behind

  pub behind_two : {a b : ℕ} → Holds s at (object_with number flag (a ∷ b ∷ [])) next → next ≡ at + 4
  unfolding object_bytes length_bytes ◌⇒◌else◌
  behind_two h = h.behind

-- a test that cannot be true, and tests that are true together
pub never : (b : Bool) → (b ≡ true → ⊥) → b ≡ false
never true h = absurd (h refl)
never false h = refl

together : (a b : Bool) → (a ≡ true → b ≡ true) → (b ≡ true → a ≡ true) → a ≡ b
together true b f g = sym (f refl)
together false b f g = sym (never b (λ e. false≢true (g e)))

and_assoc : (a b c : Bool) → a && (b && c) ≡ a && b && c
and_assoc true b c = refl
and_assoc false b c = refl

pub and_true : (b : Bool) → b && true ≡ b
and_true true = refl
and_true false = refl

pub hears_as : {t u : Told} {s : List ℕ} {r : Option heard.Response} → t ≡ u → Hears u s r → Hears t s r
hears_as e h = record { is = e ∙ h.is; at = h.at }

-- nothing is checked to be there
pub silent : (b : Bool) (os : List Object) (t : List ℕ) (r : Response) → (b ≡ true → t ≡ written os → ⊥) → checked b os t r ≡ untold NoResponse
unfolding checked
silent b os t r h = skip _ _ _ (never _ (λ e. h (both_left b _ e) (sym (same_true (written os) t (both_right b (same (written os) t) e)))))

pub follows_as : {t u : Told} (d : Details) (x : ℕ) (s : List ℕ) (r : Option (Further × Cursor)) → t ≡ u → Follows u d x s r → Follows t d x s r
follows_as d x s r e h = subst (λ (y : Told). Follows y d x s r) (sym e) h

pub hears_none : {t : Told} {s : List ℕ} → t ≡ untold NoResponse → Hears t s None
unfolding heard_of
hears_none e = record { is = e; at = tt }

module _ {s : List ℕ} {at : ℕ} {o : Object} {next : ℕ} (h : Holds s at o next) (named : Named o) where
  -- the same object is looked for, with a value
  pub same_step : (v : List ℕ) (os : List Object) → same (written (object_with o.number o.flag v ∷ os)) (drop at s) ≡ same v o.value && same (written os) (drop next s)
  unfolding written
  same_step v os =
      let p = object_with o.number o.flag v in
      together _ _
      (λ e.
      let f = sym (same_true (written (p ∷ os)) (drop at s) e) in
      let n : Named p = record { some = named.some; seven_bits = named.seven_bits } in
      both _ _
      (ap (λ (x : Object). same v x.value) (sym (same_object (drop at s) p os n f h.is)) ∙ same_refl v)
      (ap (same (written os)) (sym (same_behind (drop at s) p os n f h.is)) ∙ same_refl (written os)))
      (λ e.
      let q = same_true v o.value (both_left _ _ e) in
      let r = same_true (written os) (drop next s) (both_right (same v o.value) _ e) in
      ap (same (written (p ∷ os))) (h.form ∙ (λ i. object_bytes (object_with o.number o.flag (sym q i)) ++ sym r i)) ∙ same_refl (written (p ∷ os)))

  pub step : (b : Bool) (v : List ℕ) (os : List Object) (r : Response) → checked b (object_with o.number o.flag v ∷ os) (drop at s) r ≡ checked (b && same v o.value) os (drop next s) r
  unfolding checked
  step b v os r = ap (λ (k : Bool). k ⇒ told r else untold NoResponse) (ap (λ (k : Bool). b && k) (same_step v os) ∙ and_assoc b _ _)

  -- with the value that stands there, and with another
  pub step_on : (b : Bool) {v : List ℕ} (os : List Object) (r : Response) → v ≡ o.value → checked b (object_with o.number o.flag v ∷ os) (drop at s) r ≡ checked b os (drop next s) r
  step_on b {v} os r e = step b v os r ∙ ap (λ (k : Bool). checked k os (drop next s) r) (ap (λ (l : List ℕ). b && same v l) (sym e) ∙ ap (λ (k : Bool). b && k) (same_refl v) ∙ and_true b)

-- the bytes end here, or go on
module _ (s : List ℕ) (at : ℕ) (d : Details) (v : Verdict) where
  pub last_heard : length s ≤ at → VerdictAt v s → Hears (checked true [] (drop at s) (record { details = d; result = result_of v s })) s (Some (record { details = d; verdict = v }))
  unfolding checked heard_of written same
  last_heard h p = record { is = stop _ _ _ (ap (same []) (drop_of_length-le s h)); at = p }

  pub last_silent : at < length s → Hears (checked true [] (drop at s) (record { details = d; result = result_of v s })) s None
  unfolding written
  last_silent h = hears_none (silent true [] (drop at s) _ (λ _ e. let z : ◌≡◌ {A = ℕ} 0 1 = cc (drop-cons s at 0 h) in omega arith))
