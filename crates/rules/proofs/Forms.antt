-- What is written is read back: lengths, objects, lists of objects, pairs of bytes and statuses.
-- Assumes nothing.
use Prim.Native.Nat.{ℕ, ◌+◌, ◌-◌, ◌%◌, ◌≤◌}
use mathlib.Core.Path.{◌≡◌, refl, ap, ◌∙◌}
use mathlib.Core.Bool.{Bool, true, false, false≢true}
use mathlib.Core.List.{List, [], ◌∷◌, ◌++◌, append_assoc}
use native.Mathlib.Omega.{arith}
use lib.ListN.{length, length-append}
use lib.Seq.{take-append_seam, drop-append_seam}
use lib.Dec.{ltb, leb, eqb}
use borrow.Author.Tests.{le-ltb, le-leb, lt-leb, eq-eqb, ne_eqb, ltb-false, eqb-true}
use Rattle.rules.specs.declared.ChannelNumber.{ChannelNumber}
use Rattle.rules.specs.declared.Ending.TheVariants.{End}
use Rattle.rules.specs.declared.Link.{Link}
use Rattle.rules.specs.declared.Link.TheVariants.{NotYet, Established, Dropped}
use Rattle.rules.specs.Checks.{◌⇒◌else◌, same}
use Rattle.rules.specs.Frames.{len, long_length, length_at, length_bytes, Object, object, tag, tag_at, value_after, after_tag, object_at, Walk, walk, object_bytes, written}
use Rattle.rules.specs.Reading.{Bearer, Transport, pair_in, bearer_in, transport_in}
use Rattle.rules.specs.Written.{pair_bytes, bearer_bytes, status_bytes}
use Rattle.rules.specs.Bench.{status_in}
use Rattle.rules.specs.Sound.{Each}
use Rattle.rules.proofs.Laws.{branch, stop, skip, both_left, both_right}
use Rattle.rules.proofs.Walks.{walk_end, walk_object}

-- a length in its shortest form is read as that length
pub length_back : (n : ℕ) (s : List ℕ) → length_at (length_bytes n ++ s) ≡ len n s
unfolding length_bytes length_at long_length
length_back n s =
    branch (λ (l : List ℕ). length_at (l ++ s) ≡ len n s) (ltb n 0x80) (n ∷ []) (0x81 ∷ n ∷ []) (λ e. stop _ _ _ e)
    (λ e. skip _ _ _ refl ∙ stop _ _ _ refl ∙ stop _ _ _ (le-leb 0x80 n (ltb-false n 0x80 e)))

-- a number that an object can have
pub record Named (o : Object) : Type 0 where
  pub some : 1 ≤ o.number
  pub seven_bits : o.number ≤ 126

-- the tag that is written has the number and the flag
tag_read : (t n : ℕ) (f : Bool) (s : List ℕ) → t % 0x80 ≡ n → leb 0x80 t ≡ f → 1 ≤ n → n ≤ 126 → tag_at (t ∷ s) ≡ tag n f s
unfolding tag_at
tag_read t n f s e b l h =
    skip _ _ _ (ne_eqb t 0x7F (omega arith)) ∙ skip _ _ _ (rw (ne_eqb (t % 0x80) 0 (omega arith), ne_eqb (t % 0x80) 0x7F (omega arith))) ∙ (λ i. tag (e i) (b i) s)

pub tag_back : (n : ℕ) (f : Bool) (s : List ℕ) → 1 ≤ n → n ≤ 126 → tag_at ((f ⇒ n + 0x80 else n) ∷ s) ≡ tag n f s
unfolding ◌⇒◌else◌
tag_back n true s l h = tag_read (n + 0x80) n true s (omega arith) (le-leb 0x80 (n + 0x80) (omega arith)) l h
tag_back n false s l h = tag_read n n false s (omega arith) (lt-leb 0x80 n (omega arith)) l h

-- an object is read as it was written
pub value_back : (o : Object) (s : List ℕ) → value_after o.number o.flag (len (length o.value) (o.value ++ s)) ≡ object o s
unfolding value_after
value_back o s =
    skip _ _ _ (let e = length-append o.value s in le-ltb (length (o.value ++ s)) (length o.value) (omega arith))
    ∙ (λ i.
    object
    (record { number = o.number; flag = o.flag; value = take-append_seam o.value s i })
    (drop-append_seam o.value s i))

pub object_back : (o : Object) (s : List ℕ) → Named o → object_at (object_bytes o ++ s) ≡ object o s
unfolding object_bytes object_at after_tag
object_back o s h =
    let n = o.number in
    let f = o.flag in
    ap after_tag (tag_back n f ((length_bytes (length o.value) ++ o.value) ++ s) h.some h.seven_bits)
    ∙ ap (λ (r : List ℕ). value_after n f (length_at r)) (append_assoc (length_bytes (length o.value)) o.value s)
    ∙ ap (value_after n f) (length_back (length o.value) (o.value ++ s))
    ∙ value_back o s

-- objects are walked as they were written
pub walk_written : (os : List Object) → Each Named os → walk (written os) ≡ record { objects = os; ending = End; rest = [] }
unfolding written object_bytes
walk_written [] h = walk_end
walk_written (o ∷ os) h =
    walk_object _ _ o (written os) (object_back o (written os) h.0)
    ∙ ap (λ (w : Walk). record { objects = o ∷ w.objects; ending = w.ending; rest = w.rest }) (walk_written os h.1)

-- the test that two lists are the same tells it
pub same_refl : (s : List ℕ) → same s s ≡ true
unfolding same
same_refl [] = refl
same_refl (x ∷ s) = rw (eq-eqb x x refl, same_refl s)

pub same_true : (s t : List ℕ) → same s t ≡ true → s ≡ t
unfolding same
same_true [] [] e = refl
same_true [] (y ∷ t) e = absurd (false≢true e)
same_true (x ∷ s) [] e = absurd (false≢true e)
same_true (x ∷ s) (y ∷ t) e =
    λ i. eqb-true x y (both_left (eqb x y) (same s t) e) i ∷ same_true s t (both_right (eqb x y) (same s t) e) i

-- two bytes, a bearer, a transport level and a status are read as they were written
pub pair_back : (n : ℕ) → pair_in (pair_bytes n) ≡ n
unfolding pair_in pair_bytes
pair_back n = omega arith

pub bearer_back : (b : Bearer) → bearer_in (bearer_bytes b) ≡ b
unfolding bearer_in bearer_bytes
bearer_back b = refl

pub transport_back : (t : Transport) → transport_in (t.protocol ∷ pair_bytes t.port) ≡ t
unfolding transport_in
transport_back t = λ i. record { protocol = t.protocol; port = pair_back t.port i }

pub status_back : (n : ChannelNumber) (l : Link) → n.0 ≤ 7 → status_in (status_bytes n l) ≡ record { number = n; link = l }
unfolding status_in status_bytes
status_back n NotYet h = skip _ _ _ refl ∙ skip _ _ _ (lt-leb 0x80 n.0 (omega arith))
status_back n Established h =
    let e : n.0 + 0x80 - 0x80 ≡ n.0 = omega arith in
    skip _ _ _ refl ∙ stop _ _ _ (le-leb 0x80 (n.0 + 0x80) (omega arith)) ∙ (λ i. record { number = record { 0 = e i }; link = Established })
status_back n Dropped h = stop _ _ _ refl
