-- Both forms of a tag mean the same object: a command with any of its tags in the other form is read as the same command.
-- Assumes nothing.
use Prim.Native.Nat.{ℕ, zero, suc, ◌+◌, ◌*◌, ◌%◌, ◌≤◌, ◌<◌}
use mathlib.Core.Path.{◌≡◌, refl, sym, ap, subst, ◌∙◌}
use mathlib.Core.Bool.{Bool, true, false, ◌||◌, false≢true}
use mathlib.Core.List.{List, [], ◌∷◌, ◌++◌, append_assoc}
use native.Mathlib.Omega.{arith}
use native.Mathlib.Nat.{le_of_suc-le-suc, not-suc-le-zero}
use lib.ListN.{length, drop}
use lib.Dec.{ltb, eqb}
use borrow.Author.Tests.{le-ltb, eq-eqb, ltb-false, eqb-false}
use Rattle.rules.specs.Checks.{◌⇒◌else◌, is_empty}
use Rattle.rules.specs.Frames.{LengthRead, len, no_length, long_length, length_at, length_bytes, Object, TagRead, long_tag, tag_at, ObjectRead, object, faulty, value_after, after_tag, object_at, Walk, onward, walk_up_to, walk, object_bytes, fills, following, framed, contents}
use Rattle.rules.specs.TagForms.{long_tag_bytes, object_in, written_in, retagged}
use Rattle.rules.specs.State.{State}
use Rattle.rules.specs.Reading.{Reading, reading, read_objects}
use Rattle.rules.specs.declared.Refusal.TheVariants.{ShortBuffer, CommandSize}
use Rattle.rules.specs.Written.{response_bytes}
use Rattle.rules.specs.Command.{Answer, answered, refusal, meant_by, command, Terms}
use Rattle.rules.specs.Sound.{Each}
use Rattle.rules.proofs.LongTags.{long_back}
use Rattle.rules.proofs.Laws.{branch, skip, either_left, either_right, each_drop}
use Rattle.rules.proofs.Walks.{ObjectLeaves, object_leaves, walk_end, walk_fault, walk_object}
use Rattle.rules.proofs.Forms.{length_back, value_back, object_back}

-- a byte, and a number that a tag can have
abbrev pub Byte : ℕ → Type 0
Byte b = b < 256

pub record Tagged (o : Object) : Type 0 where
  pub some : 1 ≤ o.number
  pub fifteen_bits : o.number ≤ 32767

-- an object in either form is read as it was written
pub object_in_back : (f : Bool) (o : Object) (s : List ℕ) → Tagged o → object_at (object_in f o ++ s) ≡ object o s
unfolding object_in object_at after_tag
object_in_back f o s h =
    branch (λ (t : List ℕ). object_at (t ++ s) ≡ object o s) (f || ltb 126 o.number) _ _
    (λ _.
    let v = length_bytes (length o.value) ++ o.value in
    ap object_at (append_assoc (long_tag_bytes o.number o.flag) v s)
    ∙ ap after_tag (long_back o.number o.flag (v ++ s) h.some h.fifteen_bits)
    ∙ ap (λ (r : List ℕ). value_after o.number o.flag (length_at r)) (append_assoc (length_bytes (length o.value)) o.value s)
    ∙ ap (value_after o.number o.flag) (length_back (length o.value) (o.value ++ s)) ∙ value_back o s)
    (λ e. object_back o s (record { some = h.some; seven_bits = ltb-false 126 o.number (either_right f (ltb 126 o.number) e) }))

-- an object that is met has bytes
pub walk_met : (t : List ℕ) (o : Object) (r : List ℕ) → object_at t ≡ object o r → walk t ≡ record { objects = o ∷ (walk r).objects; ending = (walk r).ending; rest = (walk r).rest }
unfolding object_at tag_at after_tag
walk_met [] o r e = absurd (let z : ◌≡◌ {A = ℕ} 0 1 = cc in omega arith)
walk_met (b ∷ t) o r e = walk_object b t o r e

-- the walk over objects in any forms, and on
abbrev behind : List Object → Walk → Walk
behind [] w = w
behind (o ∷ os) w = let v = behind os w in record { objects = o ∷ v.objects; ending = v.ending; rest = v.rest }

one_more_lem :
    (f : Bool) (fs : List Bool) (o : Object) (os : List Object) (r : List ℕ) → Tagged o → walk (written_in fs os ++ r) ≡ behind os (walk r) →
    walk ((object_in f o ++ written_in fs os) ++ r) ≡ behind (o ∷ os) (walk r)
one_more_lem f fs o os r t ih =
    walk_met _ o (written_in fs os ++ r) (ap object_at (append_assoc (object_in f o) (written_in fs os) r) ∙ object_in_back f o (written_in fs os ++ r) t)
    ∙ ap (λ (w : Walk). record { objects = o ∷ w.objects; ending = w.ending; rest = w.rest }) ih

walk_in : (fs : List Bool) (os : List Object) (r : List ℕ) → Each Tagged os → walk (written_in fs os ++ r) ≡ behind os (walk r)
unfolding written_in
walk_in fs [] r h = refl
walk_in [] (o ∷ os) r h = one_more_lem false [] o os r h.0 (walk_in [] os r h.1)
walk_in (f ∷ fs) (o ∷ os) r h = one_more_lem f fs o os r h.0 (walk_in fs os r h.1)

-- what is read from bytes has a number that a tag can have, and leaves bytes
abbrev LengthLeft : LengthRead → Type 0
LengthLeft no_length = Unit {0}
LengthLeft (len n s) = Each Byte s

abbrev ObjectLeft : ObjectRead → Type 0
ObjectLeft (faulty e) = Unit {0}
ObjectLeft (object o s) = Tagged o × Each Byte s

long_left : (s : List ℕ) → Each Byte s → LengthLeft (long_length s)
unfolding long_length
long_left [] h = tt
long_left (b ∷ s) h = branch LengthLeft _ _ _ (λ _. h.1) (λ _. tt)

length_left : (s : List ℕ) → Each Byte s → LengthLeft (length_at s)
unfolding length_at
length_left [] h = tt
length_left (b ∷ s) h = branch LengthLeft _ _ _ (λ _. h.1) (λ _. branch LengthLeft _ _ _ (λ _. long_left s h.1) (λ _. tt))

value_left : (n : ℕ) (f : Bool) (l : LengthRead) → 1 ≤ n → n ≤ 32767 → LengthLeft l → ObjectLeft (value_after n f l)
unfolding value_after
value_left n f no_length a b h = tt
value_left n f (len k s) a b h = branch ObjectLeft _ _ _ (λ _. tt) (λ _. (record { some = a; fifteen_bits = b }, each_drop Byte k s h))

long_tagged : (s : List ℕ) → Each Byte s → ObjectLeft (after_tag (long_tag s))
unfolding long_tag after_tag
long_tagged [] h = tt
long_tagged (b ∷ []) h = tt
long_tagged (b ∷ c ∷ s) h =
    branch (λ (r : TagRead). ObjectLeft (after_tag r)) _ _ _ (λ _. tt)
    (λ e.
    let n = eqb-false (256 * (b % 0x80) + c) 0 e in
    value_left _ _ (length_at s) (omega arith) (omega (arith, h.1.0)) (length_left s h.1.1))

object_left : (s : List ℕ) → Each Byte s → ObjectLeft (object_at s)
unfolding object_at tag_at after_tag
object_left [] h = tt
object_left (b ∷ s) h =
    branch (λ (r : TagRead). ObjectLeft (after_tag r)) _ _ _ (λ _. long_tagged s h.1)
    (λ _. branch (λ (r : TagRead). ObjectLeft (after_tag r)) _ _ _ (λ _. tt)
    (λ e.
    let n = eqb-false (b % 0x80) 0 (either_left (eqb (b % 0x80) 0) (eqb (b % 0x80) 0x7F) e) in
    value_left _ _ (length_at s) (omega arith) (omega arith) (length_left s h.1)))

-- a walk over bytes: its objects have such numbers, they stand before the rest, and it goes no further
pub record Halted (s : List ℕ) (w : Walk) : Type 0 where
  pub tagged : Each Tagged w.objects
  pub stays : walk w.rest ≡ record { objects = []; ending = w.ending; rest = w.rest }
  pub some : w.objects ≡ [] → w.rest ≡ s

halt_more : (b : ℕ) (s : List ℕ) (o : Object) (w : Walk) (r : List ℕ) → Tagged o → Halted r w → Halted (b ∷ s) (record { objects = o ∷ w.objects; ending = w.ending; rest = w.rest })
halt_more b s o w r t h = record { tagged = (t, h.tagged); stays = h.stays; some = λ e. absurd (let z : ◌≡◌ {A = ℕ} 0 1 = cc in omega arith) }

module _ (n : ℕ) (b : ℕ) (s : List ℕ) where
  halt_on : (x : ObjectRead) → object_at (b ∷ s) ≡ x → ObjectLeft x → ((o : Object) (r : List ℕ) → x ≡ object o r → Each Byte r → Halted r (walk_up_to n r)) → Halted (b ∷ s) (onward (b ∷ s) x (walk_up_to n))
  unfolding onward
  halt_on (faulty e) q l ih = record { tagged = tt; stays = walk_fault b s e q; some = λ _. refl }
  halt_on (object o r) q l ih = halt_more b s o (walk_up_to n r) r l.0 (ih o r refl l.1)

halted_from : (n : ℕ) (s : List ℕ) → length s ≤ n → Each Byte s → Halted s (walk_up_to n s)
unfolding walk_up_to
halted_from zero [] k h = record { tagged = tt; stays = walk_end; some = λ _. refl }
halted_from zero (b ∷ s) k h = absurd (not-suc-le-zero k)
halted_from (suc n) [] k h = record { tagged = tt; stays = walk_end; some = λ _. refl }
halted_from (suc n) (b ∷ s) k h =
    halt_on n b s (object_at (b ∷ s)) refl (object_left (b ∷ s) h)
    (λ o r q l. halted_from n r (let z : length r ≤ length s = subst (ObjectLeaves (length s)) q (object_leaves b s) in omega (arith, le_of_suc-le-suc k)) l)

halted : (s : List ℕ) → Each Byte s → Halted s (walk s)
unfolding walk
halted s h = halted_from (length s) s (omega arith) h

-- objects in another form are as many bytes or none as they were
some_in : (f : Bool) (o : Object) (t : List ℕ) → is_empty (object_in f o ++ t) ≡ false
unfolding object_in long_tag_bytes object_bytes is_empty
some_in f o t = branch (λ (l : List ℕ). is_empty (l ++ t) ≡ false) (f || ltb 126 o.number) _ _ (λ _. refl) (λ _. refl)

some_written : (fs : List Bool) (o : Object) (os : List Object) (r : List ℕ) → is_empty (written_in fs (o ∷ os) ++ r) ≡ false
unfolding written_in
some_written [] o os r = ap (λ (l : List ℕ). is_empty l) (append_assoc (object_in false o) (written_in [] os) r) ∙ some_in false o (written_in [] os ++ r)
some_written (f ∷ fs) o os r = ap (λ (l : List ℕ). is_empty l) (append_assoc (object_in f o) (written_in fs os) r) ∙ some_in f o (written_in fs os ++ r)

some_walked : (s : List ℕ) (o : Object) (os : List Object) → (walk s).objects ≡ o ∷ os → is_empty s ≡ false
unfolding is_empty
some_walked [] o os e = absurd (let w = walk_end in let z : ◌≡◌ {A = ℕ} 0 1 = cc in omega arith)
some_walked (b ∷ s) o os e = refl

module _ (s : List ℕ) (h : Each Byte s) (fs : List Bool) where
  abbrev w : Walk
  w = walk s

  abbrev again : List ℕ
  again = written_in fs w.objects ++ w.rest

  again_walked : walk again ≡ w
  again_walked =
      walk_in fs w.objects w.rest (halted s h).tagged ∙ ap (behind w.objects) (halted s h).stays ∙ all w.objects
    where
      all : (os : List Object) → behind os (record { objects = []; ending = w.ending; rest = w.rest }) ≡ record { objects = os; ending = w.ending; rest = w.rest }
      all [] = refl
      all (o ∷ os) = ap (λ (v : Walk). record { objects = o ∷ v.objects; ending = v.ending; rest = v.rest }) (all os)

  again_empty : is_empty again ≡ is_empty s
  unfolding written_in
  again_empty = by w.objects refl
    where
      by : (os : List Object) → w.objects ≡ os → is_empty (written_in fs os ++ w.rest) ≡ is_empty s
      by [] e = ap (λ (l : List ℕ). is_empty l) ((halted s h).some e)
      by (o ∷ os) e = some_written fs o os w.rest ∙ sym (some_walked s o os e)

  again_read : (p : List ℕ) → read_objects p again ≡ read_objects p s
  unfolding read_objects
  again_read p = rw (again_walked, again_empty)

bytes_followed : (l : LengthRead) → LengthLeft l → Each Byte (following l)
unfolding following
bytes_followed no_length h = tt
bytes_followed (len n s) h = h

-- a command with its tags in any forms is read as the same command, whatever it is: the same error, or the same values
pub forms_read : (p s : List ℕ) (fs : List Bool) → Each Byte s → framed s ≡ true → reading p (retagged fs s) ≡ reading p s
unfolding reading retagged framed contents fills following
forms_read p s fs h e =
    let c = contents s in
    let w = walk c in
    let t = written_in fs w.objects ++ w.rest in
    let head = length_back (length t) t in
    let same = again_read c (bytes_followed (length_at (drop 1 s)) (length_left (drop 1 s) (each_drop Byte 1 s h))) fs p in
    skip _ _ _ (rw (head, eq-eqb (length t) (length t) refl)) ∙ ap (λ (l : LengthRead). read_objects p (following l)) head ∙ same ∙ sym (skip _ _ _ (rw e))

some_framed : (s : List ℕ) → framed s ≡ true → is_empty s ≡ false
unfolding framed is_empty
some_framed [] e = absurd (false≢true e)
some_framed (b ∷ s) e = refl

some_retagged : (fs : List Bool) (s : List ℕ) → is_empty (retagged fs s) ≡ false
unfolding retagged is_empty
some_retagged fs s = refl

-- and answered as the same command, where both fit 256 bytes
pub forms_answered :
    (a : State) (terms : Terms) (s : List ℕ) (fs : List Bool) → Each Byte s → framed s ≡ true → length s ≤ 256 → length (retagged fs s) ≤ 256 →
    command a terms (retagged fs s) ≡ command a terms s
unfolding command
forms_answered a terms s fs h e short other =
    let few : (t : List ℕ) → is_empty t ≡ false → length t ≤ 256 → is_empty t || ltb 256 (length t) ≡ false = λ t f l. λ i. f i || le-ltb 256 (length t) l i in
    let read = forms_read a.profile s fs h e in
    let by : Bool → Reading → Answer = λ (b : Bool) (r : Reading).
    ltb terms.buffer 255 ⇒ refusal a ShortBuffer else b ⇒ refusal a CommandSize else answered (meant_by a r).state (response_bytes (meant_by a r).response) in
    λ i. by ((few (retagged fs s) (some_retagged fs s) other ∙ sym (few s (some_framed s e) short)) i) (read i)
